-- Each return, by what was measured before it.
use mathlib.Core.Path.{sym}
use native.Mathlib.Omega.{arith}
use Rattle.std.proofs.lemmas.Result.{err_from_is_err_and}
use Rattle.clip_sections.proofs.Laws.{SectionsAre, sections_are, accepted_bounds}
use Rattle.clip_prepare.proofs.PrepareLaws.{Passed, sections_refused, room_short, room_enough, made_ready}
use Rattle.clip_prepare.proofs.prepare.Goals as goal
use Rattle.clip_prepare.proofs.prepare.Goals.{In_ok-sections, After-table_room}

pub returns-in_err-sections : goal.returns-in_err-sections
returns-in_err-sections c =
    let p = err_from_is_err_and c.from_residual.result c.from_residual.ensures.1 in
    rw (p.1, p.2) record { answer = sections_refused c.args.file.now c.args.bytes _ c.in_err-sections.ensures; ready = tt }

-- the sections are measured
measured : (c : In_ok-sections) → SectionsAre c.args.file.now c.in_ok-sections.sections
measured c = sections_are c.args.file.now (sym c.in_ok-sections.ensures)

pub read-requires : goal.read-requires
read-requires c = omega (arith, accepted_bounds c.args.file.now (measured (goal.at.read-requires c).In_ok-sections).accepts)

pub measure-found-requires : goal.measure-found-requires
measure-found-requires c = (accepted_bounds c.args.file.now (measured (goal.at.measure-found-requires c).In_ok-sections).accepts).0

-- so is all else
passed : (c : After-table_room)
    → Passed c.args.file.now c.in_ok-sections.sections c.read.result.extensions c.measure-found.result c.measure_list-second.result c.unwrap_or-listed.result
passed c = record {
  sections = measured (goal.at.After-table_room c).In_ok-sections;
  start_is = c.read.ensures.extensions;
  block = c.measure-found.ensures;
  second_is = c.measure_list-second.ensures;
  listed_is = c.unwrap_or-listed.ensures;
}

pub returns-in_err-table_room : goal.returns-in_err-table_room
returns-in_err-table_room c =
    let a = c.args in
    let p = err_from_is_err_and c.from_residual-in_err-table_room.result c.from_residual-in_err-table_room.ensures.1 in
    rw (p.1, p.2) record { answer = room_short a.file.now a.bytes (passed (goal.at.returns-in_err-table_room c).After-table_room) c.in_err-table_room.ensures; ready = tt }

pub returns : goal.returns
returns c =
    let a = c.args in
    let all = passed (goal.at.returns c).After-table_room in
    rw c.and.ensures
    record {
      answer = room_enough a.file.now a.bytes all c.in_ok-table_room.ensures;
      ready = made_ready a.file.now a.bytes all c.in_ok-table_room.ensures;
    }
