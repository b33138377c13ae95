-- An error leaves the tables as they were; once all is ready each table is filled by its own pass.
use mathlib.Core.Path.{◌∙◌}
use Prim.Native.Nat.{ℕ}
use mathlib.Core.List.{List}
use native.Mathlib.Omega.{arith}
use Rattle.std.proofs.lemmas.Result.{err_from_is_err_and}
use Rattle.format.specs.Extensions.{extension_rows}
use Rattle.format.specs.Reading.{record_of}
use Rattle.format.specs.Refusals.{tables_of}
use Rattle.format.specs.Tables.{Nine}
use Rattle.clip_prepare.specs.Prepare.{ReadyIs}
use Rattle.clip_information.specs.Read.{nine_tables_of, lengths_of}
use Rattle.clip_sections.proofs.Laws.{accepted_bounds}
use Rattle.clip_information.proofs.FillLaws.{filled_from}
use Rattle.clip_information.proofs.ReadLaws.{answer_tables, left, sections_fit, extensions_fit, list_fits, stated}
use Rattle.clip_information.proofs.read.read.Goals as goal
use Rattle.clip_information.proofs.read.read.Goals.{After-prepare, In_ok-ready}

-- the lent tables
abbrev lent : (c : After-prepare) → Nine (List ℕ)
lent c = let a = c.args in nine_tables_of a.atcs.now a.stcs.now a.programs.now a.streams.now a.maps.now a.entries.now a.extensions.now a.programs2.now a.streams2.now

pub returns-in_err-ready : goal.returns-in_err-ready
returns-in_err-ready c =
    let a = c.args in
    let p = err_from_is_err_and c.from_residual.result c.from_residual.ensures.1 in
    let t = lent (goal.at.returns-in_err-ready c).After-prepare in
    let error = c.in_err-ready.field-0.0 in
    rw (p.1, p.2)
    record {
      result_value = c.in_err-ready.ensures.answer ∙ answer_tables a.file.now t;
      atcs_after = left error (tables_of a.file.now).atcs a.atcs.now;
      stcs_after = left error (tables_of a.file.now).stcs a.stcs.now;
      programs_after = left error (tables_of a.file.now).programs a.programs.now;
      streams_after = left error (tables_of a.file.now).streams a.streams.now;
      maps_after = left error (tables_of a.file.now).maps a.maps.now;
      entries_after = left error (tables_of a.file.now).entries a.entries.now;
      extensions_after = left error (tables_of a.file.now).extensions a.extensions.now;
      programs2_after = left error (tables_of a.file.now).list_programs a.programs2.now;
      streams2_after = left error (tables_of a.file.now).list_streams a.streams2.now;
    }

-- all is ready
ready : (c : In_ok-ready) → ReadyIs c.args.file.now (lengths_of (lent (goal.at.In_ok-ready c).After-prepare)) c.in_ok-ready.ready
ready c = c.in_ok-ready.ensures.ready

pub fill_sections-requires : goal.fill_sections-requires
fill_sections-requires c = sections_fit c.args.file.now (lent (goal.at.fill_sections-requires c).After-prepare) (ready (goal.at.fill_sections-requires c).In_ok-ready)

pub read-requires : goal.read-requires
read-requires c = omega (arith, accepted_bounds c.args.file.now (ready (goal.at.read-requires c).In_ok-ready).accepts)

pub fill-requires : goal.fill-requires
fill-requires c = extensions_fit c.args.file.now (lent (goal.at.fill-requires c).After-prepare) (ready (goal.at.fill-requires c).In_ok-ready) c.read.ensures.extensions

pub fill_list-requires : goal.fill_list-requires
fill_list-requires c = list_fits c.args.file.now (lent (goal.at.fill_list-requires c).After-prepare) (ready (goal.at.fill_list-requires c).In_ok-ready)

pub of-requires : goal.of-requires
of-requires c = (ready (goal.at.of-requires c).In_ok-ready).accepts

pub returns : goal.returns
unfolding tables_of record_of
returns c =
    let f = c.args.file.now in
    let t = lent (goal.at.returns c).After-prepare in
    let r = ready (goal.at.returns c).In_ok-ready in
    let s = c.fill_sections.ensures in
    rw c.of.ensures
    record {
      result_value = stated f t r ∙ c.in_ok-ready.ensures.answer ∙ answer_tables f t;
      atcs_after = s.atcs_after;
      stcs_after = s.stcs_after;
      programs_after = s.programs_after;
      streams_after = s.streams_after;
      maps_after = s.maps_after;
      entries_after = s.entries_after;
      extensions_after = filled_from (extension_rows f) c.args.extensions.now c.read.ensures.extensions c.fill.ensures;
      programs2_after = c.fill_list.ensures.programs_after;
      streams2_after = c.fill_list.ensures.streams_after;
    }
