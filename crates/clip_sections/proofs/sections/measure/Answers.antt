-- Each return, by the sections that passed before it.
use mathlib.Core.Path.{◌≡◌, sym, ◌∙◌}
use mathlib.Core.Bool.{true}
use native.Mathlib.Omega.{arith}
use lib.ListN.{length}
use lib.Dec.{leb}
use borrow.Author.Tests.{le-leb}
use Rattle.std.proofs.lemmas.Result.{err_from_is_err_and}
use Rattle.refusals.specs.Numbers.{number_of}
use Rattle.refusals.proofs.Laws.{number_positive, refused_as}
use Rattle.format.specs.ClipRecord.{sequences_start, programs_start, cpi_start, sequences_end}
use Rattle.format.specs.Programs.{programs_end}
use Rattle.section_heads.specs.declared.Section.{Section}
use Rattle.info_sections.proofs.Sections.{CountsAre, counts_are, past_end}
use Rattle.clip_sections.specs.Clips.{front_of}
use Rattle.clip_sections.proofs.Laws.{front_facts, front_refused, sequences_refused, programs_refused, index_refused, marks_refused, all_counted, cpi_refused, cpi_counts}
use Rattle.clip_sections.proofs.sections.measure.Goals as goal
use Rattle.clip_sections.proofs.sections.measure.Goals.{In_ok-front, In_ok-sequences, In_ok-programs}

pub returns-in_err-front : goal.returns-in_err-front
returns-in_err-front c =
    let p = err_from_is_err_and c.from_residual.result c.from_residual.ensures.1 in
    let e = c.in_err-front.field-0.0 in
    rw (p.1, p.2) (front_refused c.args.file.now (number_of e) c.in_err-front.ensures (λ z. let some = number_positive e in omega arith))

-- the front passes
front_passed : (c : In_ok-front) → front_of c.args.file.now ≡ 0
front_passed c = sym c.in_ok-front.ensures

pub read-starts-requires : goal.read-starts-requires
read-starts-requires c = omega (arith, front_facts c.args.file.now (front_passed (goal.at.read-starts-requires c).In_ok-front))

pub returns-in_err-sequences : goal.returns-in_err-sequences
returns-in_err-sequences c =
    let f = c.args.file.now in
    let p = err_from_is_err_and c.from_residual-in_err-sequences.result c.from_residual-in_err-sequences.ensures.1 in
    let none = c.in_err-sequences.ensures.ok_part in
    let past = rw (c.read-starts.ensures.sequences, none) at (sym c.measure.ensures) in
    rw (p.1, p.2, refused_as c.in_err-sequences.ensures.value none)
    (sequences_refused f (front_passed (goal.at.returns-in_err-sequences c).In_ok-front) (past_end Section.Sequences f (sequences_start f) past))

-- the sequences are counted
sequences_are : (c : In_ok-sequences) → CountsAre Section.Sequences c.args.file.now (sequences_start c.args.file.now) c.in_ok-sequences.sequences.heads c.in_ok-sequences.sequences.rows
sequences_are c =
    let f = c.args.file.now in
    counts_are Section.Sequences f (sequences_start f) (rw (c.read-starts.ensures.sequences, c.in_ok-sequences.ensures.ok_part) at (sym c.measure.ensures))

-- they end within the file
sequences_in : (c : In_ok-sequences) → leb (sequences_end c.args.file.now (sequences_start c.args.file.now)) (length c.args.file.now) ≡ true
sequences_in c = le-leb (sequences_end c.args.file.now (sequences_start c.args.file.now)) (length c.args.file.now) (sequences_are c).ends

pub returns-in_err-programs : goal.returns-in_err-programs
returns-in_err-programs c =
    let f = c.args.file.now in
    let p = err_from_is_err_and c.from_residual-in_err-programs.result c.from_residual-in_err-programs.ensures.1 in
    let none = c.in_err-programs.ensures.ok_part in
    let past = rw (c.read-starts.ensures.programs, none) at (sym c.measure-2.ensures) in
    let front = front_passed (goal.at.returns-in_err-programs c).In_ok-front in
    rw (p.1, p.2, refused_as c.in_err-programs.ensures.value none)
    (programs_refused f front (sequences_in (goal.at.returns-in_err-programs c).In_ok-sequences) (past_end Section.Programs f (programs_start f) past))

-- the programs are counted
programs_are : (c : In_ok-programs) → CountsAre Section.Programs c.args.file.now (programs_start c.args.file.now) c.in_ok-programs.programs.heads c.in_ok-programs.programs.rows
programs_are c =
    let f = c.args.file.now in
    counts_are Section.Programs f (programs_start f) (rw (c.read-starts.ensures.programs, c.in_ok-programs.ensures.ok_part) at (sym c.measure-2.ensures))

-- they end within the file
programs_in : (c : In_ok-programs) → leb (programs_end c.args.file.now (programs_start c.args.file.now)) (length c.args.file.now) ≡ true
programs_in c = le-leb (programs_end c.args.file.now (programs_start c.args.file.now)) (length c.args.file.now) (programs_are c).ends

pub measure-requires-3 : goal.measure-requires-3
measure-requires-3 c = (front_facts c.args.file.now (front_passed (goal.at.measure-requires-3 c).In_ok-front)).0

pub returns-in_err-index : goal.returns-in_err-index
returns-in_err-index c =
    let f = c.args.file.now in
    let p = err_from_is_err_and c.from_residual-in_err-index.result c.from_residual-in_err-index.ensures.1 in
    let i = cpi_refused f (cpi_start f) (rw c.read-starts.ensures.cpi at (sym c.in_err-index.ensures)) in
    let front = front_passed (goal.at.returns-in_err-index c).In_ok-front in
    let sequences = sequences_in (goal.at.returns-in_err-index c).In_ok-sequences in
    let programs = programs_in (goal.at.returns-in_err-index c).In_ok-programs in
    rw (p.1, p.2) (index_refused f front sequences programs (number_of c.in_err-index.field-0.0) i.0 i.1)

pub returns-then-not-marks_in : goal.returns-then-not-marks_in
returns-then-not-marks_in c =
    let f = c.args.file.now in
    let front = front_passed (goal.at.returns-then-not-marks_in c).In_ok-front in
    let sequences = sequences_in (goal.at.returns-then-not-marks_in c).In_ok-sequences in
    let programs = programs_in (goal.at.returns-then-not-marks_in c).In_ok-programs in
    let index = (cpi_counts f (cpi_start f) c.in_ok-index.index (rw c.read-starts.ensures.cpi at (sym c.in_ok-index.ensures))).0 in
    marks_refused f front sequences programs index (rw c.read-starts.ensures.marks at (sym c.marks_in.ensures) ∙ c.if-not-marks_in.true)

pub returns : goal.returns
returns c =
    let f = c.args.file.now in
    let front = front_passed (goal.at.returns c).In_ok-front in
    let sequences = sequences_are (goal.at.returns c).In_ok-sequences in
    let programs = programs_are (goal.at.returns c).In_ok-programs in
    let i = cpi_counts f (cpi_start f) c.in_ok-index.index (rw c.read-starts.ensures.cpi at (sym c.in_ok-index.ensures)) in
    all_counted f front (sequences_in (goal.at.returns c).In_ok-sequences) (programs_in (goal.at.returns c).In_ok-programs) i.0
    (rw c.read-starts.ensures.marks at (sym c.marks_in.ensures) ∙ c.if-not-marks_in.false)
    sequences.heads_are sequences.rows_are programs.heads_are programs.rows_are i.1 i.2
