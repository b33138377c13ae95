-- One test after the other, in the order of the refusals; then the places.
use mathlib.Core.Bool.{true}
use mathlib.Core.Path.{◌≡◌, sym, ◌∙◌}
use native.Mathlib.Omega.{arith}
use lib.ListN.{length}
use Rattle.std.proofs.Common.{rules, Err}
use Rattle.format.specs.ClipRecord.{are_letters}
use Rattle.format.specs.Tables.{clip_in}
use Rattle.format.specs.Rewriting.{cpi_bytes}
use Rattle.refusals.specs.declared.Refusal.{Refusal}
use Rattle.clip_information.specs.Read.{scalars_by}
use Rattle.limits.specs.Stated.{stated_tables}
use Rattle.encode_measure.specs.Places.{refusal_in, pairs_counted}
use Rattle.encode_measure.proofs.Tests.{passes_by, refused_by, places_by}
use Rattle.encode_measure.proofs.Parts.{place_programs, place_cpi, place_marks}
use Rattle.encode_measure.proofs.Tables.{refused_22, counted_by, refused_40, fields_of, fields_refused, tables_there, cpi_refused, cpi_told, sequences_counted, programs_counted, sequences_long, programs_long, cpi_there, cpi_counted, none_refused, marks_bound}
use Rattle.encode_measure.proofs.measure.Goals as goal
use Rattle.encode_measure.proofs.measure.Goals.{Else-not-counts_add, Else-not-is_clip, Else-not-fields_fit, In_ok-len}

-- the counts add up
counted : (c : Else-not-counts_add) → pairs_counted (stated_tables (scalars_by c.args.info) c.args.tables) ≡ true
counted c = counted_by (stated_tables (scalars_by c.args.info) c.args.tables) c.counts_add.ensures c.if-not-counts_add.false

-- the letters are right
lettered : (c : Else-not-is_clip) → are_letters c.args.info.letters ≡ true
lettered c = passes_by c.is_clip.ensures c.if-not-is_clip.false

-- every cell but those of the entries fits
fields : (c : Else-not-fields_fit) → fields_of (stated_tables (scalars_by c.args.info) c.args.tables) ≡ true
fields c = passes_by c.fields_fit.ensures c.if-not-fields_fit.false

-- nothing is refused, and the length is that of the CPI
measured : (c : In_ok-len) → let l = stated_tables (scalars_by c.args.info) c.args.tables in (refusal_in l ≡ 0) × (c.in_ok-len.len ≡ length (cpi_bytes (clip_in l)))
measured c =
    let l = stated_tables (scalars_by c.args.info) c.args.tables in
    let told = cpi_told l (passes_by c.fields_fit.ensures c.if-not-fields_fit.false) (sym c.cpi_length.ensures ∙ c.in_ok-len.was) in (
      none_refused l (record { counted = counted_by l c.counts_add.ensures c.if-not-counts_add.false; letters = passes_by c.is_clip.ensures c.if-not-is_clip.false; fit = told.0; runs_fit_lem = told.1.0 }),
      told.1.1,
    )

pub returns-then-not-counts_add : goal.returns-then-not-counts_add
returns-then-not-counts_add c =
    let l = stated_tables (scalars_by c.args.info) c.args.tables in
    refused_by (refusal_in l) (clip_in l) Refusal.Rows (refused_22 l c.counts_add.ensures c.if-not-counts_add.true)

pub returns-then-not-is_clip : goal.returns-then-not-is_clip
returns-then-not-is_clip c =
    let l = stated_tables (scalars_by c.args.info) c.args.tables in
    refused_by (refusal_in l) (clip_in l) Refusal.RecordLetters (refused_40 l (counted (goal.at.returns-then-not-is_clip c).Else-not-counts_add) c.is_clip.ensures c.if-not-is_clip.true)

pub fields_fit-requires : goal.fields_fit-requires
fields_fit-requires c = tables_there (scalars_by c.args.info) c.args.tables (counted (goal.at.fields_fit-requires c).Else-not-counts_add)

pub returns-then-not-fields_fit : goal.returns-then-not-fields_fit
returns-then-not-fields_fit c =
    let l = stated_tables (scalars_by c.args.info) c.args.tables in
    let p = goal.at.returns-then-not-fields_fit c in
    refused_by (refusal_in l) (clip_in l) Refusal.Cells (fields_refused l (counted p.Else-not-counts_add) (lettered p.Else-not-is_clip) c.fields_fit.ensures c.if-not-fields_fit.true)

pub cpi_length-requires : goal.cpi_length-requires
cpi_length-requires c =
    let l = stated_tables (scalars_by c.args.info) c.args.tables in
    let p = goal.at.cpi_length-requires c in
    (cpi_there l (counted p.Else-not-counts_add), cpi_counted l (counted p.Else-not-counts_add) (fields p.Else-not-fields_fit))

pub returns-in_err-len : goal.returns-in_err-len
returns-in_err-len c =
    let l = stated_tables (scalars_by c.args.info) c.args.tables in
    let p = goal.at.returns-in_err-len c in
    let passed_on : c.from_residual.result ≡ Err c.in_err-len.field-0.0 = search rules in
    rw passed_on (refused_by (refusal_in l) (clip_in l) _ (cpi_refused l (counted p.Else-not-counts_add) (lettered p.Else-not-is_clip) (fields p.Else-not-fields_fit) (sym c.cpi_length.ensures ∙ c.in_err-len.was)))

pub section_length-programs-requires : goal.section_length-programs-requires
section_length-programs-requires c =
    sequences_counted (stated_tables (scalars_by c.args.info) c.args.tables) (counted (goal.at.section_length-programs-requires c).Else-not-counts_add)

pub section_length-requires : goal.section_length-requires
section_length-requires c = programs_counted (stated_tables (scalars_by c.args.info) c.args.tables) (counted (goal.at.section_length-requires c).Else-not-counts_add)

pub overflow_add-programs : goal.overflow_add-programs
overflow_add-programs c =
    let l = stated_tables (scalars_by c.args.info) c.args.tables in
    let clip = clip_in l in
    let m = measured (goal.at.overflow_add-programs c).In_ok-len in
    record { fits = omega (arith, marks_bound l m.0, sequences_long l c.section_length-programs.ensures, place_programs clip, place_cpi clip, place_marks clip) }

pub overflow_add-cpi : goal.overflow_add-cpi
overflow_add-cpi c =
    let l = stated_tables (scalars_by c.args.info) c.args.tables in
    let clip = clip_in l in
    let m = measured (goal.at.overflow_add-cpi c).In_ok-len in
    record { fits = omega (arith, marks_bound l m.0, sequences_long l c.section_length-programs.ensures, programs_long l c.section_length.ensures, place_programs clip, place_cpi clip, place_marks clip) }

pub overflow_add-marks : goal.overflow_add-marks
overflow_add-marks c =
    let l = stated_tables (scalars_by c.args.info) c.args.tables in
    let clip = clip_in l in
    let m = measured (goal.at.overflow_add-marks c).In_ok-len in
    record { fits = omega (arith, marks_bound l m.0, m.1, sequences_long l c.section_length-programs.ensures, programs_long l c.section_length.ensures, place_programs clip, place_cpi clip, place_marks clip) }

pub returns : goal.returns
returns c =
    let l = stated_tables (scalars_by c.args.info) c.args.tables in
    let clip = clip_in l in
    let m = measured (goal.at.returns c).In_ok-len in
    let first = sequences_long l c.section_length-programs.ensures in
    let second = programs_long l c.section_length.ensures in
    places_by (refusal_in l) clip m.0 (omega (arith, first, place_programs clip)) (omega (arith, first, second, place_programs clip, place_cpi clip)) (omega (arith, first, second, m.1, place_programs clip, place_cpi clip, place_marks clip))
