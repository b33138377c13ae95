-- A refusal, an output that is too short, or the whole file stored.
use Prim.Native.Nat.{ℕ, ◌+◌, ◌≤◌}
use mathlib.Core.Path.{◌≡◌, refl}
use native.Mathlib.Omega.{arith}
use lib.ListN.{length}
use Rattle.std.proofs.Common.{rules, Err}
use Rattle.format.specs.Tables.{clip_in}
use Rattle.format.specs.Refusals.{write_answer}
use Rattle.clip_information.specs.Read.{scalars_by}
use Rattle.limits.specs.Stated.{stated_tables}
use Rattle.encode_measure.specs.Places.{refusal_in, marks_place, Ready}
use Rattle.encode_measure.proofs.Tests.{refused_told, none_told, placed_told}
use Rattle.encode_measure.proofs.Tables.{marks_bound}
use Rattle.encode.specs.declared.write.WriteError.{WriteError}
use Rattle.encode.proofs.Answers.{answer_refused, answer_short, answer_written, output_written}
use Rattle.encode.proofs.write.write.Goals as goal
use Rattle.encode.proofs.write.write.Goals.{In_ok-places}

-- places are told: nothing is refused, and in an output with room for the file they are ready
ready : (c : In_ok-places) → (bytes : ℕ) → c.in_ok-places.places.marks + 6 ≤ bytes → Ready (stated_tables (scalars_by c.args.info) c.args.tables) c.in_ok-places.places bytes
ready c bytes room =
    let l = stated_tables (scalars_by c.args.info) c.args.tables in
    record { writable = none_told (refusal_in l) (clip_in l) c.measure.ensures c.in_ok-places.was; placed = placed_told (refusal_in l) (clip_in l) c.measure.ensures bytes c.in_ok-places.was room }

-- the marks are the last of them
marked : (c : In_ok-places) → c.in_ok-places.places.marks ≡ marks_place (clip_in (stated_tables (scalars_by c.args.info) c.args.tables))
marked c = (ready c (c.in_ok-places.places.marks + 6) (omega arith)).placed.marks_at

-- and nothing is refused
none : (c : In_ok-places) → refusal_in (stated_tables (scalars_by c.args.info) c.args.tables) ≡ 0
none c = (ready c (c.in_ok-places.places.marks + 6) (omega arith)).writable

pub returns-in_err-places : goal.returns-in_err-places
unfolding write_answer
returns-in_err-places c =
    let l = stated_tables (scalars_by c.args.info) c.args.tables in
    let passed_on : c.from_residual.result ≡ Err (WriteError.Refused c.in_err-places.field-0.0) = search rules in
    rw passed_on (record { result_value = answer_refused (refusal_in l) (clip_in l) c.args.out.now (refused_told (refusal_in l) (clip_in l) c.measure.ensures c.in_err-places.was); out_after = refl })

pub overflow_add-len : goal.overflow_add-len
overflow_add-len c =
    let p = (goal.at.overflow_add-len c).In_ok-places in
    record { fits = omega (arith, marked p, marks_bound (stated_tables (scalars_by c.args.info) c.args.tables) (none p)) }

pub returns-then-out-len : goal.returns-then-out-len
unfolding write_answer
returns-then-out-len c =
    let l = stated_tables (scalars_by c.args.info) c.args.tables in
    let p = (goal.at.returns-then-out-len c).In_ok-places in
    record { result_value = answer_short (refusal_in l) (clip_in l) c.args.out.now (none p) (marked p) (omega arith); out_after = refl }

pub put_sections-requires : goal.put_sections-requires
put_sections-requires c = ready (goal.at.put_sections-requires c).In_ok-places (length c.args.out.now) (omega arith)

pub returns : goal.returns
unfolding write_answer
returns c =
    let l = stated_tables (scalars_by c.args.info) c.args.tables in
    let p = (goal.at.returns c).In_ok-places in
    let room : c.in_ok-places.places.marks + 6 ≤ length c.args.out.now = omega arith in
    record { result_value = answer_written (refusal_in l) (clip_in l) c.args.out.now (none p) (marked p) room; out_after = output_written (refusal_in l) (clip_in l) c.args.out.now (marked p) room c.put_sections.ensures }
