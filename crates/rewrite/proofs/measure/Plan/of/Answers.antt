-- Reading's refusal, then the runs, then the places.
use Prim.Native.Nat.{ℕ, ◌+◌, ◌*◌, ◌≤◌}
use mathlib.Core.Path.{◌≡◌, ap}
use native.Mathlib.Omega.{arith}
use Rattle.std.proofs.Common.{rules, Err}
use Rattle.format.specs.Reading.{clip_of}
use Rattle.clip_sections.specs.declared.sections.Sections.{Sections}
use Rattle.clip_sections.proofs.Laws.{accepted_bounds}
use Rattle.clip_information.proofs.FillLaws.{sound, cpi_section}
use Rattle.rewrite.proofs.Refusals.{reading_refuses, runs_refuse}
use Rattle.rewrite.proofs.Plans.{counted, programs_at, short, sums, planned}
use Rattle.rewrite.proofs.measure.Plan.of.Goals as goal

pub returns-in_err-sections : goal.returns-in_err-sections
returns-in_err-sections c =
    let passed_on : c.from_residual.result ≡ Err c.in_err-sections.field-0.0 = search rules in
    rw passed_on (reading_refuses c.args.file.now c.in_err-sections.ensures)

pub read-starts-requires : goal.read-starts-requires
read-starts-requires c =
    let f = c.args.file.now in
    omega (arith, accepted_bounds f (counted f (λ i. (c.type_inv.file i).fits) c.in_ok-sections.ensures).accepts)

pub cpi_length-requires : goal.cpi_length-requires
cpi_length-requires c =
    let f = c.args.file.now in
    let is = counted f (λ i. (c.type_inv.file i).fits) c.in_ok-sections.ensures in
    cpi_section f is.accepts c.read-starts.ensures.cpi (ap (λ (x : Sections). x.maps) is.same)

pub returns-in_err-len : goal.returns-in_err-len
returns-in_err-len c =
    let f = c.args.file.now in
    let passed_on : c.from_residual-in_err-len.result ≡ Err c.in_err-len.field-0.0 = search rules in
    rw passed_on (runs_refuse f (counted f (λ i. (c.type_inv.file i).fits) c.in_ok-sections.ensures).accepts c.read-starts.ensures.cpi c.in_err-len.ensures)

pub overflow_mul-programs : goal.overflow_mul-programs
overflow_mul-programs c =
    let f = c.args.file.now in
    let b = λ (i : ℕ). (c.type_inv.file i).fits in
    record { fits = omega (arith, programs_at f b c.in_ok-sections.ensures, short f b c.in_ok-sections.ensures c.read-starts.ensures.cpi c.in_ok-len.ensures) }

pub overflow_add-programs : goal.overflow_add-programs
overflow_add-programs c =
    let f = c.args.file.now in
    let b = λ (i : ℕ). (c.type_inv.file i).fits in
    record { fits = omega (arith, programs_at f b c.in_ok-sections.ensures, short f b c.in_ok-sections.ensures c.read-starts.ensures.cpi c.in_ok-len.ensures) }

pub overflow_mul-programs-2 : goal.overflow_mul-programs-2
overflow_mul-programs-2 c =
    let f = c.args.file.now in
    let b = λ (i : ℕ). (c.type_inv.file i).fits in
    record { fits = omega (arith, programs_at f b c.in_ok-sections.ensures, short f b c.in_ok-sections.ensures c.read-starts.ensures.cpi c.in_ok-len.ensures) }

pub overflow_add-programs-2 : goal.overflow_add-programs-2
overflow_add-programs-2 c =
    let f = c.args.file.now in
    let b = λ (i : ℕ). (c.type_inv.file i).fits in
    record { fits = omega (arith, programs_at f b c.in_ok-sections.ensures, short f b c.in_ok-sections.ensures c.read-starts.ensures.cpi c.in_ok-len.ensures) }

pub programs_length-requires : goal.programs_length-requires
programs_length-requires c =
    let f = c.args.file.now in
    rw c.read-starts.ensures.programs (sound f (counted f (λ i. (c.type_inv.file i).fits) c.in_ok-sections.ensures).accepts).programs_in

pub overflow_add-cpi : goal.overflow_add-cpi
overflow_add-cpi c =
    let f = c.args.file.now in
    let b = λ (i : ℕ). (c.type_inv.file i).fits in
    record { fits = omega (arith, sums f b c.in_ok-sections.ensures c.read-starts.ensures.cpi c.in_ok-len.ensures c.read-starts.ensures.programs c.programs_length.ensures) }

pub overflow_add-marks : goal.overflow_add-marks
overflow_add-marks c =
    let f = c.args.file.now in
    let b = λ (i : ℕ). (c.type_inv.file i).fits in
    record { fits = omega (arith, sums f b c.in_ok-sections.ensures c.read-starts.ensures.cpi c.in_ok-len.ensures c.read-starts.ensures.programs c.programs_length.ensures) }

pub returns : goal.returns
returns c =
    planned c.args.file.now (λ i. (c.type_inv.file i).fits) c.in_ok-sections.ensures c.read-starts.ensures.cpi c.in_ok-len.ensures c.read-starts.ensures.programs c.programs_length.ensures
