-- The plan's refusal, or the place behind its last section.
use Prim.Native.Nat.{◌+◌}
use mathlib.Core.Path.{◌≡◌}
use native.Mathlib.Omega.{arith}
use Rattle.std.proofs.Common.{rules, Err}
use Rattle.rewrite.specs.Rewrite.{Ready}
use Rattle.rewrite.proofs.Refusals.{refusal_told, ready_told, marks_short, length_refuses, length_tells}
use Rattle.rewrite.proofs.rewrite.rewritten_length.Goals as goal
use Rattle.rewrite.proofs.rewrite.rewritten_length.Goals.{In_ok-of}

-- the plan is the file's
ready : (c : In_ok-of) → Ready c.args.file.now c.in_ok-of.field-0 (c.in_ok-of.field-0.places.marks + 6)
ready c = ready_told c.args.file.now (c.in_ok-of.field-0.places.marks + 6) c.in_ok-of.ensures (omega arith)

pub returns-in_err-of : goal.returns-in_err-of
returns-in_err-of c =
    let f = c.args.file.now in
    let passed_on : c.from_residual.result ≡ Err c.in_err-of.field-0.0 = search rules in
    rw passed_on (length_refuses f (refusal_told f c.in_err-of.ensures))

pub overflow_add-result : goal.overflow_add-result
overflow_add-result c =
    let r = ready (goal.at.overflow_add-result c).In_ok-of in
    record { fits = omega (arith, r.placed.marks_at, marks_short c.args.file.now (λ i. (c.type_inv.file i).fits) r.rewritable) }

pub returns : goal.returns
returns c =
    let r = ready (goal.at.returns c).In_ok-of in
    length_tells c.args.file.now r.rewritable r.placed.marks_at
