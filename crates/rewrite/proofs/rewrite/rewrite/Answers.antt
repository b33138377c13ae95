-- The plan's refusal, an output that is too short, or the whole new file stored.
use Prim.Native.Nat.{ℕ, ◌+◌, ◌≤◌}
use mathlib.Core.Path.{◌≡◌, refl}
use native.Mathlib.Omega.{arith}
use lib.ListN.{length}
use Rattle.std.proofs.Common.{rules, Err}
use Rattle.format.specs.Reading.{clip_of}
use Rattle.encode.specs.declared.write.WriteError.{WriteError}
use Rattle.encode.proofs.Answers.{answer_refused, answer_short, answer_written, output_written}
use Rattle.rewrite.specs.Rewrite.{rewrite_refusal, rewrite_answer, Ready}
use Rattle.rewrite.proofs.Refusals.{refusal_told, ready_told, marks_short}
use Rattle.rewrite.proofs.rewrite.rewrite.Goals as goal
use Rattle.rewrite.proofs.rewrite.rewrite.Goals.{In_ok-plan}

-- the plan is the file's, and an output with room for the new one is ready
ready : (c : In_ok-plan) → (size : ℕ) → c.in_ok-plan.plan.places.marks + 6 ≤ size → Ready c.args.file.now c.in_ok-plan.plan size
ready c size room = ready_told c.args.file.now size c.in_ok-plan.ensures room

pub returns-in_err-plan : goal.returns-in_err-plan
unfolding rewrite_answer
returns-in_err-plan c =
    let f = c.args.file.now in
    let passed_on : c.from_residual.result ≡ Err (WriteError.Refused c.in_err-plan.field-0.0) = search rules in
    rw passed_on (record { result_value = answer_refused (rewrite_refusal f) (clip_of f) c.args.out.now (refusal_told f c.in_err-plan.ensures); out_after = refl })

pub overflow_add-len : goal.overflow_add-len
overflow_add-len c =
    let p = (goal.at.overflow_add-len c).In_ok-plan in
    let r = ready p (p.in_ok-plan.plan.places.marks + 6) (omega arith) in
    record { fits = omega (arith, r.placed.marks_at, marks_short c.args.file.now (λ i. (c.type_inv.file i).fits) r.rewritable) }

pub returns-then-out-len : goal.returns-then-out-len
unfolding rewrite_answer
returns-then-out-len c =
    let f = c.args.file.now in
    let p = (goal.at.returns-then-out-len c).In_ok-plan in
    let r = ready p (p.in_ok-plan.plan.places.marks + 6) (omega arith) in
    record { result_value = answer_short (rewrite_refusal f) (clip_of f) c.args.out.now r.rewritable r.placed.marks_at (omega arith); out_after = refl }

pub put_sections-requires : goal.put_sections-requires
put_sections-requires c = ready (goal.at.put_sections-requires c).In_ok-plan (length c.args.out.now) (omega arith)

pub returns : goal.returns
unfolding rewrite_answer
returns c =
    let f = c.args.file.now in
    let out = c.args.out.now in
    let r = ready (goal.at.returns c).In_ok-plan (length out) (omega arith) in
    record { result_value = answer_written (rewrite_refusal f) (clip_of f) out r.rewritable r.placed.marks_at r.placed.room; out_after = output_written (rewrite_refusal f) (clip_of f) out r.placed.marks_at r.placed.room c.put_sections.ensures }
