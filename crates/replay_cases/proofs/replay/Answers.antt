-- Each case stands behind the one before; what is counted, with what is left, is the whole.
use Prim.Native.Nat.{◌+◌}
use mathlib.Core.Path.{ap, ◌∙◌}
use native.Mathlib.Omega.{arith}
use lib.ListN.{length}
use Rattle.std.proofs.lemmas.Slice.{between_to_end}
use Rattle.replay_cases.proofs.SampleLaws.{flag_is, none_counted, ended, one_counted}
use Rattle.replay_cases.proofs.replay.Goals as goal

pub loop-rest-init : goal.loop-rest-init
loop-rest-init c = none_counted c.args.sample.now

pub loop-rest-preserved : goal.loop-rest-preserved
loop-rest-preserved c =
    let l = c.loop-rest in
    let rest = l.rest.now in
    let n = c.cell_at-n.ensures.same in
    let m = c.cell_at-m.ensures.same in
    let count = ap (λ k. l.same + k) (c.from-same.ensures ∙ flag_is c.is_case_same.result) in
    one_counted c.args.sample.now (omega (arith, n, m)) (rw (← n, ← m) c.is_case_same.ensures) count
    (between_to_end rest (8 + c.cell_at-n.result + c.cell_at-m.result) (length rest) (omega arith) ∙ rw (n, m)) l.invariant

pub returns-after-loop-rest : goal.returns-after-loop-rest
returns-after-loop-rest c = ended c.args.sample.now (omega arith) c.loop-rest.invariant

pub returns-then-n-m : goal.returns-then-n-m
returns-then-n-m c =
    ended c.args.sample.now (omega (arith, c.cell_at-n.ensures.same, c.cell_at-m.ensures.same)) c.loop-rest.invariant
