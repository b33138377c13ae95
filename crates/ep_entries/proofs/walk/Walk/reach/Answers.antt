-- Each turn steps to the next coarse row, which is there; a row less is left.
use native.Mathlib.Omega.{arith}
use Rattle.ep_entries.proofs.Walks.{walking_on, walking_less, steps_on}
use Rattle.ep_entries.proofs.walk.Walk.reach.Goals as goal

pub step-w-requires : goal.step-w-requires
step-w-requires c =
    let steps = c.loop-w.invariant.steps in
    (steps.room, (steps_on c.args.file.now c.args.m.num_fine c.loop-w.w steps (omega (arith, c.loop-w-test.true))).0)

pub loop-w-smaller : goal.loop-w-smaller
loop-w-smaller c =
    walking_less c.args.file.now c.args.m.num_fine c.loop-w.w c.loop-w.invariant.steps (omega (arith, c.loop-w-test.true)) c.step-w.ensures

pub loop-w-preserved : goal.loop-w-preserved
loop-w-preserved c =
    walking_on c.args.file.now c.args.m.num_fine c.args.k c.args.self c.loop-w.w c.loop-w.invariant c.loop-w-test.true (omega (arith, c.loop-w-test.true)) c.step-w.ensures
