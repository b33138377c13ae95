-- Each turn goes from a run to the next.
use native.Mathlib.Omega.{arith}
use Rattle.map_runs.proofs.Turns.{counted_first, counted_turn, end_past}
use Rattle.map_runs.proofs.walked.count_runs.Goals as goal

pub loop-k-init : goal.loop-k-init
loop-k-init c = counted_first c.args.file.now c.args.m c.start-walk.result c.start-walk.ensures

pub loop-k-smaller : goal.loop-k-smaller
loop-k-smaller c =
    omega (arith, end_past c.args.file.now c.args.m c.loop-k.k c.run_end-end.result c.loop-k-test.true c.run_end-end.ensures, c.loop-k-test.true)

pub loop-k-preserved : goal.loop-k-preserved
loop-k-preserved c =
    let l = c.loop-k in
    counted_turn c.args.file.now c.args.m l.walk l.count l.k c.run_end-end.result l.invariant c.loop-k-test.true c.run_end-end.ensures
