-- Each turn stores the coarse row of one run and goes to the next; what is left goes behind it.
use Prim.Native.Nat.{◌+◌, ◌≤◌}
use native.Mathlib.Omega.{arith}
use lib.ListN.{length}
use Rattle.map_runs.proofs.Turns.{end_past}
use Rattle.map_runs.proofs.Bodies.{met_below, coarse_first, coarse_room, coarse_turn}
use Rattle.map_runs.proofs.body.put_coarse.Goals as goal

pub loop-k-init : goal.loop-k-init
loop-k-init c =
    let a = c.args in
    coarse_first a.file.now a.m a.out.now a.at c.start-walk.result c.start-walk.ensures

pub put_coarse_row-requires : goal.put_coarse_row-requires
put_coarse_row-requires c =
    let room : c.loop-k.to + 8 ≤ length c.loop-k.out = let a = c.args in
    let l = c.loop-k in
    coarse_room a.file.now a.m a.out.now a.at l.out l.walk l.to l.k l.invariant c.loop-k-test.true c.requires.room in
    (omega (arith, c.requires.rows.few, c.loop-k-test.true), met_below c.args.file.now c.args.m c.loop-k.k c.meet-first.result c.meet-first.ensures, room)

pub loop-k-smaller : goal.loop-k-smaller
loop-k-smaller c =
    let a = c.args in
    omega (arith, end_past a.file.now a.m c.loop-k.k c.run_end-end.result c.loop-k-test.true c.run_end-end.ensures, c.loop-k-test.true)

pub loop-k-preserved : goal.loop-k-preserved
loop-k-preserved c =
    let a = c.args in
    let l = c.loop-k in
    coarse_turn a.file.now a.m a.out.now a.at l.out l.walk l.to l.k l.invariant c.loop-k-test.true c.meet-first.result c.run_end-end.result
    c.meet-first.ensures c.run_end-end.ensures c.put_coarse_row.ensures
