-- Each cell is stored behind those before it.
use native.Mathlib.Omega.{arith}
use Rattle.std.proofs.lemmas.List.{take_all}
use Rattle.cells.proofs.Laws.{one_more}
use Rattle.cells.proofs.put_row.Goals as goal

pub loop-k-preserved : goal.loop-k-preserved
loop-k-preserved g c =
    let i = c.loop-k.invariant in
    record { stored = one_more c.args.t.now c.args.at c.args.cells c.loop-k.k (omega (arith, i.size, c.loop-k-test.true)) i.stored c.put_cell.ensures; size = i.size }

pub returns : goal.returns
returns g c =
    let i = c.loop-k.invariant in
    rw (← take_all c.loop-k.k c.args.cells (omega (arith, i.size, c.loop-k-test.false))) i.stored
