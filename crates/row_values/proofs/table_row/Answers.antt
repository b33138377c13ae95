-- Each turn reads one cell more.
use Rattle.std.proofs.Common.{arith}
use Rattle.row_values.proofs.Cells.{cells_few, one_read}
use Rattle.row_values.proofs.table_row.Goals as goal

pub loop-k-preserved : goal.loop-k-preserved
loop-k-preserved c =
    let l = c.loop-k in
    one_read c.args.t.now c.args.p l.row l.k c.cell_at.result l.invariant (omega (arith, c.loop-k-test.true, c.cells_of-k-end.ensures, cells_few c.args.kind)) c.cell_at.ensures.same
