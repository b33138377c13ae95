-- The cells before this one are read.
use Rattle.row_values.proofs.Cells.{CellsRead}
use Rattle.row_values.proofs.table_row.Given as goal

abbrev pub invariant-loop-k : goal.invariant-loop-k
invariant-loop-k l = CellsRead l.t l.p l.row l.k
