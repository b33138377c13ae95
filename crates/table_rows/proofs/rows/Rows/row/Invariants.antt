-- The cells so far are those of the row.
use Rattle.std.proofs.Common.{get_or, []}
use Rattle.table_rows.specs.AllRows.{rows_in}
use Rattle.table_rows.proofs.AllRows.{Copied}
use Rattle.table_rows.proofs.rows.Rows.row.Given as goal

abbrev pub invariant-loop-k : goal.invariant-loop-k
invariant-loop-k g l = Copied (get_or (rows_in l.self) l.row []) l.cell-items l.k
