-- Each turn adds a header row's count.
use Rattle.table_rows.specs.AllRows.{rows_in}
use Rattle.table_rows.proofs.OwnRows.{Sum}
use Rattle.table_rows.proofs.own.count_rows.Given as goal

abbrev pub invariant-loop-k : goal.invariant-loop-k
invariant-loop-k l = Sum (rows_in l.heads) l.cell l.k l.sum
