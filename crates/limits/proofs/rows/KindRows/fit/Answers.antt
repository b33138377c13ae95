-- The rows from the front.
use Rattle.format.specs.Tables.{table_rows_of}
use Rattle.limits.proofs.rows.KindRows.fit.Goals as goal

pub returns : goal.returns
unfolding table_rows_of
returns c = c.rows_fit.ensures
