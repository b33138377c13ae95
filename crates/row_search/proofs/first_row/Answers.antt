-- There are as many rows as are counted.
use Rattle.format.proofs.Tables.{rows_stated}
use Rattle.table_rows.specs.AllRows.{rows_in}
use Rattle.row_search.proofs.first_row.Goals as goal

pub returns : goal.returns
returns g c = λ test is. c.first_of.ensures test (rows_in c.args.rows) (rows_stated g.row.CELLS c.args.rows.bytes.now c.args.rows.count) is
