-- The first rows are those of a table with so many.
use Rattle.table_rows.proofs.AllRows.{front_rows}
use Rattle.table_rows.proofs.rows.Rows.front.Goals as goal

pub returns : goal.returns
returns g c = front_rows g.row.CELLS c.args.self.bytes.now c.args.self.count c.args.count c.requires
