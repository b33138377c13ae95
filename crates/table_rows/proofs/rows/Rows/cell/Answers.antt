-- The cell of the row, inside the bytes.
use mathlib.Core.Path.{refl}
use Rattle.format.proofs.Cell.{cell_of, cell_room}
use Rattle.table_rows.proofs.rows.Rows.cell.Goals as goal

pub cell_at-requires : goal.cell_at-requires
cell_at-requires g c = cell_room g.row.CELLS c.args.self.bytes.now c.args.self.count c.args.row c.args.cell c.requires.0 c.requires.1 c.args.self.inside

pub returns : goal.returns
returns g c = cell_of g.row.CELLS c.args.self.bytes.now c.args.self.count c.args.row c.args.cell c.requires.0 c.requires.1 refl c.cell_at.ensures.same
