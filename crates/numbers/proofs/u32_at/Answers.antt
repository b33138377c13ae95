-- A number of four bytes at most fits a cell.
use Rattle.numbers.proofs.Wide.{cell_fits}
use Rattle.numbers.proofs.u32_at.Goals as goal

pub overflow_cast-result : goal.overflow_cast-result
overflow_cast-result g c = record { fits = cell_fits g.row.N c.requires.1 c.be_at.ensures.below }
