-- A cell is the sum of its four bytes, the lowest first, and below 2 ^ 32.
use native.Mathlib.Omega.{arith}
use Rattle.cells.proofs.Laws.{cell_sum}
use Rattle.cells.proofs.cell_at.Goals as goal

pub returns : goal.returns
returns c = let a = c.args in omega (arith, cell_sum a.t.now a.at, c.from_le_bytes.ensures)
