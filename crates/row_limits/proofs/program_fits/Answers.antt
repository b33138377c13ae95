-- The packet has 32 bits.
use borrow.Author.Rules.{rules}
use Rattle.row_limits.proofs.Fits.{any_cell}
use Rattle.row_limits.proofs.program_fits.Goals as goal

pub returns-then-cell_at-lt65536 : goal.returns-then-cell_at-lt65536
returns-then-cell_at-lt65536 c =
    let a = c.args in
    let wide = any_cell a.t.now (λ i. (c.type_inv.t i).fits) a.p in
    search rules
