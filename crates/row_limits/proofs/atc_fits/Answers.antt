-- The packet has 32 bits.
use borrow.Author.Rules.{rules}
use Rattle.row_limits.proofs.Fits.{any_cell}
use Rattle.row_limits.proofs.atc_fits.Goals as goal

pub returns-then-cell_at-lt256 : goal.returns-then-cell_at-lt256
returns-then-cell_at-lt256 c =
    let a = c.args in
    let wide = any_cell a.t.now (λ i. (c.type_inv.t i).fits) a.p in
    search rules
