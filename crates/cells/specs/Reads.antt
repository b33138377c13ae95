-- What a read of a cell answers.
use Rattle.std.specs.Prelude.{ℕ, ◌<◌, ◌^◌, ◌≡◌, List}
use Rattle.format.specs.Tables.{cell_at}

-- the cell at `at`
pub record CellIs (t : List ℕ) (at r : ℕ) : Type 0 where
  pub same : r ≡ cell_at t at
  pub below : r < 2 ^ 32
