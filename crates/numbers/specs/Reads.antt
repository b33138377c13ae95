-- What a read of a number answers.
use Rattle.std.specs.Prelude.{ℕ, ◌<◌, ◌^◌, ◌≡◌, List}
use Rattle.format.specs.Bytes.{be_at}

-- the big-endian number of n bytes at `at`
pub record ReadIs (s : List ℕ) (at n r : ℕ) : Type 0 where
  pub same : r ≡ be_at s at n
  pub below : r < 256 ^ n
