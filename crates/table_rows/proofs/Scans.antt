-- The rows of a table that are left while a loop goes over them.
use Prim.Native.Nat.{ℕ, zero, suc, ◌+◌, ◌*◌, ◌-◌, ◌<◌, ◌≤◌}
use mathlib.Core.Path.{◌≡◌, refl}
use mathlib.Core.List.{List, [], ◌∷◌, map}
use native.Mathlib.Nat.{zero-add}
use lib.ListN.{drop}
use Rattle.format.specs.Bytes.{rows_at}
use Rattle.format.specs.ClipRecord.{Row}
use Rattle.format.specs.Tables.{cells_at, table_rows_of}
use Rattle.format.proofs.Rows as Rows
use Rattle.format.proofs.Rows.{rows_length, drop_rows}

module _ (cells : ℕ) (t : List ℕ) (n : ℕ) where
  -- those from row k on
  abbrev pub rows_left : ℕ → List Row
  rows_left k = rows_at (cells_at t cells) (λ p. p + 4 * cells) (4 * cells * k) (n - k)

  -- before the first turn all are left
  pub left_all : rows_left 0 ≡ table_rows_of cells t n
  unfolding table_rows_of
  left_all = rw zero-add at (Rows.left_all (cells_at t cells) (4 * cells) 0 n)

  -- with a turn to go, row k and those behind it
  pub left_turn : (k : ℕ) → k < n → rows_left k ≡ cells_at t cells (4 * cells * k) ∷ rows_left (k + 1)
  left_turn k h = rw (zero-add (4 * cells * k), zero-add (4 * cells * (k + 1))) at (Rows.left_turn (cells_at t cells) (4 * cells) 0 n k h)

  -- at the end none
  pub left_done : (k : ℕ) → n ≤ k → rows_left k ≡ []
  left_done k h = rw zero-add at (Rows.left_done (cells_at t cells) (4 * cells) 0 n k h)

-- the numbers of the rows behind the first k
pub drop_map : {A B : Type 0} (f : A → B) (k : ℕ) (xs : List A) → drop k (map f xs) ≡ map f (drop k xs)
drop_map f zero xs = refl
drop_map f (suc k) [] = refl
drop_map f (suc k) (x ∷ xs) = drop_map f k xs
