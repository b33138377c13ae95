-- Cell j of row k of a lent table: where it stands, that it lies inside the table, and that it is what the row says.
use Prim.Native.Nat.{ℕ, zero, suc, ◌+◌, ◌*◌, ◌<◌, ◌≤◌}
use mathlib.Core.Path.{◌≡◌, sym, ap, ◌∙◌}
use mathlib.Core.List.{List, []}
use native.Mathlib.Nat.{zero-add, add-zero, mul-zero, mul-suc, suc-mul, mul_assoc, mul_comm, le_trans, mul-le-mul_right, div-mul-le_self}
use native.Mathlib.Omega.{arith}
use lib.ListN.{length, get_or}
use Rattle.format.specs.Bytes.{rows_at}
use Rattle.format.specs.Tables.{cell_at, cells_at, table_rows_of, row_room}

-- item k of items that stand w apart from p
pub item_at : {A : Type 0} (row : ℕ → A) (none : A) (w p n k : ℕ) → k < n → get_or (rows_at row (λ q. q + w) p n) k none ≡ row (p + w * k)
item_at row none w p zero k h = absurd (omega arith)
item_at row none w p (suc n) zero h = rw (mul-zero w, add-zero p)
item_at row none w p (suc n) (suc k) h =
    let e : p + w + w * k ≡ p + w * suc k = rw mul-suc (omega arith) in
    item_at row none w (p + w) n k (omega arith) ∙ ap row e

-- what is read at the place of cell j of the row at q is that cell
pub row_cell : (t : List ℕ) (cells q j : ℕ) {at r : ℕ} → j < cells → at ≡ q + 4 * j → r ≡ cell_at t at → r ≡ get_or (cells_at t cells q) j 0
row_cell t cells q j h e is = is ∙ ap (cell_at t) e ∙ sym (item_at (cell_at t) 0 4 q cells j h)

-- the rows that a table has room for lie inside it
pub rows_room : (cells : ℕ) (t : List ℕ) {n : ℕ} → n ≤ row_room cells t → n * (4 * cells) ≤ length t
rows_room cells t h = le_trans (mul-le-mul_right (4 * cells) h) (div-mul-le_self (length t) (4 * cells))

-- row k of a table
pub row_of : (cells : ℕ) (t : List ℕ) (n k : ℕ) → k < n → get_or (table_rows_of cells t n) k [] ≡ cells_at t cells (4 * cells * k)
unfolding table_rows_of
row_of cells t n k h = item_at (cells_at t cells) [] (4 * cells) 0 n k h ∙ ap (cells_at t cells) (zero-add (4 * cells * k))

module _ (cells : ℕ) (t : List ℕ) (n k j : ℕ) (row : k < n) (cell : j < cells) where
  -- where the cell stands
  place : 4 * cells * k + 4 * j ≡ 4 * (cells * k + j)
  place = rw (mul_assoc 4 cells k) (omega arith)

  -- so with a row of a table
  pub cell_of : {at r : ℕ} → at ≡ 4 * (cells * k + j) → r ≡ cell_at t at → r ≡ get_or (get_or (table_rows_of cells t n) k []) j 0
  cell_of e is = row_cell t cells (4 * cells * k) j cell (e ∙ sym place) is ∙ sym (ap (λ (cs : List ℕ). get_or cs j 0) (row_of cells t n k row))

  -- the cell's four bytes lie inside a table that has room for the rows
  pub cell_room : n ≤ row_room cells t → 4 * (cells * k + j) + 4 ≤ length t
  cell_room h =
      let upto : suc k * (4 * cells) ≤ length t = le_trans (mul-le-mul_right (4 * cells) row) (rows_room cells t h) in
      let e : k * (4 * cells) ≡ 4 * (cells * k) = mul_comm k (4 * cells) ∙ mul_assoc 4 cells k in
      omega (arith, rw (suc-mul k (4 * cells), e) at upto)
