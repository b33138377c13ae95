-- One turn of the loop over rows, and tables whose counts add up.
use Prim.Native.Nat.{ℕ, ◌+◌, ◌*◌, ◌-◌, ◌<◌, ◌≤◌}
use mathlib.Core.Path.{◌≡◌, ◌∙◌}
use mathlib.Core.List.{List}
use mathlib.Core.Bool.{Bool, true, false}
use native.Mathlib.Nat.{suc-mul}
use native.Mathlib.Omega.{arith}
use lib.ListN.{length}
use borrow.Author.Tests.{leb-true, eqb-true}
use Rattle.format.specs.Bytes.{both, every, total, rows_at}
use Rattle.format.specs.ClipRecord.{Row}
use Rattle.format.specs.Tables.{Table, rows_of, cells_at, row_room}
use Rattle.format.proofs.Loops.{one_left, none_left}
use Rattle.format.proofs.Tables.{rows_stated}
use Rattle.format.proofs.Tests.{both_true}
use Rattle.table_rows.specs.OwnRows.{head_cells, cell_in, is_counted}

-- ---- rows one behind the other, of so many cells each

module _ (test : Row → Bool) (cells : ℕ) (t : List ℕ) (p n : ℕ) where
  -- m rows from a place
  abbrev pub rows_here : ℕ → ℕ → List Row
  rows_here at m = rows_at (cells_at t cells) (λ q. q + 4 * cells) at m

  -- what the rows left from here say is what all say, and they are there
  pub record Tested (k at : ℕ) : Type 0 where
    pub same : every test (rows_here at (n - k)) ≡ every test (rows_here p n)
    pub room : at + (n - k) * (4 * cells) ≤ length t

  -- before the first turn
  pub tested_first : p + n * (4 * cells) ≤ length t → Tested 0 p
  tested_first h =
      let all : n - 0 ≡ n = omega arith in
      record { same = rw all; room = rw all h }

  module _ (k at : ℕ) (more : k < n) (i : Tested k at) where
    -- the next row and those behind it are there
    rooms : at + 4 * cells + (n - (k + 1)) * (4 * cells) ≤ length t
    rooms =
        let r = rw (one_left n k more, suc-mul (n - (k + 1)) (4 * cells)) at i.room in
        omega arith

    -- and so is the next row alone
    pub tested_room : at + 4 * cells ≤ length t
    tested_room = let r = rooms in omega arith

    -- the next row decides with those behind it
    next : both (test (cells_at t cells at)) (every test (rows_here (at + 4 * cells) (n - (k + 1)))) ≡ every test (rows_here p n)
    next = rw (one_left n k more) at i.same

    module _ {b : Bool} (is : b ≡ test (cells_at t cells at)) where
      -- it fails
      pub tested_fails : b ≡ false → false ≡ every test (rows_here p n)
      tested_fails h = rw (← is, h) at next

      -- it passes
      pub tested_turn : b ≡ true → {size : ℕ} → size ≡ 4 * cells → Tested (k + 1) (at + size)
      tested_turn h {size} e = record { same = rw e (rw (← is, h) at next); room = rw e rooms }

  -- none is left
  pub tested_done : (k at : ℕ) → n ≤ k → Tested k at → true ≡ every test (rows_here p n)
  tested_done k at h i = rw (none_left n k h) at i.same

-- ---- tables whose counts add up

-- the rows of both tables are there, and the counts add up to those counted
pub record Counts (cell cells : ℕ) (heads rows : Table) : Type 0 where
  pub heads_there : heads.rows ≤ row_room head_cells heads.bytes
  pub rows_there : rows.rows ≤ row_room cells rows.bytes
  pub adds : total (cell_in cell) (rows_of head_cells heads) ≡ rows.rows

-- what the test of 22 tells of two tables
pub counts : (cell cells : ℕ) (heads rows : Table) → is_counted cell cells heads rows ≡ true → Counts cell cells heads rows
unfolding is_counted
counts cell cells heads rows h =
    let tests = both_true h in
    let there = both_true tests.0 in
    record {
      heads_there = leb-true heads.rows (row_room head_cells heads.bytes) there.0;
      rows_there = leb-true rows.rows (row_room cells rows.bytes) (both_true there.1).0;
      adds = eqb-true (total (cell_in cell) (rows_of head_cells heads)) (length (rows_of cells rows)) tests.1 ∙ rows_stated cells rows.bytes rows.rows;
    }
