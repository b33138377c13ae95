-- The cells of a row of a table, read one behind the other.
use Prim.Native.Nat.{ℕ, suc, ◌+◌, ◌*◌, ◌<◌, ◌≤◌}
use mathlib.Core.Path.{◌≡◌, refl, ap, ap₂, ◌∙◌}
use mathlib.Core.List.{List, ◌∷◌}
use native.Mathlib.Omega.{arith}
use lib.ListN.{length, get_or, set}
use Rattle.std.proofs.lemmas.Grind.{get_or-set_at}
use Rattle.std.proofs.lemmas.List.{get_or-set_other, length-set}
use Rattle.format.specs.Tables.{cell_at, cells_at}
use Rattle.row_values.specs.declared.RowKind.{RowKind}
use Rattle.row_values.specs.Kinds.{cells_of, row_of}

-- the cell at p, and those behind it
pub cell_and : (t : List ℕ) (p at n : ℕ) {v : ℕ} {row : List ℕ} → at ≡ p → v ≡ cell_at t at → row ≡ cells_at t n (p + 4) → v ∷ row ≡ cells_at t (suc n) p
cell_and t p at n place e f = ap₂ (λ (x : ℕ) (xs : List ℕ). x ∷ xs) (e ∙ ap (cell_at t) place) f

-- no kind has more than five cells
pub cells_few : (kind : RowKind) → cells_of kind ≤ 5
cells_few RowKind.Atc = omega arith
cells_few RowKind.Stc = omega arith
cells_few RowKind.Program = omega arith
cells_few RowKind.Stream = omega arith

module _ (t : List ℕ) (p : ℕ) where
  -- the first k of a row's five cells are those at p
  pub record CellsRead (row : List ℕ) (k : ℕ) : Type 0 where
    pub long : length row ≡ 5
    pub same : (j : ℕ) → j < k → get_or row j 0 ≡ cell_at t (p + 4 * j)

  -- one more
  pub one_read : (row : List ℕ) (k v : ℕ) → CellsRead row k → k < 5 → v ≡ cell_at t (p + 4 * k) → CellsRead (set row k v) (k + 1)
  one_read row k v r few is = record { long = length-set row k v ∙ r.long; same = λ j h. grind (arith, r.same j, get_or-set_at, get_or-set_other, is, r.long) }

  -- as many as the kind has: they are its row
  pub all_read : (kind : RowKind) (row : List ℕ) → CellsRead row (cells_of kind) → row_of kind row ≡ cells_at t (cells_of kind) p
  all_read RowKind.Atc row r =
      cell_and t (p) (p + 4 * 0) 2 (omega arith) (r.same 0 (omega arith))
      (cell_and t (p + 4) (p + 4 * 1) 1 (omega arith) (r.same 1 (omega arith))
      (cell_and t (p + 4 + 4) (p + 4 * 2) 0 (omega arith) (r.same 2 (omega arith))
      refl))
  all_read RowKind.Stc row r =
      cell_and t (p) (p + 4 * 0) 3 (omega arith) (r.same 0 (omega arith))
      (cell_and t (p + 4) (p + 4 * 1) 2 (omega arith) (r.same 1 (omega arith))
      (cell_and t (p + 4 + 4) (p + 4 * 2) 1 (omega arith) (r.same 2 (omega arith))
      (cell_and t (p + 4 + 4 + 4) (p + 4 * 3) 0 (omega arith) (r.same 3 (omega arith))
      refl)))
  all_read RowKind.Program row r =
      cell_and t (p) (p + 4 * 0) 2 (omega arith) (r.same 0 (omega arith))
      (cell_and t (p + 4) (p + 4 * 1) 1 (omega arith) (r.same 1 (omega arith))
      (cell_and t (p + 4 + 4) (p + 4 * 2) 0 (omega arith) (r.same 2 (omega arith))
      refl))
  all_read RowKind.Stream row r =
      cell_and t (p) (p + 4 * 0) 4 (omega arith) (r.same 0 (omega arith))
      (cell_and t (p + 4) (p + 4 * 1) 3 (omega arith) (r.same 1 (omega arith))
      (cell_and t (p + 4 + 4) (p + 4 * 2) 2 (omega arith) (r.same 2 (omega arith))
      (cell_and t (p + 4 + 4 + 4) (p + 4 * 3) 1 (omega arith) (r.same 3 (omega arith))
      (cell_and t (p + 4 + 4 + 4 + 4) (p + 4 * 4) 0 (omega arith) (r.same 4 (omega arith))
      refl))))
