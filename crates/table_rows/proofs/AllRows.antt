-- A table all whose rows are there: the front of its rows, a row while a loop reads it, and what is told of the table.
use Prim.Native.Nat.{ℕ, ◌+◌, ◌*◌, ◌<◌, ◌≤◌}
use mathlib.Core.Path.{◌≡◌, refl, sym, ap, ◌∙◌}
use mathlib.Core.List.{List, []}
use mathlib.Core.Bool.{Bool, true, false}
use native.Mathlib.Numerals.{add-one}
use native.Mathlib.Omega.{arith}
use lib.ListN.{length, get_or, take, set, replicate, length-set, length-replicate}
use Rattle.std.proofs.Common.{Result, Ok, Err}
use Rattle.std.proofs.Math.Seq.{take-suc}
use Rattle.std.proofs.lemmas.List.{take_more_set, take_all}
use Rattle.std.specs.Result.{IsErrAnd, is_ok}
use Rattle.format.specs.Bytes.{pick}
use Rattle.format.specs.Tables.{Table, cell_at, cells_at, table_rows_of}
use Rattle.format.proofs.Cell.{row_of}
use Rattle.format.proofs.Rows.{rows_length, take_rows}
use Rattle.refusals.specs.declared.Refusal.{Refusal}
use Rattle.queries.proofs.Asking.{passed_on}
use Rattle.table_rows.specs.declared.rows.Rows.{Rows}
use Rattle.table_rows.specs.AllRows.{all_told}

-- ---- rows

module _ (cells : ℕ) (t : List ℕ) (n k : ℕ) where
  -- the first k rows are those of a table with k stated
  pub front_rows : k ≤ n → table_rows_of cells t k ≡ take k (table_rows_of cells t n)
  unfolding table_rows_of
  front_rows h = rw (take_rows (cells_at t cells) (λ p. p + 4 * cells) 0 n k h)

  -- a row has so many cells
  pub row_length : k < n → length (get_or (table_rows_of cells t n) k []) ≡ cells
  row_length h = rw (row_of cells t n k h) (rows_length (cell_at t) (λ q. q + 4) (4 * cells * k) cells)

-- the cells of a row that were read are its first, in a place with room for all
pub record Copied (row cells : List ℕ) (k : ℕ) : Type 0 where
  pub size : length cells ≡ length row
  pub front : take k cells ≡ take k row

-- before the first turn none is
pub copied_none : {row : List ℕ} {n : ℕ} → length row ≡ n → Copied row (replicate n 0) 0
copied_none {row} {n} h = record { size = length-replicate n 0 ∙ sym h; front = refl }

-- a turn reads cell k
pub copied_turn : {row cells : List ℕ} {k v : ℕ} → k < length row → v ≡ get_or row k 0 → Copied row cells k → Copied row (set cells k v) (k + 1)
copied_turn {row} {cells} {k} {v} h is c =
    let size = c.size in
    let within : k < length cells = omega arith in
    record {
      size = length-set cells k v ∙ c.size;
      front = rw (take_more_set cells k v within, c.front, is, add-one) (sym (take-suc row k 0 h));
    }

-- behind the last all are read
pub copied_all : (row cells : List ℕ) (k : ℕ) → length row ≤ k → Copied row cells k → cells ≡ row
copied_all row cells k h c =
    let size = c.size in
    let front = c.front in
    let there : length cells ≤ k = omega arith in
    rw (take_all k cells there, take_all k row h) at front

-- ---- what is told of a table

-- the table, or its refusal
abbrev pub told_if : Bool → Table → Result Table Refusal
told_if b t = pick b (Ok t) (Err Refusal.Rows)

-- where a table is told the rows are there, and it is the one that was asked about
pub told : (b : Bool) (t : Table) {u : Table} → Ok u ≡ told_if b t → (b ≡ true) × (u ≡ t)
told true t h = (refl, cc)
told false t h = cc

-- where a refusal is they are not, and it is that of rows
pub not_told : (b : Bool) (t : Table) {r : Refusal} → Err r ≡ told_if b t → (b ≡ false) × (r ≡ Refusal.Rows)
not_told true t h = cc
not_told false t h = (refl, cc)

-- the `?` behind it returns that refusal
pub returned : {A : Type 0} (b : Bool) (t : Table) (r : Result A Refusal) {e : Refusal} → IsErrAnd r (λ y. y ≡ e) → Err e ≡ told_if b t → (b ≡ false) × (r ≡ Err Refusal.Rows)
returned b t r is h =
    let f = not_told b t h in
    (f.0, passed_on r is ∙ ap (λ y. Err y) f.1)

-- whether a table is told is whether its rows are there
pub is_told : {cells : _} (r : Result (Rows cells) Refusal) (b : Bool) (t : Table) → all_told r ≡ told_if b t → is_ok r ≡ b
is_told (Ok rows) true t h = refl
is_told (Ok rows) false t h = cc
is_told (Err e) true t h = cc
is_told (Err e) false t h = refl
