-- One turn of the search for a row, and what it answers to a question.
use Prim.Native.Nat.{ℕ, suc, ◌+◌, ◌*◌, ◌<◌, ◌≤◌}
use mathlib.Core.Path.{◌≡◌, refl, sym, ap, ◌∙◌}
use mathlib.Core.List.{List, [], ◌∷◌, map}
use mathlib.Core.Bool.{Bool, true, false}
use native.Mathlib.Numerals.{add-one}
use lib.ListN.{length, get_or, drop}
use Rattle.std.proofs.Common.{drop-cons}
use Rattle.std.proofs.lemmas.List.{drop_all}
use Rattle.format.specs.Bytes.{both, pick}
use Rattle.format.specs.ClipRecord.{Row}
use Rattle.format.specs.Questions.{Question, Part, parts_of, part_stated, Answer, refused, none, number, first_where, next_where, unless22, of_row, answer, ask}
use Rattle.format.specs.Tables.{Table, ClipTables, is_stated, rows_of, cell_at, clip_in}
use Rattle.format.proofs.Cell.{cell_of}
use Rattle.format.proofs.Tables.{rows_stated}
use Rattle.cells.specs.Reads.{CellIs}
use Rattle.table_rows.specs.OwnRows.{cell_in}
use Rattle.row_search.specs.FirstRow.{first_passing, ask_row}
use Rattle.table_rows.proofs.Scans.{drop_map}

-- ---- while a loop goes over the rows

module _ (xs : List Row) (from : ℕ) (test : Row → Bool) where
  -- what is found from row k on is what is found of all
  abbrev pub Searched : ℕ → Type 0
  Searched k = first_passing test k (drop k xs) ≡ first_passing test from (drop from xs)

  module _ (k : ℕ) {p : Bool} (h : k < length xs) (is : p ≡ test (get_or xs k [])) (i : Searched k) where
    -- row k does not pass
    pub row_fails : p ≡ false → Searched (k + 1)
    row_fails f = let fails : test (get_or xs k []) ≡ false = sym is ∙ f in rw add-one (rw (drop-cons xs k [], fails) at i)

    -- it does
    pub row_is : p ≡ true → number k ≡ first_passing test from (drop from xs)
    row_is f = let passes : test (get_or xs k []) ≡ true = sym is ∙ f in rw (drop-cons xs k [], passes) at i

  -- none is left
  pub no_row : (k : ℕ) → length xs ≤ k → Searched k → none ≡ first_passing test from (drop from xs)
  no_row k h i = rw (drop_all k xs h) at i

module _ (cells from : ℕ) (test : Row → Bool) (t : Table) where
  -- rows that are not there
  pub not_stated : is_stated cells t ≡ false → refused 22 ≡ ask_row cells from test t
  unfolding ask_row
  not_stated h = rw h

  -- rows that are, as they were told
  pub asked_row : {u : Table} → (is_stated cells t ≡ true) × (u ≡ t) → first_passing test from (drop from (rows_of cells u)) ≡ ask_row cells from test t
  unfolding ask_row
  asked_row h = rw (h.0, h.1)

-- ---- a question that such a search answers

-- rows tested by a number that is worked out of one of their cells are the numbers tested
pub by_number : (column : Row → ℕ) (test : ℕ → Bool) (k : ℕ) (rows : List Row) → first_passing (λ r. test (column r)) k rows ≡ first_where test k (map column rows)
by_number column test k [] = refl
by_number column test k (r ∷ rows) = ap (pick (test (column r)) (number k)) (by_number column test (suc k) rows)

-- and from any row on
pub next_by_number : (column : Row → ℕ) (test : ℕ → Bool) (from : ℕ) (rows : List Row) → first_passing (λ r. test (column r)) from (drop from rows) ≡ next_where test from (map column rows)
next_by_number column test from rows = by_number column test from (drop from rows) ∙ ap (first_where test from) (sym (drop_map column from rows))

-- one test and no more
by_test : (b : Bool) (x : Answer) → unless22 b x ≡ unless22 (both b true) x
by_test true x = refl
by_test false x = refl

-- the search answers a question about one table whose answer it is
pub row_answers : (q : Question) (l : ClipTables) (p : Part) (cells from : ℕ) (test : Row → Bool) (t : Table) → parts_of q ≡ p ∷ [] → part_stated l p ≡ is_stated cells t
    → first_passing test from (drop from (rows_of cells t)) ≡ answer q (clip_in l) → ask_row cells from test t ≡ ask q l
unfolding ask ask_row
row_answers q l p cells from test t one is answers = rw (one, is, answers) (by_test (is_stated cells t) (answer q (clip_in l)))

-- ---- one cell of a row

-- what stands at its place is the row's cell
pub cell_told : (cells cell : ℕ) (t : Table) (k : ℕ) → k < length (rows_of cells t) → cell < cells → cell_at t.bytes (4 * (cells * k + cell)) ≡ cell_in cell (get_or (rows_of cells t) k [])
cell_told cells cell t k h j = cell_of cells t.bytes t.rows k cell (rw (rows_stated cells t.bytes t.rows) at h) j refl refl

-- ---- a number of the row that was found

-- what is read at the row's cell is its number
pub of_row_lem : (cells cell : ℕ) (t : Table) (k : ℕ) {at v : ℕ} → k < t.rows → cell < cells → at ≡ 4 * (cells * k + cell) → CellIs t.bytes at v
    → number v ≡ of_row (cell_in cell) (rows_of cells t) (number k)
of_row_lem cells cell t k h j e c = ap (λ (x : ℕ). number x) (cell_of cells t.bytes t.rows k cell h j e c.same)
