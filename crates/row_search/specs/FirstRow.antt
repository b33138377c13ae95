-- The first row of a table that passes a test of its cells.
use Rattle.std.specs.Prelude.{ℕ, suc, ◌≡◌, ◌<◌, List, [], ◌∷◌, length, get_or, drop, Bool}
use Rattle.format.specs.Bytes.{pick}
use Rattle.format.specs.ClipRecord.{Row}
use Rattle.format.specs.Questions.{Answer, none, number, unless22}
use Rattle.format.specs.Tables.{Table, is_stated, rows_of}

-- what a closure answers of a row's number is what the test asks of the row
abbrev pub Computes : (ℕ → Bool → Type 0) → (Row → Bool) → List Row → Type 0
Computes post test rows = (k : ℕ) → k < length rows → (passes : Bool) → post k passes → passes ≡ test (get_or rows k [])

-- what a closure answers of a number is what the test asks of it
abbrev pub Decides : (ℕ → Bool → Type 0) → (ℕ → Bool) → Type 0
Decides post test = (value : ℕ) (passes : Bool) → post value passes → passes ≡ test value

-- the first row that passes, of rows of which the first is row k
abbrev pub first_passing : (Row → Bool) → ℕ → List Row → Answer
first_passing test k [] = none
first_passing test k (r ∷ rows) = pick (test r) (number k) (first_passing test (suc k) rows)

-- the first row from one on that passes, or none; 22 where more rows are stated than there are
unfoldable pub ask_row : (cells from : ℕ) → (Row → Bool) → Table → Answer
ask_row cells from test t = unless22 (is_stated cells t) (first_passing test from (drop from (rows_of cells t)))
