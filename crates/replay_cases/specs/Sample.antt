-- The cases of a sample, one behind the other: two cells with the lengths of file and answer, then the file, then the answer.
use Rattle.std.specs.Prelude.{ℕ, zero, suc, ◌+◌, List, [], ◌∷◌, Bool, length, drop, leb}
use Rattle.format.specs.Bytes.{pick, total, part}
use Rattle.format.specs.Tables.{cell_at}
use Rattle.format.specs.Refusals.{flag}
use Rattle.replay_cases.specs.declared.Tally.{Tally}
use Rattle.replay_bytes.specs.Parts.{same_bytes}
use Rattle.replay_case.specs.Expected.{expected}

-- ---- the case at the front

-- the length of its file
abbrev pub file_length : List ℕ → ℕ
file_length s = cell_at s 0

-- the length of its answer
abbrev pub answer_length : List ℕ → ℕ
answer_length s = cell_at s 4

-- its own: the two cells, and both
abbrev pub case_length : List ℕ → ℕ
case_length s = 8 + file_length s + answer_length s

-- the sample has all of it
abbrev pub has_case : List ℕ → Bool
has_case s = leb (case_length s) (length s)

-- the answer of m bytes behind the file of n bytes at `at` is the one that must be stored with that file
abbrev pub case_same : List ℕ → (at n m : ℕ) → Bool
case_same s at n m = same_bytes (expected (part s at n)) (part s (at + n) m)

-- ---- all cases

-- for each of at most k cases from the front, whether it is the same; a case that is cut short ends them
unfoldable pub cases_from : ℕ → List ℕ → List Bool
cases_from zero s = []
cases_from (suc k) s = pick (has_case s) (case_same s 8 (file_length s) (answer_length s) ∷ cases_from k (drop (case_length s) s)) []

-- a case has bytes, so there are no more cases than bytes
abbrev pub cases_of : List ℕ → List Bool
cases_of s = cases_from (length s) s

-- how many there are, and how many are the same
abbrev pub tally_of : List Bool → Tally
tally_of cases = record { cases = length cases; same = total flag cases }
