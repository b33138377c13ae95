-- The entry lookups: what their answers are in words, and that on strictly ascending maps a binary search, as the Rust has it, answers alike.
use Prim.Native.Nat.{ℕ, zero, suc, ◌+◌, ◌-◌, ◌/◌, ◌≤◌, ◌<◌, compare, Ordering}
use Rattle.std.specs.Prelude.{◌≡◌, List, [], ◌∷◌, length, get_or, leb, ltb}
use Rattle.format.specs.Bytes.{pick}
use Rattle.format.specs.Questions.{Answer, none, number, at_or_before, after}

-- the time of a row
abbrev pub time_at : List ℕ → ℕ → ℕ
time_at times k = get_or times k 0

-- ---- at or before

-- what makes row k the answer
pub record IsAtOrBefore (times : List ℕ) (t k : ℕ) : Type 0 where
  -- it is a row
  pub row : k < length times
  -- its time is not above t, where some time is not
  pub not_above_lem : (j : ℕ) → j < length times → time_at times j ≤ t → time_at times k ≤ t
  -- no other such row has a greater time
  pub greatest : (j : ℕ) → j < length times → time_at times j ≤ t → time_at times j ≤ time_at times k
  -- no earlier row has the same time
  pub earliest : (j : ℕ) → j < k → time_at times j ≡ time_at times k → ⊥
  -- where all times are later, it is row 0
  pub all_later : ((j : ℕ) → j < length times → t < time_at times j) → k ≡ 0

-- an empty map has none; any other has such a row, it is the only one, and it is answered
pub record AtOrBefore (times : List ℕ) (t : ℕ) : Type 0 where
  pub empty : times ≡ [] → at_or_before times t ≡ none
  pub answered : 0 < length times → (k : ℕ) × (at_or_before times t ≡ number k) × IsAtOrBefore times t k
  pub only : (j k : ℕ) → IsAtOrBefore times t j → IsAtOrBefore times t k → j ≡ k

-- ---- after

-- what makes row k the answer
pub record IsAfter (times : List ℕ) (t k : ℕ) : Type 0 where
  -- it is a row
  pub row : k < length times
  -- its time is above t
  pub above : t < time_at times k
  -- no other such row has a lesser time
  pub least : (i : ℕ) → i < length times → t < time_at times i → time_at times k ≤ time_at times i
  -- no earlier row has the same time
  pub earliest : (i : ℕ) → i < k → time_at times i ≡ time_at times k → ⊥

-- there is none where no time is above t; else there is such a row, it is the only one, and it is answered
pub record After (times : List ℕ) (t : ℕ) : Type 0 where
  pub not_there : ((j : ℕ) → j < length times → time_at times j ≤ t) → after times t ≡ none
  pub answered : (i : ℕ) → i < length times → t < time_at times i → (k : ℕ) × (after times t ≡ number k) × IsAfter times t k
  pub only : (j k : ℕ) → IsAfter times t j → IsAfter times t k → j ≡ k

-- ---- binary search, which stands for `binary_search_by` of the Rust's standard library

-- a row that was found, or the place at which what is sought would stand
pub data Searched : Type 0 where
  found : ℕ → Searched
  place : ℕ → Searched

-- one of three, by how an element compares with what is sought
abbrev pub by_side : {A : Type 0} → Ordering → A → A → A → A
by_side Ordering.lt a b c = a
by_side Ordering.eq a b c = b
by_side Ordering.gt a b c = c

-- the row in the middle of those from lo and before hi
abbrev pub middle : ℕ → ℕ → ℕ
middle lo hi = lo + (hi - lo) / 2

-- where the rows behind it begin, and where those before it end
abbrev pub behind_it : ℕ → ℕ → ℕ
behind_it lo hi = suc (middle lo hi)

abbrev pub before_it : ℕ → ℕ → ℕ
before_it lo hi = middle lo hi

-- the rows from lo and before hi are left, and the middle one is compared: the first number bounds the turns
abbrev pub halve : (ℕ → Ordering) → List ℕ → ℕ → ℕ → ℕ → Searched
halve side xs zero lo hi = place lo
halve side xs (suc turns) lo hi =
    pick (ltb lo hi)
    (by_side (side (get_or xs (middle lo hi) 0)) (halve side xs turns (behind_it lo hi) hi) (found (middle lo hi)) (halve side xs turns lo (before_it lo hi)))
    (place lo)

-- all rows are searched; a turn leaves fewer of them
unfoldable pub searched : (ℕ → Ordering) → List ℕ → Searched
searched side xs = halve side xs (length xs) 0 (length xs)

-- what the library promises of its search: a row found compares as equal, and among several any may be found;
-- before a place all are less, and from it on all are greater
pub record IsFound (side : ℕ → Ordering) (xs : List ℕ) (i : ℕ) : Type 0 where
  pub row : i < length xs
  pub equal : side (get_or xs i 0) ≡ Ordering.eq

-- a place may be the end, where all rows are less
pub record IsPlace (side : ℕ → Ordering) (xs : List ℕ) (i : ℕ) : Type 0 where
  pub within : i ≤ length xs
  pub less : (j : ℕ) → j < i → side (get_or xs j 0) ≡ Ordering.lt
  pub greater : (j : ℕ) → i ≤ j → j < length xs → side (get_or xs j 0) ≡ Ordering.gt

-- what is promised of either
abbrev pub IsSearched : (ℕ → Ordering) → List ℕ → Searched → Type 0
IsSearched side xs (found i) = IsFound side xs i
IsSearched side xs (place i) = IsPlace side xs i

-- ---- the Rust's two methods

-- a time compared with t; and, for `partition_point`, less where it is not above t, else greater
abbrev pub by_time : ℕ → ℕ → Ordering
by_time t x = compare x t

abbrev pub by_part : ℕ → ℕ → Ordering
by_part t x = pick (leb x t) Ordering.lt Ordering.gt

-- `get`: row i, or none where there is no such row
abbrev pub row_at : List ℕ → ℕ → Answer
row_at times i = pick (ltb i (length times)) (number i) none

-- `entry_point_at_or_before`, by what the search answers
abbrev pub before_index : Searched → ℕ
before_index (found i) = i
before_index (place zero) = 0
before_index (place (suc i)) = i

-- its answer: none for an empty map, else the row
unfoldable pub before_by : List ℕ → Searched → Answer
before_by [] s = none
before_by (x ∷ xs) s = row_at (x ∷ xs) (before_index s)

-- `entry_point_after`, by what the search answers
abbrev pub after_index : Searched → ℕ
after_index (found i) = i
after_index (place i) = i

-- its answer: the row, or none past the last
unfoldable pub after_by : List ℕ → Searched → Answer
after_by times s = row_at times (after_index s)

-- each time is greater than those before it
abbrev pub Ascending : List ℕ → Type 0
Ascending times = (j k : ℕ) → j < k → k < length times → time_at times j < time_at times k

-- on strictly ascending times the Rust's answers are those of the definitions
pub record Agrees (times : List ℕ) (t : ℕ) : Type 0 where
  pub before : at_or_before times t ≡ before_by times (searched (by_time t) times)
  pub behind : after times t ≡ after_by times (searched (by_part t) times)
  -- and not by this search's choice of the middle: it keeps the library's promise, and any other that keeps it answers alike
  pub by_time_lem : IsSearched (by_time t) times (searched (by_time t) times)
  pub by_part_lem : IsSearched (by_part t) times (searched (by_part t) times)
  pub any_before : (s : Searched) → IsSearched (by_time t) times s → at_or_before times t ≡ before_by times s
  pub any_behind : (s : Searched) → IsSearched (by_part t) times s → after times t ≡ after_by times s

-- ---- all of it

-- the statements together
pub record EntryLookups : Type 0 where
  pub at_or_before_lem : (times : List ℕ) (t : ℕ) → AtOrBefore times t
  pub next : (times : List ℕ) (t : ℕ) → After times t
  pub agrees : (times : List ℕ) (t : ℕ) → Ascending times → Agrees times t
