-- The latest end, the least start and the minutes added up while a loop goes over the STCs, and the tests that a question begins with.
use Prim.Native.Nat.{ℕ, suc, ◌+◌, ◌*◌, ◌/◌, ◌^◌, ◌<◌, ◌≤◌, max, min}
use mathlib.Core.Path.{◌≡◌, refl, sym, ap, ◌∙◌}
use mathlib.Core.List.{List, [], ◌∷◌}
use mathlib.Core.Bool.{Bool, true, false}
use native.Mathlib.Numerals.{add-one}
use native.Mathlib.Omega.{arith}
use lib.ListN.{length, get_or, drop}
use borrow.Author.Tests.{lt-ltb, le-ltb}
use Rattle.std.proofs.Common.{Ok, Err, drop-cons}
use Rattle.std.proofs.lemmas.List.{drop_all}
use Rattle.format.specs.Bytes.{both}
use Rattle.format.specs.ClipRecord.{Row, stc_start, stc_end}
use Rattle.format.specs.Ticks.{Ticks45, Ticks90, doubled, less90}
use Rattle.format.specs.Questions.{Question, first_stc_sequence, presentation_span_90k, duration45k, duration90k, Answer, refused, none, number, ticks45, ticks90, seconds, no_rate, stcs, parts_of, latest_end, least_start, presentation_span, left_of, durations_of, duration_of, minutes_left, of_stc, any_row, unless22, answer, ask}
use Rattle.format.specs.Tables.{Table, rows_of, stc_cells, is_stated, is_row, clip_in}
use Rattle.format.proofs.Tables.{rows_stated}
use Rattle.ticks.specs.Times.{as90, in_ticks, IsSum}
use Rattle.ticks.specs.declared.Minutes.{Minutes}
use Rattle.queries.specs.Asked.{only_stcs}
use Rattle.queries.proofs.Asking.{answered, unstated}
use Rattle.refusals.specs.declared.Refusal.{Refusal}
use Rattle.refusals.specs.Numbers.{number_of}
use Rattle.table_rows.specs.AllRows.{all_stated}
use Rattle.table_rows.proofs.AllRows.{told, not_told}

module _ (xs : List Row) where
  -- the latest of the ends seen and those left is that of all
  abbrev pub Latest : ℕ → Ticks45 → Type 0
  Latest k latest = max latest.ticks (latest_end (drop k xs)).ticks ≡ (latest_end xs).ticks

  -- before the first turn none is seen, and 0 stands for their latest end
  pub latest_first : Latest 0 (record { ticks = 0 })
  latest_first = omega arith

  -- a turn takes the end of STC k
  pub latest_turn : (k : ℕ) (latest : Ticks45) {end r : Ticks45} → k < length xs → end ≡ stc_end (get_or xs k []) → r.ticks ≡ max latest.ticks end.ticks → Latest k latest → Latest (k + 1) r
  latest_turn k latest h e m i =
      let rest = rw (drop-cons xs k []) at i in
      let same = ap (λ (x : Ticks45). x.ticks) e in
      rw add-one (omega (arith, rest, same, m))

  -- behind the last STC the latest end seen is that of all
  pub latest_done : (k : ℕ) (latest : Ticks45) → length xs ≤ k → Latest k latest → latest ≡ latest_end xs
  latest_done k latest h i =
      let rest = rw (drop_all k xs h) at i in
      let e : latest.ticks ≡ (latest_end xs).ticks = omega (arith, rest) in
      ap (λ (x : ℕ). record { ticks = x }) e

  -- the least of a start and those left is that of all
  abbrev pub Least : Ticks45 → ℕ → Ticks45 → Type 0
  Least whole k least = least_start least (drop k xs) ≡ whole

  -- a turn takes the start of STC k
  pub least_turn : {whole : Ticks45} (k : ℕ) (least : Ticks45) {start r : Ticks45} → k < length xs → start ≡ stc_start (get_or xs k []) → r.ticks ≡ min least.ticks start.ticks → Least whole k least → Least whole (k + 1) r
  least_turn k least {r = r} h e m i =
      let rest = rw (drop-cons xs k []) at i in
      let same = ap (λ (x : Ticks45). min least.ticks x.ticks) e in
      let lesser : r ≡ record { ticks = min least.ticks (stc_start (get_or xs k [])).ticks } = ap (λ (x : ℕ). record { ticks = x }) (m ∙ same) in
      rw (add-one, lesser) rest

  -- behind the last STC the least start seen is that of all
  pub least_done : {whole : Ticks45} (k : ℕ) (least : Ticks45) → length xs ≤ k → Least whole k least → least ≡ whole
  least_done k least h i = rw (drop_all k xs h) at i

  -- ---- the minutes of an STC and of all later ones

  -- what is added up and what the STCs from k on add make the whole. The first time, of 64 bits, adds at most 2^42 minutes, an STC
  -- at most 1,591, the carry included
  pub record Added (whole k : ℕ) (m : Minutes) : Type 0 where
    pub below : (as90 m.rest).ticks < 5400000
    pub few : m.whole ≤ 2 ^ 42 + 1591 * k
    pub together : in_ticks m + (durations_of (drop k xs)).ticks ≡ whole

  -- the whole: what is left of STC k, and the durations of those behind it
  abbrev pub whole_from : ℕ → Ticks90 → ℕ
  whole_from k at = (left_of (get_or xs k []) at).ticks + (durations_of (drop (suc k) xs)).ticks

  -- before the first turn what is left of STC k is added
  pub added_first : (k : ℕ) (at : Ticks90) {none m : Minutes} {left : Ticks90} → IsSum none 0 → left ≡ left_of (get_or xs k []) at → left.ticks < 2 ^ 64
      → IsSum m (in_ticks none + left.ticks) → Added (whole_from k at) (k + 1) m
  added_first k at {none = z} {m = m} {left = left} empty is small sum =
      let same = ap (λ (x : Ticks90). x.ticks) is in
      let none_is = empty.together in
      let sum_is = sum.together in
      let together : in_ticks m + (durations_of (drop (suc k) xs)).ticks ≡ whole_from k at = omega (arith, same, none_is, sum_is) in
      record { below = sum.below; few = omega (arith, none_is, sum_is, small); together = rw add-one together }

  -- no more minutes than 64 bits hold, for as many STCs as 32 bits count
  pub few_minutes : {whole k : ℕ} {m : Minutes} → k < 2 ^ 32 → Added whole k m → ((as90 m.rest).ticks < 5400000) × (m.whole < 2 ^ 63)
  few_minutes h i = let few = i.few in (i.below, omega arith)

  -- a turn adds the duration of STC k
  pub added_turn : (whole k : ℕ) {m new : Minutes} {d : Ticks45} {twice : Ticks90} → k < length xs → d ≡ duration_of (get_or xs k []) → d.ticks < 2 ^ 32
      → twice ≡ doubled d → IsSum new (in_ticks m + twice.ticks) → Added whole k m → Added whole (k + 1) new
  added_turn whole k {m = m} {new = new} {d = d} {twice = twice} h is small e sum i =
      let ticks : twice.ticks ≡ 2 * d.ticks = ap (λ (x : Ticks90). x.ticks) e in
      let same = ap (λ (x : Ticks45). x.ticks) is in
      let left = rw (drop-cons xs k []) at i.together in
      let sum_is = sum.together in
      let before = i.few in
      let below = i.below in
      let together : in_ticks new + (durations_of (drop (suc k) xs)).ticks ≡ whole = omega (arith, ticks, same, left, sum_is) in
      record { below = sum.below; few = omega (arith, ticks, small, sum_is, before, below); together = rw add-one together }

  -- behind the last STC the minutes are those of the whole
  pub added_done : (k j : ℕ) (at : Ticks90) {m : Minutes} → length xs ≤ k → Added (whole_from j at) k m → m.whole ≡ minutes_left (get_or xs j []) (drop (suc j) xs) at
  unfolding minutes_left
  added_done k j at {m = m} h i =
      let all = rw (drop_all k xs h) at i.together in
      let below = i.below in
      let e : m.whole ≡ whole_from j at / 5400000 = omega (arith, all, below) in
      e

-- ---- the tests in front

-- a question about the STCs of a table, and those that were told
module _ (q : Question) (t : Table) (one : parts_of q ≡ stcs ∷ []) where
  -- a refusal is the question's
  pub refused_by : {r : Refusal} → Err r ≡ all_stated stc_cells t → refused (number_of r) ≡ ask q (only_stcs t)
  refused_by h = let r = not_told (is_stated stc_cells t) t h in rw r.1 (unstated q (only_stcs t) stcs one r.0)

  module _ (u : Table) (h : Ok u ≡ all_stated stc_cells t) where
    -- else they answer
    pub rows_answer : answer q (clip_in (only_stcs u)) ≡ ask q (only_stcs t)
    rows_answer = let r = told (is_stated stc_cells t) t h in rw r.1 (answered q (only_stcs t) stcs one r.0)

    -- a question about one row: none such, or that row answers
    module _ (k : ℕ) (f : Row → Answer) (asks : answer q (clip_in (only_stcs u)) ≡ of_stc (rows_of stc_cells u) k f) where
      -- an STC that the table has not is refused by 22
      pub no_row : u.rows ≤ k → refused 22 ≡ ask q (only_stcs t)
      unfolding of_stc
      no_row l = rw (rows_stated stc_cells u.bytes u.rows, le-ltb k u.rows l) at (sym asks) ∙ rows_answer

      -- one that it has answers by its row
      pub row_answers : k < u.rows → f (get_or (rows_of stc_cells u) k []) ≡ ask q (only_stcs t)
      unfolding of_stc
      row_answers l = rw (rows_stated stc_cells u.bytes u.rows, lt-ltb k u.rows l) at (sym asks) ∙ rows_answer

-- ---- the span

-- the span of rows by the first one's start
span_of : (s : Row) (later : List Row) → less90 (doubled (latest_end (s ∷ later))) (doubled (least_start (stc_start s) (s ∷ later))) ≡ presentation_span (s ∷ later)
unfolding presentation_span
span_of s later = let m : min (stc_start s).ticks (stc_start s).ticks ≡ (stc_start s).ticks = omega arith in rw (least_start, m)

-- where there are some
spans : (xs : List Row) → 0 < length xs → less90 (doubled (latest_end xs)) (doubled (least_start (stc_start (get_or xs 0 [])) xs)) ≡ presentation_span xs
spans [] h = absurd (omega arith)
spans (s ∷ later) h = span_of s later

-- there are none
no_rows : (u : Table) → u.rows ≡ 0 → rows_of stc_cells u ≡ []
no_rows u e = empty (rows_of stc_cells u) (rows_stated stc_cells u.bytes u.rows ∙ e)
  where
    empty : (xs : List Row) → length xs ≡ 0 → xs ≡ []
    empty [] h = refl
    empty (x ∷ xs) h = absurd (omega arith)

-- the first of some rows is row 0
some_row : (xs : List Row) → 0 < length xs → number 0 ≡ any_row xs
some_row [] h = absurd (omega arith)
some_row (x ∷ xs) h = refl

module _ (u : Table) where
  -- without STCs the span is 0
  pub no_span : u.rows ≡ 0 → ticks90 (record { ticks = 0 }) ≡ answer presentation_span_90k (clip_in (only_stcs u))
  unfolding answer clip_in presentation_span
  no_span e = rw (no_rows u e)

  -- with STCs, twice the latest end less twice the least start, where the search for the least begins with the first STC's
  pub span_is : (u.rows ≡ 0 → ⊥) → {latest least first : Ticks45} {end start r : Ticks90}
      → latest ≡ latest_end (rows_of stc_cells u) → end ≡ doubled latest
      → first ≡ stc_start (get_or (rows_of stc_cells u) 0 []) → least ≡ least_start first (rows_of stc_cells u) → start ≡ doubled least
      → r ≡ less90 end start → ticks90 r ≡ answer presentation_span_90k (clip_in (only_stcs u))
  unfolding answer clip_in
  span_is some a b f d e s =
      let there = rows_stated stc_cells u.bytes u.rows in
      rw (s, b, e, a, d, f) (ap (λ (x : Ticks90). ticks90 x) (spans (rows_of stc_cells u) (omega (arith, there, some))))

  -- ---- the first row

  -- without STCs there is no first one
  pub no_first : u.rows ≡ 0 → none ≡ answer first_stc_sequence (clip_in (only_stcs u))
  unfolding answer clip_in
  no_first e = rw (no_rows u e)

  -- with STCs it is row 0
  pub a_first : (u.rows ≡ 0 → ⊥) → number 0 ≡ answer first_stc_sequence (clip_in (only_stcs u))
  unfolding answer clip_in
  a_first some = let there = rows_stated stc_cells u.bytes u.rows in some_row (rows_of stc_cells u) (omega (arith, there, some))

-- ---- by the other clock

-- a duration of 45 kHz ticks by the 90 kHz clock
abbrev pub twice : Answer → Answer
twice (ticks45 t) = ticks90 (doubled t)
twice (refused n) = refused n
twice none = none
twice (number n) = number n
twice (ticks90 t) = ticks90 t
twice (seconds q) = seconds q
twice no_rate = no_rate

-- behind the tests it stays a duration
pub twice_asked : (k : ℕ) (t : Table) → twice (ask (duration45k k) (only_stcs t)) ≡ ask (duration90k k) (only_stcs t)
unfolding ask answer clip_in of_stc
twice_asked k t = go (is_stated stc_cells t) (is_row k (rows_of stc_cells t))
  where
    go : (a b : Bool) → twice (unless22 (both a true) (unless22 b (ticks45 (duration_of (get_or (rows_of stc_cells t) k []))))) ≡ unless22 (both a true) (unless22 b (ticks90 (doubled (duration_of (get_or (rows_of stc_cells t) k [])))))
    go true true = refl
    go true false = refl
    go false b = refl
