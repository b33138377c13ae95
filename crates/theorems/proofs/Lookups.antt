-- The entry lookups, from the law of the best row, and the binary search beside them.
use Prim.Native.Nat.{ℕ, zero, suc, ◌+◌, ◌≤◌, ◌<◌, Ordering}
use mathlib.Core.Path.{◌≡◌, refl, sym, ap, ◌∙◌}
use mathlib.Core.List.{List, [], ◌∷◌}
use mathlib.Core.Bool.{Bool, true, false}
use native.Mathlib.Omega.{arith}
use lib.ListN.{length, get_or}
use lib.Dec.{leb, ltb, is_le, compare_is_eq}
use borrow.Author.Tests.{leb-true, leb-false, ltb-true, ltb-false, lt-ltb, le-leb, lt-leb, eqb-true, eqb-false}
use Rattle.format.specs.Bytes.{pick}
use Rattle.format.specs.Questions.{none, number, Best, nothing, best, best_of, row_or, at_or_before, after}
use Rattle.format.proofs.Lookups.{IsBest, BestUntil, before_best, after_best}
use Rattle.theorems.specs.Lookups.{time_at, IsAtOrBefore, AtOrBefore, IsAfter, After, Searched, found, place, by_side, middle, behind_it, before_it, halve, searched, IsFound, IsPlace, IsSearched, by_time, by_part, row_at, before_index, before_by, after_by, Ascending, Agrees, EntryLookups}

-- ---- at or before

module _ (times : List ℕ) (t : ℕ) where
  -- the times that are looked at, and which of two is taken
  abbrev not_above : ℕ → Bool
  not_above y = leb y t

  abbrev greater : ℕ → ℕ → Bool
  greater y z = ltb z y

  -- the best row by the rule
  of_best : (k x : ℕ) → IsBest not_above greater times (length times) k x → IsAtOrBefore times t k
  of_best k x h =
      let e = h.is in
      let l = leb-true x t h.passes in
      record {
        row = h.row;
        not_above_lem = λ j i a. omega arith;
        greatest = λ j i a. let b = ltb-false x (time_at times j) (h.unbeaten j i (le-leb (time_at times j) t a)) in omega arith;
        earliest = λ j i a. let b = ltb-true (time_at times j) x (h.earliest j i (le-leb (time_at times j) t (omega arith))) in omega arith;
        all_later = λ f. let b = f k h.row in absurd (omega arith);
      }

  -- row 0, where all are later
  of_later : 0 < length times → ((j : ℕ) → j < length times → t < time_at times j) → IsAtOrBefore times t 0
  of_later l f = record {
    row = l;
    not_above_lem = λ j i a. let b = f j i in absurd (omega arith);
    greatest = λ j i a. let b = f j i in absurd (omega arith);
    earliest = λ j i a. omega arith;
    all_later = λ g. refl;
  }

  -- the answer of the search
  of_row_lem : (b : Best) → 0 < length times → BestUntil not_above greater times (length times) b → (k : ℕ) × (row_or (number 0) b ≡ number k) × IsAtOrBefore times t k
  of_row_lem nothing l h = (0, refl, of_later l (λ j i. leb-false (time_at times j) t (h j i)))
  of_row_lem (best k x) l h = (k, refl, of_best k x h)

  -- two rows by the rule are one
  one_before : (j k : ℕ) → IsAtOrBefore times t j → IsAtOrBefore times t k → j ≡ k
  one_before j k f g = go (leb (time_at times k) t) refl
    where
      go : (b : Bool) → leb (time_at times k) t ≡ b → j ≡ k
      go true h =
          let a = leb-true (time_at times k) t h in
          let b = f.not_above_lem k g.row a in
          let c = f.greatest k g.row a in
          let d = g.greatest j f.row b in
          let same : time_at times j ≡ time_at times k = omega arith in
          let no_less : j < k → ⊥ = λ l. g.earliest j l same in
          let no_more : k < j → ⊥ = λ l. f.earliest k l (sym same) in
          omega arith
      go false h =
          let a = leb-false (time_at times k) t h in
          let later : (i : ℕ) → i < length times → t < time_at times i = λ i l. is_later i l (leb (time_at times i) t) refl a in
          f.all_later later ∙ sym (g.all_later later)
        where
          is_later : (i : ℕ) → i < length times → (b : Bool) → leb (time_at times i) t ≡ b → t < time_at times k → t < time_at times i
          is_later i l true e a = let b = g.not_above_lem i l (leb-true (time_at times i) t e) in absurd (omega arith)
          is_later i l false e a = leb-false (time_at times i) t e

-- a row is answered, and none for an empty map
answered_before : (times : List ℕ) (t : ℕ) → 0 < length times → (k : ℕ) × (at_or_before times t ≡ number k) × IsAtOrBefore times t k
unfolding at_or_before
answered_before [] t l = absurd (omega arith)
answered_before (x ∷ xs) t l = of_row_lem (x ∷ xs) t (best_of (λ y. leb y t) (λ y z. ltb z y) 0 (x ∷ xs) nothing) l (before_best (x ∷ xs) t)

-- an empty map has no row at or before any time
no_before : (times : List ℕ) (t : ℕ) → times ≡ [] → at_or_before times t ≡ none
unfolding at_or_before
no_before times t e = rw e

-- at or before
pub at_or_before_lem : (times : List ℕ) (t : ℕ) → AtOrBefore times t
at_or_before_lem times t = record { empty = no_before times t; answered = answered_before times t; only = one_before times t }

-- the row by the rule is answered
before_is : (times : List ℕ) (t k : ℕ) → IsAtOrBefore times t k → at_or_before times t ≡ number k
before_is times t k h =
    let l = h.row in
    let a = answered_before times t (omega arith) in
    a.1 ∙ ap number (one_before times t a.0 k a.2 h)

-- ---- after

module _ (times : List ℕ) (t : ℕ) where
  -- the times that are looked at, and which of two is taken
  abbrev is_above : ℕ → Bool
  is_above y = ltb t y

  abbrev lesser : ℕ → ℕ → Bool
  lesser y z = ltb y z

  -- the best row by the rule
  of_least : (k x : ℕ) → IsBest is_above lesser times (length times) k x → IsAfter times t k
  of_least k x h =
      let e = h.is in
      let l = ltb-true t x h.passes in
      record {
        row = h.row;
        above = omega arith;
        least = λ j i a. let b = ltb-false (time_at times j) x (h.unbeaten j i (lt-ltb t (time_at times j) a)) in omega arith;
        earliest = λ j i a. let b = ltb-true x (time_at times j) (h.earliest j i (lt-ltb t (time_at times j) (omega arith))) in omega arith;
      }

  -- the answer of the search: a row, or none
  row_after : (b : Best) → (i : ℕ) → i < length times → t < time_at times i → BestUntil is_above lesser times (length times) b
      → (k : ℕ) × (row_or none b ≡ number k) × IsAfter times t k
  row_after nothing i l a h = let b = ltb-false t (time_at times i) (h i l) in absurd (omega arith)
  row_after (best k x) i l a h = (k, refl, of_least k x h)

  -- a best row would have a time above t, so where no time is there is none
  no_after : (b : Best) → ((j : ℕ) → j < length times → time_at times j ≤ t) → BestUntil is_above lesser times (length times) b → row_or none b ≡ none
  no_after nothing f h = refl
  no_after (best k x) f h =
      let e = h.is in
      let a = ltb-true t x h.passes in
      let b = f k h.row in
      absurd (omega arith)

  -- two rows by the rule are one
  one_after : (j k : ℕ) → IsAfter times t j → IsAfter times t k → j ≡ k
  one_after j k f g =
      let a = f.least k g.row g.above in
      let b = g.least j f.row f.above in
      let same : time_at times j ≡ time_at times k = omega arith in
      let no_less : j < k → ⊥ = λ l. g.earliest j l same in
      let no_more : k < j → ⊥ = λ l. f.earliest k l (sym same) in
      omega arith

  -- a row is answered, or none
  answered_after : (i : ℕ) → i < length times → t < time_at times i → (k : ℕ) × (after times t ≡ number k) × IsAfter times t k
  unfolding after
  answered_after i l a = row_after (best_of is_above lesser 0 times nothing) i l a (after_best times t)

  -- where no time is above t, none is answered
  none_after : ((j : ℕ) → j < length times → time_at times j ≤ t) → after times t ≡ none
  unfolding after
  none_after f = no_after (best_of is_above lesser 0 times nothing) f (after_best times t)

  -- after
  pub next : After times t
  next = record { not_there = none_after; answered = answered_after; only = one_after }

  -- the row by the rule is answered
  after_is : (k : ℕ) → IsAfter times t k → after times t ≡ number k
  after_is k h =
      let a = answered_after k h.row h.above in
      a.1 ∙ ap number (one_after a.0 k a.2 h)

-- ---- binary search

-- rows that compare as less stand before the others, and those that compare as greater behind them
record Sorted (side : ℕ → Ordering) (xs : List ℕ) : Type 0 where
  less : (j k : ℕ) → j < k → k < length xs → side (get_or xs k 0) ≡ Ordering.lt → side (get_or xs j 0) ≡ Ordering.lt
  greater : (j k : ℕ) → j < k → k < length xs → side (get_or xs j 0) ≡ Ordering.gt → side (get_or xs k 0) ≡ Ordering.gt

module _ (side : ℕ → Ordering) (xs : List ℕ) (sorted : Sorted side xs) where
  -- the rows before lo are less, those from hi on greater, and the turns suffice for the rest
  record Left (turns lo hi : ℕ) : Type 0 where
    order : lo ≤ hi
    within : hi ≤ length xs
    enough : hi ≤ lo + turns
    before : (j : ℕ) → j < lo → side (get_or xs j 0) ≡ Ordering.lt
    behind : (j : ℕ) → hi ≤ j → j < length xs → side (get_or xs j 0) ≡ Ordering.gt

  -- no row is left
  no_left : {turns lo hi : ℕ} → Left turns lo hi → hi ≤ lo → IsPlace side xs lo
  no_left h l =
      let a = h.order in
      let b = h.within in
      record { within = omega arith; less = h.before; greater = λ j i k. h.behind j (omega arith) k }

  module _ (turns lo hi : ℕ) (h : Left (suc turns) lo hi) (l : lo < hi) where
    -- the middle is one of the rows left
    middle_in : (lo ≤ middle lo hi) × (middle lo hi < hi)
    middle_in = (omega arith, omega arith)

    -- what holds of row j and of the rows before it, and of those behind it
    less_until : (k : ℕ) → k < length xs → side (get_or xs k 0) ≡ Ordering.lt → (j : ℕ) → j < suc k → side (get_or xs j 0) ≡ Ordering.lt
    less_until k i e j m = go (ltb j k) refl
      where
        go : (b : Bool) → ltb j k ≡ b → side (get_or xs j 0) ≡ Ordering.lt
        go true b = sorted.less j k (ltb-true j k b) i e
        go false b = let c = ltb-false j k b in let s : j ≡ k = omega arith in rw s e

    -- a row that is greater has only greater ones behind it
    greater_from : (k : ℕ) → side (get_or xs k 0) ≡ Ordering.gt → (j : ℕ) → k ≤ j → j < length xs → side (get_or xs j 0) ≡ Ordering.gt
    greater_from k e j m i = go (ltb k j) refl
      where
        go : (b : Bool) → ltb k j ≡ b → side (get_or xs j 0) ≡ Ordering.gt
        go true b = sorted.greater k j (ltb-true k j b) i e
        go false b = let c = ltb-false k j b in let s : j ≡ k = omega arith in rw s e

    -- the rows left where the middle one is less, and where it is greater
    go_right : side (get_or xs (middle lo hi) 0) ≡ Ordering.lt → Left turns (behind_it lo hi) hi
    go_right e =
        let m = middle_in in
        let w = h.within in
        let n = h.enough in
        record { order = m.1; within = w; enough = omega arith; before = less_until (middle lo hi) (omega arith) e; behind = h.behind }

    -- a middle row that is greater leaves the rows before it
    go_left : side (get_or xs (middle lo hi) 0) ≡ Ordering.gt → Left turns lo (before_it lo hi)
    go_left e =
        let m = middle_in in
        let w = h.within in
        let n = h.enough in
        record { order = m.0; within = omega arith; enough = omega arith; before = h.before; behind = greater_from (middle lo hi) e }

    -- the middle row where it is equal
    at_middle : side (get_or xs (middle lo hi) 0) ≡ Ordering.eq → IsFound side xs (middle lo hi)
    at_middle e = let m = middle_in in let w = h.within in record { row = omega arith; equal = e }

  -- the search of the rows left
  halve_is : (turns lo hi : ℕ) → Left turns lo hi → IsSearched side xs (halve side xs turns lo hi)
  halve_is zero lo hi h = let n = h.enough in no_left h (omega arith)
  halve_is (suc turns) lo hi h = go (ltb lo hi) refl (side (get_or xs (middle lo hi) 0)) refl (halve_is turns (behind_it lo hi) hi) (halve_is turns lo (before_it lo hi))
    where
      go : (b : Bool) → ltb lo hi ≡ b → (o : Ordering) → side (get_or xs (middle lo hi) 0) ≡ o
          → (Left turns (behind_it lo hi) hi → IsSearched side xs (halve side xs turns (behind_it lo hi) hi))
          → (Left turns lo (before_it lo hi) → IsSearched side xs (halve side xs turns lo (before_it lo hi)))
          → IsSearched side xs (pick b (by_side o (halve side xs turns (behind_it lo hi) hi) (found (middle lo hi)) (halve side xs turns lo (before_it lo hi))) (place lo))
      go true l Ordering.lt e right left = right (go_right turns lo hi h (ltb-true lo hi l) e)
      go true l Ordering.eq e right left = at_middle turns lo hi h (ltb-true lo hi l) e
      go true l Ordering.gt e right left = left (go_left turns lo hi h (ltb-true lo hi l) e)
      go false l o e right left = no_left h (ltb-false lo hi l)

  -- the search of all rows
  searched_is : IsSearched side xs (searched side xs)
  unfolding searched
  searched_is = halve_is (length xs) 0 (length xs) (record {
    order = omega arith;
    within = omega arith;
    enough = omega arith;
    before = λ j l. absurd (omega arith);
    behind = λ j l m. absurd (omega arith);
  })

-- ---- how times compare

module _ (t x : ℕ) where
  -- what each comparison says of two times
  is_less : by_time t x ≡ Ordering.lt → x < t
  is_less e =
      let a = leb-true x t (ap is_le e) in
      let b = eqb-false x t (ap compare_is_eq e) in
      omega arith

  -- a time that compares as equal to t is t
  is_equal : by_time t x ≡ Ordering.eq → x ≡ t
  is_equal e = eqb-true x t (ap compare_is_eq e)

  -- a time that compares as greater than t is later
  is_greater : by_time t x ≡ Ordering.gt → t < x
  is_greater e = leb-false x t (ap is_le e)

  -- and which comparison two times have
  less_is : x < t → by_time t x ≡ Ordering.lt
  less_is l = go (by_time t x) refl
    where
      go : (o : Ordering) → by_time t x ≡ o → o ≡ Ordering.lt
      go Ordering.lt e = refl
      go Ordering.eq e = let a = is_equal e in absurd (omega arith)
      go Ordering.gt e = let a = is_greater e in absurd (omega arith)

  -- a later time compares as greater
  greater_is : t < x → by_time t x ≡ Ordering.gt
  greater_is l = go (by_time t x) refl
    where
      go : (o : Ordering) → by_time t x ≡ o → o ≡ Ordering.gt
      go Ordering.lt e = let a = is_less e in absurd (omega arith)
      go Ordering.eq e = let a = is_equal e in absurd (omega arith)
      go Ordering.gt e = refl

  -- the same by parts, where nothing is equal
  part_less : by_part t x ≡ Ordering.lt → x ≤ t
  part_less e = go (leb x t) refl
    where
      go : (b : Bool) → leb x t ≡ b → x ≤ t
      go true h = leb-true x t h
      go false h = let z : ◌≡◌ {A = ℕ} 0 1 = cc in absurd (omega arith)

  -- a time that is put behind is later than t
  part_greater : by_part t x ≡ Ordering.gt → t < x
  part_greater e = go (leb x t) refl
    where
      go : (b : Bool) → leb x t ≡ b → t < x
      go true h = let z : ◌≡◌ {A = ℕ} 0 1 = cc in absurd (omega arith)
      go false h = leb-false x t h

  -- no time compares as equal, so a search by parts finds a place and never a row
  part_equal : by_part t x ≡ Ordering.eq → ⊥
  part_equal e = go (leb x t) refl
    where
      go : (b : Bool) → leb x t ≡ b → ⊥
      go true h = let z : ◌≡◌ {A = ℕ} 0 1 = cc in omega arith
      go false h = let z : ◌≡◌ {A = ℕ} 0 1 = cc in omega arith

-- ---- the Rust's answers

-- a row that is there
there : (times : List ℕ) (i : ℕ) → i < length times → number i ≡ row_at times i
there times i l = rw (lt-ltb i (length times) l)

-- a map with a row is not empty
before_row_is : (times : List ℕ) (s : Searched) (k : ℕ) → k < length times → before_index s ≡ k → number k ≡ before_by times s
unfolding before_by
before_row_is [] s k l e = absurd (omega arith)
before_row_is (x ∷ xs) s k l e = rw e (there (x ∷ xs) k l)

module _ (times : List ℕ) (t : ℕ) (ascending : Ascending times) where
  -- equal or later, by row
  not_below : (j k : ℕ) → j ≤ k → k < length times → time_at times j ≤ time_at times k
  not_below j k h l = go (ltb j k) refl
    where
      go : (b : Bool) → ltb j k ≡ b → time_at times j ≤ time_at times k
      go true b = let a = ascending j k (ltb-true j k b) l in omega arith
      go false b = let c = ltb-false j k b in let s : j ≡ k = omega arith in rw s (omega arith)

  -- no earlier time is the same
  no_same : (k : ℕ) → k < length times → (j : ℕ) → j < k → time_at times j ≡ time_at times k → ⊥
  no_same k l j i e = let a = ascending j k i l in omega arith

  -- ascending times are sorted by either comparison
  sorted_by_time : Sorted (by_time t) times
  sorted_by_time = record {
    less = λ j k i l e. let a = is_less t (time_at times k) e in let b = ascending j k i l in less_is t (time_at times j) (omega arith);
    greater = λ j k i l e. let a = is_greater t (time_at times j) e in let b = ascending j k i l in greater_is t (time_at times k) (omega arith);
  }

  -- up to some row no time is above t, and from there on all are
  sorted_by_part : Sorted (by_part t) times
  sorted_by_part = record {
    less = λ j k i l e.
        let a = part_less t (time_at times k) e in
        let b = ascending j k i l in
        rw (le-leb (time_at times j) t (omega arith));
    greater = λ j k i l e.
        let a = part_greater t (time_at times j) e in
        let b = ascending j k i l in
        rw (lt-leb (time_at times k) t (omega arith));
  }

  -- the row found, and the row before the place
  row_found_lem : (i : ℕ) → IsFound (by_time t) times i → IsAtOrBefore times t i
  row_found_lem i h =
      let e = is_equal t (time_at times i) h.equal in
      record {
        row = h.row;
        not_above_lem = λ j l a. omega arith;
        greatest = λ j l a. omega arith;
        earliest = no_same i h.row;
        all_later = λ f. let a = f i h.row in absurd (omega arith);
      }

  -- the row before the place is the last whose time is below t, and none has the time t
  row_before : (i : ℕ) → IsPlace (by_time t) times (suc i) → IsAtOrBefore times t i
  row_before i h =
      let l = h.within in
      let a = is_less t (time_at times i) (h.less i (omega arith)) in
      record {
        row = l;
        not_above_lem = λ j k b. omega arith;
        greatest = λ j k b. go j k b (ltb i j) refl;
        earliest = no_same i l;
        all_later = λ f. let b = f i l in absurd (omega arith);
      }
    where
      go : (j : ℕ) → j < length times → time_at times j ≤ t → (b : Bool) → ltb i j ≡ b → time_at times j ≤ time_at times i
      go j k b true e = let c = is_greater t (time_at times j) (h.greater j (ltb-true i j e) k) in absurd (omega arith)
      go j k b false e = not_below j i (ltb-false i j e) h.within

  -- all times are later where the place is 0
  all_later : IsPlace (by_time t) times 0 → (j : ℕ) → j < length times → t < time_at times j
  all_later h j l = is_greater t (time_at times j) (h.greater j (omega arith) l)

  -- the same answer in a map with a row
  before_agrees : (s : Searched) → IsSearched (by_time t) times s → 0 < length times → at_or_before times t ≡ before_by times s
  before_agrees (found i) h l = before_is times t i (row_found_lem i h) ∙ before_row_is times (found i) i h.row refl
  before_agrees (place zero) h l = before_is times t 0 (of_later times t l (all_later h)) ∙ before_row_is times (place 0) 0 l refl
  before_agrees (place (suc i)) h l = before_is times t i (row_before i h) ∙ before_row_is times (place (suc i)) i h.within refl

  -- the row at the place, or none where that is the end
  row_at_place : (i : ℕ) → IsPlace (by_part t) times i → i < length times → IsAfter times t i
  row_at_place i h l = record {
    row = l;
    above = part_greater t (time_at times i) (h.greater i (omega arith) l);
    least = λ j k a. go j k a (ltb j i) refl;
    earliest = no_same i l;
  }
    where
      go : (j : ℕ) → j < length times → t < time_at times j → (b : Bool) → ltb j i ≡ b → time_at times i ≤ time_at times j
      go j k a true e = let c = part_less t (time_at times j) (h.less j (ltb-true j i e)) in absurd (omega arith)
      go j k a false e = not_below i j (ltb-false j i e) k

  -- where the place is the end, no time is above t
  none_above : (i : ℕ) → IsPlace (by_part t) times i → length times ≤ i → (j : ℕ) → j < length times → time_at times j ≤ t
  none_above i h l j k = part_less t (time_at times j) (h.less j (omega arith))

  -- the same answer after a time
  after_agrees : (s : Searched) → IsSearched (by_part t) times s → after times t ≡ after_by times s
  unfolding after_by
  after_agrees (found i) h = absurd (part_equal t (time_at times i) h.equal)
  after_agrees (place i) h = go (ltb i (length times)) refl
    where
      go : (b : Bool) → ltb i (length times) ≡ b → after times t ≡ pick b (number i) none
      go true e = after_is times t i (row_at_place i h (ltb-true i (length times) e))
      go false e = none_after times t (none_above i h (ltb-false i (length times) e))

-- an empty map answers none in both
before_both : (times : List ℕ) (t : ℕ) → Ascending times → (s : Searched) → IsSearched (by_time t) times s → at_or_before times t ≡ before_by times s
unfolding before_by
before_both [] t ascending s h = no_before [] t refl
before_both (x ∷ xs) t ascending s h = before_agrees (x ∷ xs) t ascending s h (omega arith)

-- on strictly ascending times
pub agrees : (times : List ℕ) (t : ℕ) → Ascending times → Agrees times t
agrees times t ascending =
    let by_time_lem = searched_is (by_time t) times (sorted_by_time times t ascending) in
    let by_part_lem = searched_is (by_part t) times (sorted_by_part times t ascending) in
    record {
      before = before_both times t ascending (searched (by_time t) times) by_time_lem;
      behind = after_agrees times t ascending (searched (by_part t) times) by_part_lem;
      by_time_lem = by_time_lem;
      by_part_lem = by_part_lem;
      any_before = before_both times t ascending;
      any_behind = after_agrees times t ascending;
    }

-- the statements together
pub entry_lookups : EntryLookups
entry_lookups = record { at_or_before_lem = at_or_before_lem; next = next; agrees = agrees }
