-- The row at the least distance is the nearest of the times by the definitions, where its time is on the side.
use Prim.Native.Nat.{ℕ, ◌+◌, ◌^◌, ◌<◌, ◌≤◌}
use mathlib.Core.Path.{◌≡◌, refl, sym, ◌∙◌}
use mathlib.Core.List.{List, [], ◌∷◌, map}
use mathlib.Core.Bool.{Bool, true, false}
use native.Mathlib.Numerals.{add-one}
use native.Mathlib.Omega.{arith}
use lib.Dec.{leb, ltb}
use lib.ListN.{length, get_or, drop, drop_of_length-le, length-map, get_or-map}
use lib.Seq.{drop-cons}
use borrow.Author.Tests.{leb-true, ltb-true, lt-ltb, le-ltb, le-leb}
use Rattle.format.specs.Bytes.{pick}
use Rattle.format.specs.ClipRecord.{Row, time}
use Rattle.format.specs.Questions as of
use Rattle.format.specs.Questions.{Answer, number, Best, nothing, best, better, best_of, row_or, at_or_before, after}
use Rattle.format.proofs.Lookups.{before_row, after_row}
use Rattle.nearest.specs.Nearest.{row_in, find_in, on_side, distance_to, Tells}
use Rattle.nearest.specs.declared.Side.{Side}

-- of two times after the one asked for the earlier is nearer, of two at or before it the later
abbrev pub nearer : Side → ℕ → ℕ → Bool
nearer Side.After x y = ltb x y
nearer Side.AtOrBefore x y = ltb y x

-- where no time is on the side: row 0 stands for one at or before, and none is after
abbrev pub without : Side → Answer
without Side.After = of.none
without Side.AtOrBefore = number 0

module _ (side : Side) (at : ℕ) where
  -- a row with its time is the best where the time is on the side
  abbrev pub seen : ℕ → ℕ → Best
  seen row x = pick (on_side side at x) (best row x) nothing

  -- the best with row k
  abbrev pub with_row : ℕ → ℕ → Best → Best
  with_row k x b = pick (on_side side at x) (better (nearer side) k x b) b

-- of two times the one at less distance is on the side where any is, and is the nearer one
module _ (at x y : ℕ) (a : at < 2 ^ 64) (b : x < 2 ^ 64) (c : y < 2 ^ 64) where
  -- after the one asked for
  before_after : distance_to Side.After at x < distance_to Side.After at y → at < y → (at < x) × (x < y)
  before_after h m = omega (arith, m, h)

  not_after : distance_to Side.After at y ≤ distance_to Side.After at x → at < x → (at < y) × (y ≤ x)
  not_after h m = omega (arith, m, h)

  -- at or before it
  before_before : distance_to Side.AtOrBefore at x < distance_to Side.AtOrBefore at y → y ≤ at → (x ≤ at) × (y < x)
  before_before h m = omega (arith, m, h)

  not_before : distance_to Side.AtOrBefore at y ≤ distance_to Side.AtOrBefore at x → x ≤ at → (y ≤ at) × (x ≤ y)
  not_before h m = omega (arith, m, h)

  -- so the row at less distance is the best
  takes : (side : Side) (row k : ℕ) → distance_to side at x < distance_to side at y → seen side at k x ≡ with_row side at k x (seen side at row y)
  takes Side.After row k h = go (ltb at y) refl
    where
      go : (o : Bool) → ltb at y ≡ o → pick (ltb at x) (best k x) nothing ≡ pick (ltb at x) (better (nearer Side.After) k x (pick o (best row y) nothing)) (pick o (best row y) nothing)
      go true e = let l = before_after h (ltb-true at y e) in rw (lt-ltb at x l.0, lt-ltb x y l.1)
      go false e = refl
  takes Side.AtOrBefore row k h = go (leb y at) refl
    where
      go : (o : Bool) → leb y at ≡ o → pick (leb x at) (best k x) nothing ≡ pick (leb x at) (better (nearer Side.AtOrBefore) k x (pick o (best row y) nothing)) (pick o (best row y) nothing)
      go true e = let l = before_before h (leb-true y at e) in rw (le-leb x at l.0, lt-ltb y x l.1)
      go false e = refl

  -- and one at no less distance takes over from none
  keeps : (side : Side) (row k : ℕ) → distance_to side at y ≤ distance_to side at x → seen side at row y ≡ with_row side at k x (seen side at row y)
  keeps Side.After row k h = go (ltb at x) refl
    where
      go : (o : Bool) → ltb at x ≡ o → seen Side.After at row y ≡ pick o (better (nearer Side.After) k x (seen Side.After at row y)) (seen Side.After at row y)
      go true e = let l = not_after h (ltb-true at x e) in rw (lt-ltb at y l.0, le-ltb x y l.1)
      go false e = refl
  keeps Side.AtOrBefore row k h = go (leb x at) refl
    where
      go : (o : Bool) → leb x at ≡ o → seen Side.AtOrBefore at row y ≡ pick o (better (nearer Side.AtOrBefore) k x (seen Side.AtOrBefore at row y)) (seen Side.AtOrBefore at row y)
      go true e = let l = not_before h (leb-true x at e) in rw (le-leb y at l.0, le-ltb y x l.1)
      go false e = refl

-- ---- row by row

module _ (side : Side) (at : ℕ) (times : List ℕ) where
  -- the row with the least distance of the first k: what is best of them and of those left is best of all
  pub record Scan (k row least : ℕ) : Type 0 where
    pub below : get_or times row 0 < 2 ^ 64
    pub distance : least ≡ distance_to side at (get_or times row 0)
    pub rest : best_of (on_side side at) (nearer side) k (drop k times) (seen side at row (get_or times row 0)) ≡ best_of (on_side side at) (nearer side) 0 times nothing

  module _ (fits : at < 2 ^ 64) {k row least x d : ℕ} (h : k < length times) (e : x ≡ get_or times k 0) (b : x < 2 ^ 64) (is : d ≡ distance_to side at x) (i : Scan k row least) where
    -- a row more, at less distance
    pub scan_takes : d < least → Scan (k + 1) k d
    scan_takes l =
        let chose = takes at x (get_or times row 0) fits b i.below side row k (rw (← is, ← i.distance) l) in
        record { below = rw (← e) b; distance = rw (← e) is; rest = rw (← e, chose, add-one) (rw (drop-cons times k 0 h, ← e) at i.rest) }

    -- a row more that is not
    pub scan_keeps : least ≤ d → Scan (k + 1) row least
    scan_keeps l =
        let chose = keeps at x (get_or times row 0) fits b i.below side row k (rw (← is, ← i.distance) l) in
        record { below = i.below; distance = i.distance; rest = rw (chose, add-one) (rw (drop-cons times k 0 h, ← e) at i.rest) }

  -- behind the last
  pub scan_done : (k : ℕ) {row least : ℕ} → length times ≤ k → Scan k row least → seen side at row (get_or times row 0) ≡ best_of (on_side side at) (nearer side) 0 times nothing
  scan_done k h i = rw (drop_of_length-le times h) at i.rest

-- before it there is row 0
pub scan_first : (side : Side) (at : ℕ) (times : List ℕ) {x least : ℕ} → 0 < length times → x ≡ get_or times 0 0 → x < 2 ^ 64 → least ≡ distance_to side at x → Scan side at times 1 0 least
scan_first side at [] h e b l = absurd (omega arith)
scan_first side at (y ∷ ys) h e b l = record { below = rw (← e) b; distance = rw (← e) l; rest = refl }

-- ---- what is found at the end

-- of no rows none
pub no_rows : (side : Side) (at : ℕ) (times : List ℕ) → length times ≡ 0 → of.none ≡ row_in side times at
unfolding at_or_before after
no_rows Side.After at [] e = refl
no_rows Side.AtOrBefore at [] e = refl
no_rows side at (x ∷ xs) e = absurd (omega (arith, e))

-- of some the best, where one is on the side
answer_is : (side : Side) (at : ℕ) (times : List ℕ) → 0 < length times → row_or (without side) (best_of (on_side side at) (nearer side) 0 times nothing) ≡ row_in side times at
unfolding at_or_before after
answer_is Side.After at times h = refl
answer_is Side.AtOrBefore at [] h = absurd (omega arith)
answer_is Side.AtOrBefore at (x ∷ xs) h = refl

module _ (side : Side) (at : ℕ) (times : List ℕ) (some : 0 < length times) {k row least : ℕ} (all : length times ≤ k) (i : Scan side at times k row least) where
  -- the row at the least distance, where its time is on the side
  pub found : on_side side at (get_or times row 0) ≡ true → number row ≡ row_in side times at
  found on = rw (← scan_done side at times k all i, on) at (answer_is side at times some)

  -- and else what stands for none
  pub not_found : on_side side at (get_or times row 0) ≡ false → without side ≡ row_in side times at
  not_found off = rw (← scan_done side at times k all i, off) at (answer_is side at times some)

-- ---- of entries by their times

-- what tells the time of each row tells their times
pub times_told : {post : ℕ → ℕ → Type 0} {rows : ℕ} (es : List Row) → length es ≡ rows → ((k x : ℕ) → k < rows → post k x → x ≡ time (get_or es k [])) → Tells post rows (map time es)
times_told es n told = (length-map es time ∙ n, λ k x h p. told k x h p ∙ sym (get_or-map time es k []))

-- the row that is found is one of them
pub row_below : (side : Side) (es : List Row) (at : ℕ) (k : ℕ) → number k ≡ find_in side es at → k < length es
row_below Side.After es at k h = rw (length-map es time) at (after_row (map time es) at k (sym h))
row_below Side.AtOrBefore es at k h = rw (length-map es time) at (before_row (map time es) at k (sym h))
