-- What the searches of a column find: the first row that passes, the next, the last, and the best of the rows that pass.
use Prim.Native.Nat.{ℕ, zero, suc, ◌+◌, ◌-◌, ◌≤◌, ◌<◌}
use mathlib.Core.Path.{◌≡◌, refl, subst}
use mathlib.Core.List.{List, [], ◌∷◌, map}
use mathlib.Core.Bool.{Bool, true, false}
use native.Mathlib.Omega.{arith}
use lib.ListN.{length, get_or, drop, length-map, length-drop}
use lib.Seq.{get_or-drop}
use lib.Dec.{leb, ltb, eqb}
use borrow.Author.Tests.{ltb-true, ltb-false, lt-ltb, le-ltb}
use Rattle.format.specs.Bytes.{pick}
use Rattle.format.specs.ClipRecord.{Row, map_pid}
use Rattle.format.specs.Questions.{Answer, refused, none, number, ticks45, ticks90, seconds, no_rate, Best, nothing, best, better, best_of, first_where, next_where, last_where, row_or, or_else, at_or_before, after, is_video_map, kinds, primary_map}

-- a test does not both pass and fail
pub not_both : {b : Bool} → b ≡ true → b ≡ false → ⊥
not_both h g = let z : ◌≡◌ {A = ℕ} 0 1 = cc in omega arith

-- what holds below k and at k holds below k + 1
one_more : (P : ℕ → Type 0) (k : ℕ) → ((j : ℕ) → j < k → P j) → P k → (j : ℕ) → j < suc k → P j
one_more P k below here j l = go (ltb j k) refl
  where
    go : (b : Bool) → ltb j k ≡ b → P j
    go true h = below j (ltb-true j k h)
    go false h = let ge = ltb-false j k h in let e : k ≡ j = omega arith in subst P e here

-- ---- an answer that is none or one of n rows

-- none, or a row below n
pub data NoneOrRow (n : ℕ) : Answer → Type 0 where
  no_row : NoneOrRow n none
  a_row : (k : ℕ) → k < n → NoneOrRow n (number k)

-- a row that is answered is one of them
pub row_below : {n : ℕ} {a : Answer} {k : ℕ} → NoneOrRow n a → a ≡ number k → k < n
row_below no_row e = let z : ◌≡◌ {A = ℕ} 0 1 = cc in absurd (omega arith)
row_below {k = k} (a_row j h) e = let same : j ≡ k = cc in omega arith

-- the first answer or the second
pub else_row : {n : ℕ} {a b : Answer} → NoneOrRow n a → NoneOrRow n b → NoneOrRow n (or_else a b)
else_row no_row h = h
else_row (a_row k l) h = a_row k l

-- ---- the first row that passes

-- row k passes and no earlier row does
pub record IsFirst (test : ℕ → Bool) (xs : List ℕ) (k : ℕ) : Type 0 where
  pub row : k < length xs
  pub passes : test (get_or xs k 0) ≡ true
  pub earliest : (j : ℕ) → j < k → test (get_or xs j 0) ≡ false

-- no row passes
abbrev pub NoRow : (ℕ → Bool) → List ℕ → Type 0
NoRow test xs = (j : ℕ) → j < length xs → test (get_or xs j 0) ≡ false

module _ (test : ℕ → Bool) where
  -- what is answered where the first element is in row m
  pub data FirstFrom (m : ℕ) (xs : List ℕ) : Answer → Type 0 where
    not_there : NoRow test xs → FirstFrom m xs none
    there : {k : ℕ} (i : ℕ) → k ≡ m + i → IsFirst test xs i → FirstFrom m xs (number k)

  -- an element that fails stands before
  one_before : (m x : ℕ) (xs : List ℕ) {a : Answer} → test x ≡ false → FirstFrom (suc m) xs a → FirstFrom m (x ∷ xs) a
  one_before m x xs f (not_there h) = not_there next
    where
      next : NoRow test (x ∷ xs)
      next zero l = f
      next (suc j) l = h j (omega arith)
  one_before m x xs f (there {k = k} i e h) =
      let l = h.row in
      let s : k ≡ m + suc i = omega arith in
      there (suc i) s (record { row = omega arith; passes = h.passes; earliest = next })
    where
      next : (j : ℕ) → j < suc i → test (get_or (x ∷ xs) j 0) ≡ false
      next zero l = f
      next (suc j) l = h.earliest j (omega arith)

  -- the search
  pub first_from : (m : ℕ) (xs : List ℕ) → FirstFrom m xs (first_where test m xs)
  first_from m [] = not_there (λ j l. absurd (omega arith))
  first_from m (x ∷ xs) = go (test x) refl (first_from (suc m) xs)
    where
      go : (b : Bool) → test x ≡ b → FirstFrom (suc m) xs (first_where test (suc m) xs) → FirstFrom m (x ∷ xs) (pick b (number m) (first_where test (suc m) xs))
      go true h later = let s : m ≡ m + 0 = omega arith in there 0 s (record { row = omega arith; passes = h; earliest = λ j l. absurd (omega arith) })
      go false h later = one_before m x xs h later

  -- a row that is found is the first
  found_first : {xs : List ℕ} {a : Answer} {k : ℕ} → FirstFrom 0 xs a → a ≡ number k → IsFirst test xs k
  found_first (not_there h) e = let z : ◌≡◌ {A = ℕ} 0 1 = cc in absurd (omega arith)
  found_first {xs} {k = k} (there {k = j} i s h) e =
      let same : j ≡ k = cc in
      let row : i ≡ k = omega arith in
      subst (IsFirst test xs) row h

  -- the same of the search of all rows
  pub first_is : (xs : List ℕ) (k : ℕ) → first_where test 0 xs ≡ number k → IsFirst test xs k
  first_is xs k e = found_first (first_from 0 xs) e

  -- it is a row
  pub first_row_lem : (xs : List ℕ) (k : ℕ) → first_where test 0 xs ≡ number k → k < length xs
  first_row_lem xs k e = (first_is xs k e).row

  -- a search from row 0 on answers none or one of the rows
  from_rows : {xs : List ℕ} {a : Answer} → FirstFrom 0 xs a → NoneOrRow (length xs) a
  from_rows (not_there h) = no_row
  from_rows (there {k = k} i s h) = let l = h.row in a_row k (omega arith)

  -- the answer is none or a row
  pub first_rows : (xs : List ℕ) → NoneOrRow (length xs) (first_where test 0 xs)
  first_rows xs = from_rows (first_from 0 xs)

  -- ---- the first from row `from` on

  -- row k passes and no row before it does, down to row `from`
  pub record IsNext (from : ℕ) (xs : List ℕ) (k : ℕ) : Type 0 where
    pub not_before : from ≤ k
    pub row : k < length xs
    pub passes : test (get_or xs k 0) ≡ true
    pub earliest : (j : ℕ) → from ≤ j → j < k → test (get_or xs j 0) ≡ false

  -- a row that is found once those before row `from` are dropped is the next, counted in the whole list
  found_next : (from : ℕ) (xs : List ℕ) {a : Answer} {k : ℕ} → FirstFrom from (drop from xs) a → a ≡ number k → IsNext from xs k
  found_next from xs (not_there h) e = let z : ◌≡◌ {A = ℕ} 0 1 = cc in absurd (omega arith)
  found_next from xs {k = k} (there {k = r} i s h) e =
      let same : r ≡ k = cc in
      let at : from + i ≡ k = omega arith in
      let l = h.row in
      let n = length-drop from xs in
      record {
        not_before = omega arith;
        row = omega arith;
        passes = rw (get_or-drop from xs i 0, at) at h.passes;
        earliest = λ j f b. let d : from + (j - from) ≡ j = omega arith in rw (get_or-drop from xs (j - from) 0, d) at (h.earliest (j - from) (omega arith));
      }

  -- a row that is found is the next
  pub next_is : (from : ℕ) (xs : List ℕ) (k : ℕ) → next_where test from xs ≡ number k → IsNext from xs k
  next_is from xs k e = found_next from xs (first_from from (drop from xs)) e

  -- ---- the last row that passes

  -- row k passes and no later row does
  pub record IsLast (xs : List ℕ) (k : ℕ) : Type 0 where
    pub row : k < length xs
    pub passes : test (get_or xs k 0) ≡ true
    pub latest : (j : ℕ) → k < j → j < length xs → test (get_or xs j 0) ≡ false

  -- what is answered where the first element is in row m and `sofar` is answered without it
  pub data LastFrom (m : ℕ) (xs : List ℕ) (sofar : Answer) : Answer → Type 0 where
    as_before : NoRow test xs → LastFrom m xs sofar sofar
    later : {k : ℕ} (i : ℕ) → k ≡ m + i → IsLast xs i → LastFrom m xs sofar (number k)

  -- one more element in front
  module _ (m x : ℕ) (xs : List ℕ) (sofar : Answer) where
    -- none passes behind it, in all rows, and behind a later row
    none_behind : NoRow test xs → (j : ℕ) → 0 < j → j < suc (length xs) → test (get_or (x ∷ xs) j 0) ≡ false
    none_behind h zero z l = absurd (omega arith)
    none_behind h (suc j) z l = h j (omega arith)

    none_at_all : test x ≡ false → NoRow test xs → NoRow test (x ∷ xs)
    none_at_all f h zero l = f
    none_at_all f h (suc j) l = h j (omega arith)

    none_later : (i : ℕ) → IsLast xs i → (j : ℕ) → suc i < j → j < suc (length xs) → test (get_or (x ∷ xs) j 0) ≡ false
    none_later i h zero l n = absurd (omega arith)
    none_later i h (suc j) l n = h.latest j (omega arith) (omega arith)

    -- with it in front the answer is the last row that passes, be it its own or a later one, else `sofar`
    one_before_last : (b : Bool) → test x ≡ b → {a : Answer} → LastFrom (suc m) xs (pick b (number m) sofar) a → LastFrom m (x ∷ xs) sofar a
    one_before_last true e (as_before h) =
        let s : m ≡ m + 0 = omega arith in
        later 0 s (record { row = omega arith; passes = e; latest = none_behind h })
    one_before_last false e (as_before h) = as_before (none_at_all e h)
    one_before_last b e (later {k = k} i s h) =
        let l = h.row in
        let s' : k ≡ m + suc i = omega arith in
        later (suc i) s' (record { row = omega arith; passes = h.passes; latest = none_later i h })

  -- the search
  pub last_from : (m : ℕ) (xs : List ℕ) (sofar : Answer) → LastFrom m xs sofar (last_where test m xs sofar)
  last_from m [] sofar = as_before (λ j l. absurd (omega arith))
  last_from m (x ∷ xs) sofar = one_before_last m x xs sofar (test x) refl (last_from (suc m) xs (pick (test x) (number m) sofar))

-- ---- the best of the rows that pass

-- a strict order: what beats one that z does not beat, beats z too; and no two beat each other
pub record Ranks (beats : ℕ → ℕ → Bool) : Type 0 where
  pub over : (x y z : ℕ) → beats x y ≡ true → beats z y ≡ false → beats x z ≡ true
  pub one_way : (x y : ℕ) → beats x y ≡ true → beats y x ≡ false

-- the greater beats the less, and the less the greater
pub greater_ranks : Ranks (λ y z. ltb z y)
greater_ranks = record {
  over = λ x y z h g. let a = ltb-true y x h in let b = ltb-false y z g in lt-ltb z x (omega arith);
  one_way = λ x y h. let a = ltb-true y x h in le-ltb x y (omega arith);
}

-- that the less beats the greater is a strict order too: the least number is searched by it
pub less_ranks : Ranks (λ y z. ltb y z)
less_ranks = record {
  over = λ x y z h g. let a = ltb-true x y h in let b = ltb-false z y g in lt-ltb x z (omega arith);
  one_way = λ x y h. let a = ltb-true x y h in le-ltb y x (omega arith);
}

module _ (test : ℕ → Bool) (beats : ℕ → ℕ → Bool) (xs : List ℕ) where
  -- of the first n rows: row k with number x passes, none that passes beats it, and it beats all earlier ones that pass
  pub record IsBest (n k x : ℕ) : Type 0 where
    pub row : k < n
    pub is : get_or xs k 0 ≡ x
    pub passes : test x ≡ true
    pub unbeaten : (j : ℕ) → j < n → test (get_or xs j 0) ≡ true → beats (get_or xs j 0) x ≡ false
    pub earliest : (j : ℕ) → j < k → test (get_or xs j 0) ≡ true → beats x (get_or xs j 0) ≡ true

  -- what is best of the first n rows, or that none of them passes
  abbrev pub BestUntil : ℕ → Best → Type 0
  BestUntil n nothing = (j : ℕ) → j < n → test (get_or xs j 0) ≡ false
  BestUntil n (best k x) = IsBest n k x

  module _ (ranks : Ranks beats) where
    -- none beats itself
    not_itself : (x : ℕ) → beats x x ≡ false
    not_itself x = go (beats x x) refl
      where
        go : (b : Bool) → beats x x ≡ b → beats x x ≡ false
        go true h = ranks.one_way x x h
        go false h = h

    -- ---- one more row, with number x

    module _ (k x : ℕ) (e : get_or xs k 0 ≡ x) where
      -- where it is beaten by none
      wins : test x ≡ true → ((j : ℕ) → j < k → test (get_or xs j 0) ≡ true → beats x (get_or xs j 0) ≡ true) → IsBest (suc k) k x
      wins t all = record {
        row = omega arith;
        is = e;
        passes = t;
        unbeaten = one_more (λ j. test (get_or xs j 0) ≡ true → beats (get_or xs j 0) x ≡ false) k
            (λ j l p. ranks.one_way x (get_or xs j 0) (all j l p)) (λ p. rw e (not_itself x));
        earliest = all;
      }

      -- where it does not pass, or does not beat the best so far
      loses : {i y : ℕ} → IsBest k i y → (test x ≡ true → beats x y ≡ false) → IsBest (suc k) i y
      loses {i} {y} h beaten =
          let l = h.row in
          record {
            row = omega arith;
            is = h.is;
            passes = h.passes;
            unbeaten = one_more (λ j. test (get_or xs j 0) ≡ true → beats (get_or xs j 0) y ≡ false) k h.unbeaten (rw e beaten);
            earliest = h.earliest;
          }

      -- what is best with it
      turn : (b : Best) → BestUntil k b → BestUntil (suc k) (pick (test x) (better beats k x b) b)
      turn nothing h = go (test x) refl
        where
          go : (t : Bool) → test x ≡ t → BestUntil (suc k) (pick t (best k x) nothing)
          go true p = wins p (λ j l q. absurd (not_both q (h j l)))
          go false p = one_more (λ j. test (get_or xs j 0) ≡ false) k h (rw e p)
      turn (best i y) h = go (test x) (beats x y) refl refl
        where
          go : (t b : Bool) → test x ≡ t → beats x y ≡ b → BestUntil (suc k) (pick t (pick b (best k x) (best i y)) (best i y))
          go true true p q = wins p (λ j l r. ranks.over x y (get_or xs j 0) q (h.unbeaten j l r))
          go true false p q = loses h (λ r. q)
          go false b p q = loses h (λ r. absurd (not_both r p))

    -- ---- the rows from row k on

    -- what is best with them
    walk : (k : ℕ) (left : List ℕ) (b : Best) → ((j : ℕ) → get_or xs (k + j) 0 ≡ get_or left j 0) → BestUntil k b
        → BestUntil (k + length left) (best_of test beats k left b)
    walk k [] b same h = let z : k + 0 ≡ k = omega arith in rw z h
    walk k (x ∷ left) b same h =
        let z : k + 0 ≡ k = omega arith in
        let n : k + suc (length left) ≡ suc k + length left = omega arith in
        let here : get_or xs k 0 ≡ x = rw z at (same 0) in
        let later : (j : ℕ) → get_or xs (suc k + j) 0 ≡ get_or left j 0 = λ j. let s : k + suc j ≡ suc k + j = omega arith in rw s at (same (suc j)) in
        rw n (walk (suc k) left (pick (test x) (better beats k x b) b) later (turn k x here b h))

    -- the best of all rows
    pub best_is : BestUntil (length xs) (best_of test beats 0 xs nothing)
    best_is =
        let z : 0 + length xs ≡ length xs = omega arith in
        let same : (j : ℕ) → get_or xs (0 + j) 0 ≡ get_or xs j 0 = λ j. let s : 0 + j ≡ j = omega arith in rw s in
        let w = walk 0 xs nothing same (λ j l. absurd (omega arith)) in
        rw z at w

  -- its row is one of them
  pub best_rows : {n : ℕ} {otherwise : Answer} → NoneOrRow n otherwise → (b : Best) → BestUntil n b → NoneOrRow n (row_or otherwise b)
  best_rows o nothing h = o
  best_rows o (best k x) h = a_row k h.row

-- ---- entry points of one map

-- the best of the times not above t, and of those above it
pub before_best : (times : List ℕ) (t : ℕ) → BestUntil (λ y. leb y t) (λ y z. ltb z y) times (length times) (best_of (λ y. leb y t) (λ y z. ltb z y) 0 times nothing)
before_best times t = best_is (λ y. leb y t) (λ y z. ltb z y) times greater_ranks

-- of the times above t the search finds the least, earliest among equals, or that there is none
pub after_best : (times : List ℕ) (t : ℕ) → BestUntil (λ y. ltb t y) (λ y z. ltb y z) times (length times) (best_of (λ y. ltb t y) (λ y z. ltb y z) 0 times nothing)
after_best times t = best_is (λ y. ltb t y) (λ y z. ltb y z) times less_ranks

-- the answer is none or a row of the map
pub before_rows : (times : List ℕ) (t : ℕ) → NoneOrRow (length times) (at_or_before times t)
unfolding at_or_before
before_rows [] t = no_row
before_rows (x ∷ xs) t =
    best_rows (λ y. leb y t) (λ y z. ltb z y) (x ∷ xs) (a_row 0 (omega arith)) (best_of (λ y. leb y t) (λ y z. ltb z y) 0 (x ∷ xs) nothing) (before_best (x ∷ xs) t)

-- so it is for the least time above t
pub after_rows : (times : List ℕ) (t : ℕ) → NoneOrRow (length times) (after times t)
unfolding after
after_rows times t = best_rows (λ y. ltb t y) (λ y z. ltb y z) times no_row (best_of (λ y. ltb t y) (λ y z. ltb y z) 0 times nothing) (after_best times t)

-- a row that is answered is one of the map's
pub before_row : (times : List ℕ) (t k : ℕ) → at_or_before times t ≡ number k → k < length times
before_row times t k e = row_below (before_rows times t) e

-- so is the row of the least time above t
pub after_row : (times : List ℕ) (t k : ℕ) → after times t ≡ number k → k < length times
after_row times t k e = row_below (after_rows times t) e

-- ---- the primary map

-- the answer is none or a map
pub primary_rows : (maps : List Row) → NoneOrRow (length maps) (primary_map maps)
unfolding primary_map
primary_rows maps =
    let least = best_of (λ y. true) (λ y z. ltb y z) 0 (map map_pid maps) nothing in
    let kinds-all : length (kinds maps) ≡ length maps = length-map maps _ in
    let pids-all : length (map map_pid maps) ≡ length maps = length-map maps map_pid in
    else_row (rw kinds-all at (first_rows (λ y. eqb y 8) (kinds maps)))
    (else_row (rw kinds-all at (first_rows is_video_map (kinds maps)))
    (rw pids-all at (best_rows (λ y. true) (λ y z. ltb y z) (map map_pid maps) no_row least (best_is (λ y. true) (λ y z. ltb y z) (map map_pid maps) less_ranks))))

-- a map that is answered is one of them
pub primary_row : (maps : List Row) (k : ℕ) → primary_map maps ≡ number k → k < length maps
primary_row maps k e = row_below (primary_rows maps) e

-- there is none exactly without maps
pub primary_empty : primary_map [] ≡ none
unfolding primary_map
primary_empty = refl

-- where there is no answer, the second has none
else_none : (a b : Answer) → or_else a b ≡ none → b ≡ none
else_none none b e = e
else_none (refused n) b e = cc
else_none (number k) b e = cc
else_none (ticks45 t) b e = cc
else_none (ticks90 t) b e = cc
else_none (seconds q) b e = cc
else_none no_rate b e = cc

-- where every row passes, one of several is best
some_best : (m : ℕ) (ms : List ℕ) (b : Best) → BestUntil (λ y. true) (λ y z. ltb y z) (m ∷ ms) (length (m ∷ ms)) b → row_or none b ≡ none → ⊥
some_best m ms nothing h e = not_both refl (h 0 (omega arith))
some_best m ms (best k x) h e = let z : ◌≡◌ {A = ℕ} 0 1 = cc in omega arith

-- where none is answered there are no maps, as one of any maps has the least PID
pub primary_none : (maps : List Row) → primary_map maps ≡ none → maps ≡ []
unfolding primary_map
primary_none [] e = refl
primary_none (m ∷ ms) e =
    let maps = m ∷ ms in
    let pids = map map_pid maps in
    let least = best_of (λ y. true) (λ y z. ltb y z) 0 pids nothing in
    let inner = else_none (first_where is_video_map 0 (kinds maps)) (row_or none least) (else_none (first_where (λ y. eqb y 8) 0 (kinds maps)) _ e) in
    absurd (some_best (map_pid m) (map map_pid ms) least (best_is (λ y. true) (λ y z. ltb y z) pids less_ranks) inner)
