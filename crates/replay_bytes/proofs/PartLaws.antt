-- Parts of lists: how a test of the front goes on behind a part, and what a place says.
use Prim.Native.Nat.{ℕ, suc, ◌+◌, ◌*◌, ◌/◌, ◌^◌, ◌<◌, ◌≤◌}
use mathlib.Core.Path.{◌≡◌, refl, sym, ap, ◌∙◌}
use mathlib.Core.List.{List, [], ◌∷◌, ◌++◌}
use mathlib.Core.Bool.{Bool, true, false}
use native.Mathlib.Numerals.{add-one}
use native.Mathlib.Omega.{arith}
use lib.ListN.{length, get_or, take, drop, length-append, length-drop, take-append-drop, drop_of_length-le}
use lib.Seq.{drop-cons, drop-drop, get_or-take, get_or-drop, ext_get_or, length-take-le}
use lib.Dec.{leb, eqb}
use borrow.Author.Tests.{le-leb, lt-leb, eq-eqb, ne_eqb, eqb-true, eqb-false, leb-true, leb-false}
use Rattle.std.specs.Prelude.{Option, Some, None, nat_eq, ◌&&◌}
use Rattle.std.specs.List.{starts_with as std_starts, slice_range}
use Rattle.std.proofs.lemmas.Slice.{between_to_end, between_from_start}
use Rattle.format.specs.Bytes.{IsBytes, both, pick, part}
use Rattle.format.specs.Tables.{cell_at, cell_bytes, row_bytes_of}
use Rattle.format.proofs.Tests.{both_true, true_both, both_assoc, left_fails, right_fails}
use Rattle.format.proofs.Lists.{part_length}
use Rattle.format.proofs.Numbers.{Stands}
use Rattle.format.proofs.Cells.{low_length, low_digits, low_back}
use Rattle.format.proofs.Sweep.{row_bytes_lem}
use Rattle.replay_bytes.specs.Parts.{starts_with, same_bytes, behind, behind_part}

-- ---- tests

-- two parts stand at the front where the first does, and behind it the second
pub starts_append : (xs ys zs : List ℕ) → starts_with (xs ++ ys) zs ≡ both (starts_with xs zs) (starts_with ys (drop (length xs) zs))
starts_append [] ys zs = refl
starts_append (x ∷ xs) ys [] = refl
starts_append (x ∷ xs) ys (z ∷ zs) =
    rw (starts_append xs ys zs) (sym (both_assoc (eqb x z) (starts_with xs zs) (starts_with ys (drop (length xs) zs))))

-- what is longer does not stand at the front
pub starts_short : (xs zs : List ℕ) → length zs < length xs → starts_with xs zs ≡ false
starts_short [] zs h = absurd (omega arith)
starts_short (x ∷ xs) [] h = refl
starts_short (x ∷ xs) (z ∷ zs) h = right_fails (eqb x z) (starts_short xs zs (omega arith))

-- what stands at the front is not longer
pub starts_fits : (xs zs : List ℕ) → starts_with xs zs ≡ true → length xs ≤ length zs
starts_fits [] zs h = omega arith
starts_fits (x ∷ xs) [] h = let z : ◌≡◌ {A = ℕ} 0 1 = cc in absurd (omega arith)
starts_fits (x ∷ xs) (z ∷ zs) h = omega (arith, starts_fits xs zs (both_true {a = eqb x z} h).1)

-- what stands at the front and is as long is the same
pub starts_same : (xs zs : List ℕ) → length zs ≡ length xs → starts_with xs zs ≡ same_bytes xs zs
starts_same [] [] e = refl
starts_same [] (z ∷ zs) e = absurd (omega arith)
starts_same (x ∷ xs) [] e = absurd (omega arith)
starts_same (x ∷ xs) (z ∷ zs) e = ap (both (eqb x z)) (starts_same xs zs (omega arith))

-- lists of two lengths are not the same
pub same_short : (xs zs : List ℕ) → (length zs ≡ length xs → ⊥) → same_bytes xs zs ≡ false
same_short [] [] h = absurd (h refl)
same_short [] (z ∷ zs) h = refl
same_short (x ∷ xs) [] h = refl
same_short (x ∷ xs) (z ∷ zs) h = right_fails (eqb x z) (same_short xs zs (λ e. h (ap suc e)))

-- the test passes for equal lists alone
pub same_equal : (xs zs : List ℕ) → same_bytes xs zs ≡ true → xs ≡ zs
same_equal [] [] h = refl
same_equal [] (z ∷ zs) h = let z : ◌≡◌ {A = ℕ} 0 1 = cc in absurd (omega arith)
same_equal (x ∷ xs) [] h = let z : ◌≡◌ {A = ℕ} 0 1 = cc in absurd (omega arith)
same_equal (x ∷ xs) (z ∷ zs) h =
    let t = both_true h in
    rw (eqb-true x z t.0, same_equal xs zs t.1)

-- and for all of them
pub equal_same : (xs : List ℕ) → same_bytes xs xs ≡ true
equal_same [] = refl
equal_same (x ∷ xs) = true_both (eq-eqb x x refl) (equal_same xs)

-- "and" in the library's words
and_both : (b d : Bool) → (b && d) ≡ both b d
and_both true d = refl
and_both false d = refl

-- the library's test is this one
pub starts_is : (xs zs : List ℕ) → std_starts nat_eq zs xs ≡ starts_with xs zs
starts_is [] zs = refl
starts_is (x ∷ xs) [] = refl
starts_is (x ∷ xs) (z ∷ zs) = and_both (eqb x z) (std_starts nat_eq zs xs) ∙ ap (both (eqb x z)) (starts_is xs zs)

-- ---- places

module _ (a : List ℕ) (at : ℕ) (xs : List ℕ) where
  -- bytes that stand from a place have a place behind them
  pub stands : at ≤ length a → starts_with xs (drop at a) ≡ true → behind a (Some at) xs ≡ Some (at + length xs)
  unfolding behind
  stands h e = rw (le-leb at (length a) h, e)

  -- other bytes have none
  pub differs : starts_with xs (drop at a) ≡ false → behind a (Some at) xs ≡ None
  unfolding behind
  differs e = rw (right_fails (leb at (length a)) e)

  -- nor is there one behind a place past the end
  pub beyond : length a < at → behind a (Some at) xs ≡ None
  unfolding behind
  beyond h = rw (lt-leb at (length a) h)

-- from no place there is none
pub behind_none : (a xs : List ℕ) → behind a None xs ≡ None
unfolding behind
behind_none a xs = refl

-- from behind bytes that stand there, what stands behind both
behind_on : (a : List ℕ) (at : ℕ) (xs ys : List ℕ) → at ≤ length a → at + length xs ≤ length a → starts_with xs (drop at a) ≡ true
    → behind a (Some (at + length xs)) ys ≡ behind a (Some at) (xs ++ ys)
unfolding behind
behind_on a at xs ys h room t =
    let more : at + length (xs ++ ys) ≡ at + length xs + length ys = rw length-append (omega arith) in
    rw (le-leb at (length a) h, le-leb (at + length xs) (length a) room, starts_append xs ys (drop at a), t, drop-drop (length xs) at a, more)

-- behind two parts: behind the first, and then the second
pub behind_append : (a : List ℕ) (place : Option ℕ) (xs ys : List ℕ) → behind a (behind a place xs) ys ≡ behind a place (xs ++ ys)
behind_append a None xs ys = rw (behind_none a xs, behind_none a ys) (sym (behind_none a (xs ++ ys)))
behind_append a (Some at) xs ys = go (leb at (length a)) (starts_with xs (drop at a)) refl refl
  where
    go : (b d : Bool) → leb at (length a) ≡ b → starts_with xs (drop at a) ≡ d → behind a (behind a (Some at) xs) ys ≡ behind a (Some at) (xs ++ ys)
    go true true e t =
        let h = leb-true at (length a) e in
        let room : at + length xs ≤ length a = omega (arith, starts_fits xs (drop at a) t, length-drop at a) in
        ap (λ p. behind a p ys) (stands a at xs h t) ∙ behind_on a at xs ys h room t
    go true false e t =
        ap (λ p. behind a p ys) (differs a at xs t) ∙ behind_none a ys
        ∙ sym (differs a at (xs ++ ys) (starts_append xs ys (drop at a) ∙ left_fails (starts_with ys (drop (length xs) (drop at a))) t))
    go false d e t =
        let h = leb-false at (length a) e in
        ap (λ p. behind a p ys) (beyond a at xs h) ∙ behind_none a ys ∙ sym (beyond a at (xs ++ ys) h)

-- ---- a part of another list

module _ (a : List ℕ) (place : Option ℕ) (o : List ℕ) (from n : ℕ) where
  -- a part that the other list has
  pub part_inside : from + n ≤ length o → behind_part a place o from n ≡ behind a place (part o from n)
  unfolding behind_part
  part_inside h = rw (le-leb (from + n) (length o) h)

  -- and one that it has not
  pub part_outside : length o < from + n → None ≡ behind_part a place o from n
  unfolding behind_part
  part_outside h = rw (lt-leb (from + n) (length o) h)

-- from no place no part is passed
pub part_none : (a o : List ℕ) (from n : ℕ) → behind_part a None o from n ≡ None
unfolding behind_part
part_none a o from n = rw (behind_none a (part o from n)) (either_way (leb (from + n) (length o)))
  where
    -- whichever way the test goes
    either_way : (b : Bool) → ◌≡◌ {A = Option ℕ} (pick b None None) None
    either_way true = refl
    either_way false = refl

module _ (a : List ℕ) (at : ℕ) (o : List ℕ) (from n : ℕ) where
  -- no part stands behind a place past the end
  pub part_beyond : length a < at → from + n ≤ length o → None ≡ behind_part a (Some at) o from n
  part_beyond h room = sym (part_inside a (Some at) o from n room ∙ beyond a at (part o from n) h)

  module _ (inside : from + n ≤ length o) {xs rest : List ℕ} (part-is : xs ≡ part o from n) (rest-is : rest ≡ drop at a) where
    -- the library's test is that of the part
    test_is : std_starts nat_eq rest xs ≡ starts_with (part o from n) (drop at a)
    test_is = rw (part-is, rest-is) (starts_is (part o from n) (drop at a))

    -- a part that stands there
    pub part_stands : at ≤ length a → std_starts nat_eq rest xs ≡ true → Some (at + n) ≡ behind_part a (Some at) o from n
    part_stands h e =
        sym (part_inside a (Some at) o from n inside
        ∙ stands a at (part o from n) h (sym test_is ∙ e)
        ∙ ap (λ (m : ℕ). Some (at + m)) (part_length o from n inside))

    -- and one that doesn't
    pub part_differs : std_starts nat_eq rest xs ≡ false → None ≡ behind_part a (Some at) o from n
    part_differs e = sym (part_inside a (Some at) o from n inside ∙ differs a at (part o from n) (sym test_is ∙ e))

-- the part that is cut out of the front of what stands from a place
pub cut_part : (o : List ℕ) (from n : ℕ) {rest xs : List ℕ} → rest ≡ slice_range o from (length o) → xs ≡ slice_range rest 0 n → xs ≡ part o from n
cut_part o from n {rest} e f = f ∙ between_from_start rest n ∙ ap (take n) (e ∙ between_to_end o from (length o) (omega arith))

-- ---- cells

-- what stands before the rest stands at the front
pub starts_own : (xs rest : List ℕ) → starts_with xs (xs ++ rest) ≡ true
starts_own [] rest = refl
starts_own (x ∷ xs) rest = true_both (eq-eqb x x refl) (starts_own xs rest)

-- what stands at the front is the front
pub starts_front : (xs zs : List ℕ) → starts_with xs zs ≡ true → xs ++ drop (length xs) zs ≡ zs
starts_front [] zs h = refl
starts_front (x ∷ xs) [] h = let z : ◌≡◌ {A = ℕ} 0 1 = cc in absurd (omega arith)
starts_front (x ∷ xs) (z ∷ zs) h =
    let t = both_true h in
    let e = eqb-true x z t.0 in
    rw (starts_front xs zs t.1, e)

module _ (a : List ℕ) (bytes : IsBytes a) (p : ℕ) (room : p + 4 ≤ length a) where
  -- the four bytes of a cell are those of the number that is read there
  pub cell_part : part a p 4 ≡ cell_bytes (cell_at a p)
  cell_part =
      let size : length (part a p 4) ≡ 4 = part_length a p 4 room in
      ext_get_or 0 (part a p 4) (cell_bytes (cell_at a p)) (size ∙ sym (low_length 4 (cell_at a p)))
      (λ i h. get_or-take 4 (drop p a) i 0 (omega arith) ∙ get_or-drop p a i 0 ∙ sym (low_digits a bytes p 4 i (omega arith)))

  -- the bytes of a number stand there where it is the cell
  pub starts_cell : (v : ℕ) → v < 2 ^ 32 → starts_with (cell_bytes v) (drop p a) ≡ eqb (cell_at a p) v
  starts_cell v h = by_test (eqb (cell_at a p) v) refl
    where
      -- the cell stands at the front of what is left
      front : cell_bytes (cell_at a p) ++ drop 4 (drop p a) ≡ drop p a
      front = rw (← cell_part) (take-append-drop 4 (drop p a))

      by_test : (b : Bool) → eqb (cell_at a p) v ≡ b → starts_with (cell_bytes v) (drop p a) ≡ b
      by_test true e =
          let is : cell_at a p ≡ v = eqb-true (cell_at a p) v e in
          rw (← is, ← front) (starts_own (cell_bytes (cell_at a p)) (drop 4 (drop p a)))
      by_test false e = by_start (starts_with (cell_bytes v) (drop p a)) refl
        where
          by_start : (b : Bool) → starts_with (cell_bytes v) (drop p a) ≡ b → b ≡ false
          by_start false t = refl
          by_start true t =
              let whole : a ≡ take p a ++ (cell_bytes v ++ drop (length (cell_bytes v)) (drop p a)) =
              rw (starts_front (cell_bytes v) (drop p a) t) (sym (take-append-drop p a)) in
              let st : Stands a p (cell_bytes v) =
              record { before = take p a; behind = drop (length (cell_bytes v)) (drop p a); place = length-take-le p a (omega arith); whole = whole } in
              absurd (eqb-false (cell_at a p) v e (low_back 4 v st h))

-- ---- numbers, a cell each

module _ (a numbers : List ℕ) where
  -- what is left after i numbers that are the same decides
  pub record Told (i : ℕ) : Type 0 where
    pub turns : i ≤ length numbers
    pub rest : starts_with (row_bytes_of (drop i numbers)) (drop (4 * i) a) ≡ starts_with (row_bytes_of numbers) a

  -- before the first number
  pub none_told : Told 0
  none_told = record { turns = omega arith; rest = refl }

  -- an answer with fewer cells has not all of them
  pub too_few_cells : length a / 4 < length numbers → None ≡ behind a (Some 0) (row_bytes_of numbers)
  too_few_cells h = sym (differs a 0 (row_bytes_of numbers) (starts_short (row_bytes_of numbers) a (omega (arith, row_bytes_lem numbers))))

  module _ (bytes : IsBytes a) (inside : length numbers ≤ length a / 4) {i : ℕ} (h : i < length numbers) (narrow : get_or numbers i 0 < 2 ^ 32) (s : Told i) where
    -- a number and what is left behind it
    number : starts_with (row_bytes_of (drop i numbers)) (drop (4 * i) a)
        ≡ both (eqb (cell_at a (4 * i)) (get_or numbers i 0)) (starts_with (row_bytes_of (drop (i + 1) numbers)) (drop (4 * (i + 1)) a))
    number =
        let v = get_or numbers i 0 in
        let next : 4 * i + 4 ≡ 4 * (i + 1) = omega arith in
        let first : drop i numbers ≡ v ∷ drop (i + 1) numbers = rw (add-one i) (drop-cons numbers i 0 h) in
        rw first
        (starts_append (cell_bytes v) (row_bytes_of (drop (i + 1) numbers)) (drop (4 * i) a)
        ∙ rw (low_length 4 v, drop-drop 4 (4 * i) a, next, starts_cell a bytes (4 * i) (omega arith) v narrow))

    -- a number that is the cell leaves the rest to decide
    pub one_told : cell_at a (4 * i) ≡ get_or numbers i 0 → Told (i + 1)
    one_told e = record { turns = omega arith; rest = sym (rw (eq-eqb (cell_at a (4 * i)) (get_or numbers i 0) e) at number) ∙ s.rest }

    -- a number that is not decides
    pub one_untold : (cell_at a (4 * i) ≡ get_or numbers i 0 → ⊥) → None ≡ behind a (Some 0) (row_bytes_of numbers)
    one_untold ne =
        sym (differs a 0 (row_bytes_of numbers) (sym s.rest ∙ (number ∙ rw (ne_eqb (cell_at a (4 * i)) (get_or numbers i 0) ne))))

  -- after the last number
  pub all_told : {i : ℕ} → length numbers ≤ i → Told i → Some (4 * length numbers) ≡ behind a (Some 0) (row_bytes_of numbers)
  all_told {i} h s =
      let turns = s.turns in
      let none : drop i numbers ≡ [] = drop_of_length-le numbers h in
      sym (stands a 0 (row_bytes_of numbers) (omega arith) (sym s.rest ∙ rw none) ∙ ap Some (omega (arith, row_bytes_lem numbers)))
