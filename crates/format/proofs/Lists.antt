-- Lists all of whose elements have a property, and parts of a list.
use Prim.Native.Nat.{ℕ, zero, suc, ◌+◌, ◌<◌, ◌≤◌}
use mathlib.Core.Path.{◌≡◌, refl, sym, ap, ◌∙◌}
use mathlib.Core.List.{List, [], ◌∷◌, ◌++◌, Memᴰ}
use mathlib.Core.Bool.{Bool, true, false}
use native.Mathlib.Omega.{arith}
use lib.ListN.{length, get_or, take, drop, length-drop}
use lib.Seq.{take-add, drop-cons, drop-drop, length-take-le}
use Rattle.format.specs.Bytes.{part, every}
use Rattle.format.proofs.Tests.{both_true, true_both, right_fails}

-- each element of the list has property P
pub data All {A : Type 0} (P : A → Type 0) : List A → Type 0 where
  none : All P []
  more : {x : A} {xs : List A} → P x → All P xs → All P (x ∷ xs)

-- a test of each element, and the fact of each
pub every_all : {A : Type 0} (test : A → Bool) (xs : List A) → every test xs ≡ true → All (λ x. test x ≡ true) xs
every_all test [] h = none
every_all test (x ∷ xs) h = let b = both_true h in more b.0 (every_all test xs b.1)

-- where each element passes, so does the test of all
pub all_every : {A : Type 0} (test : A → Bool) {xs : List A} → All (λ x. test x ≡ true) xs → every test xs ≡ true
all_every test none = refl
all_every test (more h hs) = true_both h (all_every test hs)

-- one element that fails fails the test of all
pub one_fails : {A : Type 0} (test : A → Bool) {x : A} {xs : List A} → Memᴰ x xs → test x ≡ false → every test xs ≡ false
one_fails test (Memᴰ.head {xs = xs} e) h = rw (sym (ap test e) ∙ h)
one_fails test (Memᴰ.tail {x = y} m) h = right_fails (test y) (one_fails test m h)

-- what all elements have, the first n have
pub all_take : {A : Type 0} {P : A → Type 0} (n : ℕ) {xs : List A} → All P xs → All P (take n xs)
all_take zero h = none
all_take (suc n) none = none
all_take (suc n) (more h hs) = more h (all_take n hs)

-- so have those behind the first n
pub all_drop : {A : Type 0} {P : A → Type 0} (n : ℕ) {xs : List A} → All P xs → All P (drop n xs)
all_drop zero h = h
all_drop (suc n) none = none
all_drop (suc n) (more h hs) = all_drop n hs

-- what all elements of two lists have, all of the two joined have
pub all_append : {A : Type 0} {P : A → Type 0} {xs ys : List A} → All P xs → All P ys → All P (xs ++ ys)
all_append none k = k
all_append (more h hs) k = more h (all_append hs k)

-- where one property follows from another for each element, it follows for all
pub all_map : {A : Type 0} {P Q : A → Type 0} → ((x : A) → P x → Q x) → {xs : List A} → All P xs → All Q xs
all_map g none = none
all_map g (more {x = x} h hs) = more (g x h) (all_map g hs)

-- element k has the property that all have
pub all_at : {A : Type 0} {P : A → Type 0} (other : A) {xs : List A} → All P xs → (k : ℕ) → k < length xs → P (get_or xs k other)
all_at other none k h = absurd (omega arith)
all_at other (more p ps) zero h = p
all_at other (more p ps) (suc k) h = all_at other ps k (omega arith)

-- ---- parts

-- a part is as long as it says, where it ends within the list
pub part_length : (f : List ℕ) (p n : ℕ) → p + n ≤ length f → length (part f p n) ≡ n
part_length f p n h = length-take-le n (drop p f) (omega (arith, length-drop p f))

-- two parts one behind the other are one
pub part_two : (f : List ℕ) (p m n : ℕ) → part f p (m + n) ≡ part f p m ++ part f (p + m) n
part_two f p m n = take-add m n (drop p f) ∙ rw (drop-drop m p f)

-- a part that ends within the list is its first byte and the rest
pub part_first : (f : List ℕ) (p n : ℕ) → p + suc n ≤ length f → part f p (suc n) ≡ get_or f p 0 ∷ part f (p + 1) n
part_first f p n h =
    let next : suc p ≡ p + 1 = omega arith in
    rw (drop-cons f p 0 (omega arith), next)
