-- Laws of tests and of chains of refusals.
use Prim.Native.Nat.{ℕ, zero, suc}
use mathlib.Core.Path.{◌≡◌, refl}
use mathlib.Core.Bool.{Bool, true, false}
use native.Mathlib.Omega.{arith}
use Rattle.format.specs.Bytes.{both, pick, unless, or_later}

-- both tests pass where their conjunction does
pub both_true : {a b : Bool} → both a b ≡ true → (a ≡ true) × (b ≡ true)
both_true {a = true} h = (refl, h)
both_true {a = false} h = let z : ◌≡◌ {A = ℕ} 0 1 = cc in absurd (omega arith)

-- and both pass where each does
pub true_both : {a b : Bool} → a ≡ true → b ≡ true → both a b ≡ true
true_both h g = rw h g

-- three tests, grouped either way
pub both_assoc : (a b c : Bool) → both (both a b) c ≡ both a (both b c)
both_assoc true b c = refl
both_assoc false b c = refl

-- a choice that is not its second value passed its test
pub picked : {A : Type 0} {x y z : A} (b : Bool) → (y ≡ z → ⊥) → pick b x y ≡ z → (b ≡ true) × (x ≡ z)
picked true other h = (refl, h)
picked false other h = absurd (other h)

-- one that is not its first value failed it
pub not_picked : {A : Type 0} {x y z : A} (b : Bool) → (x ≡ z → ⊥) → pick b x y ≡ z → (b ≡ false) × (y ≡ z)
not_picked true other h = absurd (other h)
not_picked false other h = (refl, h)

-- a refusal that is not given was tested, and so were the later ones
pub passed : (b : Bool) (k later : ℕ) → unless b (suc k) later ≡ 0 → (b ≡ true) × (later ≡ 0)
passed true k later h = (refl, h)
passed false k later h = absurd (omega arith)

-- so where refusals are handed on
pub later_passed : (refusal later : ℕ) → or_later refusal later ≡ 0 → (refusal ≡ 0) × (later ≡ 0)
later_passed zero later h = (refl, h)
later_passed (suc n) later h = absurd (omega arith)

-- a refusal that was met is the answer, whatever the later tests say
pub later_met : (refusal later : ℕ) → (refusal ≡ 0 → ⊥) → or_later refusal later ≡ refusal
later_met zero later h = absurd (h refl)
later_met (suc n) later h = refl

-- two tests that have one number are one test
pub unless_both : (a b : Bool) (k later : ℕ) → unless a k (unless b k later) ≡ unless (both a b) k later
unless_both true b k later = refl
unless_both false b k later = refl

-- a test before refusals that are handed on is handed on with them
pub unless_later : (b : Bool) (k refusal later : ℕ) → unless b (suc k) (or_later refusal later) ≡ or_later (unless b (suc k) refusal) later
unless_later true k refusal later = refl
unless_later false k refusal later = refl

-- a test that passes leaves the later ones
pub pass : {b : Bool} (k : ℕ) {later : ℕ} → b ≡ true → later ≡ 0 → unless b k later ≡ 0
pass k h e = rw h e

-- so does a refusal that was not met
pub pass_on : {refusal later : ℕ} → refusal ≡ 0 → later ≡ 0 → or_later refusal later ≡ 0
pass_on h e = rw h e

-- a test that fails fails both, whatever the other says
pub left_fails : {a : Bool} (b : Bool) → a ≡ false → both a b ≡ false
left_fails b h = rw h

-- so does a second test that fails, whatever the first says
pub right_fails : (a : Bool) {b : Bool} → b ≡ false → both a b ≡ false
right_fails true h = h
right_fails false h = refl

-- a function of a choice is the choice of its values
pub ap_pick : {A B : Type 0} (g : A → B) (b : Bool) (x y : A) → g (pick b x y) ≡ pick b (g x) (g y)
ap_pick g true x y = refl
ap_pick g false x y = refl
