-- Loops over items that stand one behind the other, of any kind: what a turn does to what is left, and what is left at the end.
use Prim.Native.Nat.{ℕ, zero, suc, ◌+◌, ◌-◌, ◌<◌, ◌≤◌}
use mathlib.Core.Path.{◌≡◌, refl, sym, ◌∙◌}
use mathlib.Core.List.{List, [], ◌∷◌, ◌++◌, append_assoc}
use native.Mathlib.Nat.{le_refl, le_trans}
use native.Mathlib.Omega.{arith}
use lib.ListN.{length}
use lib.Seq.{sets, sets-eq}
use Rattle.format.specs.Bytes.{rows_at, end_of, flat, total}
use Rattle.format.specs.Tables.{overwritten}
use Rattle.format.proofs.Stores.{sets_append}

-- ---- what is left after k of n turns

-- with a turn to go, one more than after it
pub one_left : (n k : ℕ) → k < n → n - k ≡ suc (n - (k + 1))
one_left n k h = omega arith

-- once all turns are done nothing is left
pub none_left : (n k : ℕ) → n ≤ k → n - k ≡ 0
none_left n k h = omega arith

-- ---- bytes of rows

-- the bytes of two lists of rows joined are the bytes of the first, then those of the second
pub flat_append : {A : Type 0} (bytes : A → List ℕ) (xs ys : List A) → flat bytes (xs ++ ys) ≡ flat bytes xs ++ flat bytes ys
flat_append bytes [] ys = refl
flat_append bytes (x ∷ xs) ys = rw (flat_append bytes xs ys, append_assoc (bytes x) (flat bytes xs) (flat bytes ys))

-- ---- stores: "what is left, put from here, gives the whole"

-- w bytes are stored, and the rest goes behind them
pub put_more : (t : List ℕ) (at w : ℕ) (part rest : List ℕ) {t' whole : List ℕ} → length part ≡ w → t' ≡ sets t at part
    → sets t at (part ++ rest) ≡ whole → sets t' (at + w) rest ≡ whole
put_more t at w part rest e p h = rw (p, ← e) (sym (sets_append t at part rest) ∙ h)

-- stores from the front leave what stands beyond them
pub sets_front : (t new : List ℕ) {t' : List ℕ} → length new ≤ length t → t' ≡ sets t 0 new → t' ≡ overwritten new t
sets_front t new h p =
    let e : 0 + length new ≡ length new = omega arith in
    p ∙ sets-eq new t 0 (rw e h) ∙ rw e

-- ---- ends and counts

-- items end at or past where they start
pub end_ge : (next : ℕ → ℕ) → ((p : ℕ) → p ≤ next p) → (p n : ℕ) → p ≤ end_of next p n
end_ge next up p zero = le_refl p
end_ge next up p (suc n) = le_trans (up p) (end_ge next up (next p) n)

module _ (next : ℕ → ℕ) (q n k : ℕ) where
  -- with an item to go, what is left ends where the items behind it end
  pub end_turn : k < n → end_of next q (n - k) ≡ end_of next (next q) (n - (k + 1))
  end_turn h = rw (one_left n k h)

  -- with no item to go, the end is the place that was reached
  pub end_done : n ≤ k → end_of next q (n - k) ≡ q
  end_done h = rw (none_left n k h)

  -- with an item to go, what is left ends past it
  pub end_past : ((p : ℕ) → p ≤ next p) → k < n → next q ≤ end_of next q (n - k)
  end_past up h = rw (one_left n k h) (end_ge next up (next q) (n - (k + 1)))

module _ {A : Type 0} (row : ℕ → A) (next : ℕ → ℕ) (count : A → ℕ) (q n k : ℕ) where
  -- the counts of the rows that are left
  pub total_turn : k < n → total count (rows_at row next q (n - k)) ≡ count (row q) + total count (rows_at row next (next q) (n - (k + 1)))
  total_turn h = rw (one_left n k h)
