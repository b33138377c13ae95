-- Parts of a file: what stands in fields, or in rows of fields one behind the other, is stored as the very bytes that were read.
use Prim.Native.Nat.{ℕ, zero, suc, ◌+◌, ◌-◌, ◌≤◌}
use mathlib.Core.Path.{◌≡◌, refl, sym, ap₂, ◌∙◌}
use mathlib.Core.List.{List, [], ◌∷◌, ◌++◌}
use native.Mathlib.Nat.{le_trans}
use native.Mathlib.Omega.{arith}
use lib.ListN.{length}
use Rattle.format.specs.Bytes.{IsBytes, field_bytes, fields_at, width_of, gather, end_of, part}
use Rattle.format.proofs.Loops.{end_ge}
use Rattle.format.proofs.Lists.{part_two}
use Rattle.format.proofs.Stores.{number_part}

-- the parts from p to q and from q to e are the one from p to e
part_upto : (f : List ℕ) {p q e : ℕ} → p ≤ q → q ≤ e → part f p (q - p) ++ part f q (e - q) ≡ part f p (e - p)
part_upto f {p} {q} {e} h k =
    let here : p + (q - p) ≡ q = omega arith in
    let all : q - p + (e - q) ≡ e - p = omega arith in
    sym (rw (here, all) at (part_two f p (q - p) (e - q)))

-- ---- fields

module _ (f : List ℕ) (bytes : IsBytes f) where
  -- fields one behind the other
  pub fields_part : (ws : List ℕ) (p : ℕ) → p + width_of ws ≤ length f → field_bytes ws (fields_at f p ws) ≡ part f p (width_of ws)
  fields_part [] p h = refl
  fields_part (w ∷ ws) p h =
      ap₂ (λ (x y : List ℕ). x ++ y) (number_part f bytes p w (omega arith)) (fields_part ws (p + w) (omega arith)) ∙ sym (part_two f p w (width_of ws))

-- ---- items one behind the other

-- where the bytes of each item are those up to the next, the bytes of all are those up to their end
pub items_part : (f : List ℕ) (item : ℕ → List ℕ) (next : ℕ → ℕ) → ((q : ℕ) → q ≤ next q)
    → ((q : ℕ) → next q ≤ length f → item q ≡ part f q (next q - q))
    → (p n : ℕ) → end_of next p n ≤ length f → gather item next p n ≡ part f p (end_of next p n - p)
items_part f item next up is p zero h =
    let none : p - p ≡ 0 = omega arith in
    rw none
items_part f item next up is p (suc n) h =
    let later = end_ge next up (next p) n in
    ap₂ (λ (x y : List ℕ). x ++ y) (is p (le_trans later h)) (items_part f item next up is (next p) n h) ∙ part_upto f (up p) later
