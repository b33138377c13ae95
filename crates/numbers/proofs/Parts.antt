-- A part of some bytes copied byte by byte.
use Prim.Native.Nat.{ℕ, suc, ◌+◌, ◌-◌, ◌<◌, ◌≤◌}
use mathlib.Core.Path.{◌≡◌, refl, ◌∙◌}
use mathlib.Core.List.{List}
use native.Mathlib.Omega.{arith}
use lib.ListN.{length, get_or, set, length-set}
use lib.Seq.{sets}
use Rattle.format.specs.Bytes.{part}
use Rattle.format.proofs.Lists.{part_first}
use Rattle.format.proofs.Loops.{one_left, none_left}

-- what is left of the part, put from here, gives the whole
pub record Copying (f : List ℕ) (from n : ℕ) (o₀ : List ℕ) (at : ℕ) (o : List ℕ) (k : ℕ) : Type 0 where
  pub turns : k ≤ n
  pub long : length o ≡ length o₀
  pub rest : sets o (at + k) (part f (from + k) (n - k)) ≡ sets o₀ at (part f from n)

module _ (f : List ℕ) (from n : ℕ) (o₀ : List ℕ) (at : ℕ) where
  -- before the first byte
  pub copying_first : Copying f from n o₀ at o₀ 0
  copying_first =
      let a : at + 0 ≡ at = omega arith in
      let b : from + 0 ≡ from = omega arith in
      let d : n - 0 ≡ n = omega arith in
      record { turns = omega arith; long = refl; rest = rw (a, b, d) }

  module _ {o : List ℕ} {k : ℕ} (s : Copying f from n o₀ at o k) where
    -- one byte more
    pub copying_turn : k < n → from + n ≤ length f → Copying f from n o₀ at (set o (at + k) (get_or f (from + k) 0)) (k + 1)
    copying_turn h i =
        let a : at + (k + 1) ≡ suc (at + k) = omega arith in
        let b : from + (k + 1) ≡ from + k + 1 = omega arith in
        record {
          turns = omega arith;
          long = length-set o (at + k) (get_or f (from + k) 0) ∙ s.long;
          rest = rw (a, b) (rw (one_left n k h, part_first f (from + k) (n - (k + 1)) (omega arith)) at s.rest);
        }

    -- none is left
    pub copying_done : n ≤ k → o ≡ sets o₀ at (part f from n)
    copying_done h = rw (none_left n k h) at s.rest
