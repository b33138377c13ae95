-- What a section begins with.
use Prim.Native.Nat.{ℕ}
use mathlib.Core.Path.{◌≡◌}
use mathlib.Core.List.{List, [], ◌∷◌}
use lib.ListN.{length, length-append}
use Rattle.format.specs.Bytes.{field_bytes}
use Rattle.format.proofs.Numbers.{bytes_length}

-- a section's length, a spare byte, its count
abbrev pub section_head : (size n : ℕ) → List ℕ
section_head size n = field_bytes (4 ∷ 1 ∷ 1 ∷ []) (size ∷ 0 ∷ n ∷ [])

-- its six bytes
pub section_head_lem : (size n : ℕ) → length (section_head size n) ≡ 6
section_head_lem size n = simp (length-append, bytes_length)
