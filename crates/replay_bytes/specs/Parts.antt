-- Bytes held against a stored answer: the place behind them, if they stand there.
use Rattle.std.specs.Prelude.{ℕ, ◌+◌, List, [], ◌∷◌, Bool, true, false, Option, Some, None, length, drop, leb, eqb}
use Rattle.format.specs.Bytes.{part, both, pick}

-- ---- tests of lists

-- the bytes begin with these
abbrev pub starts_with : List ℕ → List ℕ → Bool
starts_with [] bytes = true
starts_with (x ∷ front) [] = false
starts_with (x ∷ front) (y ∷ bytes) = both (eqb x y) (starts_with front bytes)

-- the two are the same, byte for byte and in length
abbrev pub same_bytes : List ℕ → List ℕ → Bool
same_bytes [] [] = true
same_bytes [] (y ∷ ys) = false
same_bytes (x ∷ xs) [] = false
same_bytes (x ∷ xs) (y ∷ ys) = both (eqb x y) (same_bytes xs ys)

-- ---- places

-- these bytes stand in the answer from place `at`, which is in it or at its end
abbrev pub stands_at : List ℕ → ℕ → List ℕ → Bool
stands_at answer at bytes = both (leb at (length answer)) (starts_with bytes (drop at answer))

-- the place behind these bytes, where they stand in the answer from a place
unfoldable pub behind : List ℕ → Option ℕ → List ℕ → Option ℕ
behind answer None bytes = None
behind answer (Some at) bytes = pick (stands_at answer at bytes) (Some (at + length bytes)) None

-- the place behind the n bytes of the other list from `from`, where it has so many and they stand in the answer from a place
unfoldable pub behind_part : List ℕ → Option ℕ → List ℕ → ℕ → ℕ → Option ℕ
behind_part answer place other from n = pick (leb (from + n) (length other)) (behind answer place (part other from n)) None
