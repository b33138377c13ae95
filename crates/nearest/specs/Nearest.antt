-- The nearest of some times, before a time or after it.
use Rattle.std.specs.Prelude.{ℕ, ◌+◌, ◌-◌, ◌%◌, ◌^◌, ◌<◌, ◌≡◌, List, Bool, map, length, get_or, leb, ltb, eqb}
use Rattle.format.specs.Bytes.{pick}
use Rattle.format.specs.ClipRecord.{Row, time, packet}
use Rattle.format.specs.Questions.{Answer, none, number, of_row, at_or_before, after}
use Rattle.nearest.specs.declared.Nearest.{Nearest}
use Rattle.nearest.specs.declared.Side.{Side}

-- ---- by the definitions

-- the row of the time after the one asked for, or of the one at or before it
abbrev pub row_in : Side → List ℕ → ℕ → Answer
row_in Side.After times at = after times at
row_in Side.AtOrBefore times at = at_or_before times at

-- of some entries the one after a time, or at or before it: its row
abbrev pub find_in : Side → List Row → ℕ → Answer
find_in side es at = row_in side (map time es) at

-- its packet
abbrev pub seek_in : Side → List Row → ℕ → Answer
seek_in side es at = of_row packet es (find_in side es at)

-- ---- row by row

-- the times that are asked for
abbrev pub on_side : Side → ℕ → ℕ → Bool
on_side Side.After t x = ltb t x
on_side Side.AtOrBefore t x = leb x t

-- how far a time x is from t, counted round 2^64: from t back to x, or from the one right after t on to x
abbrev pub distance_to : Side → ℕ → ℕ → ℕ
distance_to Side.AtOrBefore t x = (t + (2 ^ 64 - x)) % 2 ^ 64
distance_to Side.After t x = ((x + (2 ^ 64 - t)) % 2 ^ 64 + (2 ^ 64 - 1)) % 2 ^ 64

-- what a closure answers of the number of a row is its time, of so many rows
abbrev pub Tells : (ℕ → ℕ → Type 0) → ℕ → List ℕ → Type 0
Tells post rows times = (length times ≡ rows) × ((k x : ℕ) → k < rows → post k x → x ≡ get_or times k 0)

-- ---- by steps

-- farther than any time of 64 bits is from one that is asked for and is below this number
abbrev pub far : ℕ
far = 18446744073709551615

-- how far a time x is from t, on the side that is asked for; the one right after t is at 0, so that none is far
abbrev pub distance_on : Side → ℕ → ℕ → ℕ
distance_on Side.After t x = pick (ltb t x) (x - (t + 1)) far
distance_on Side.AtOrBefore t x = pick (leb x t) (t - x) far

-- before any row
abbrev pub none_yet : Nearest
none_yet = record { row = 0; distance = far }

-- row k at distance d takes over only where it is nearer, so among equals the earliest row stays
abbrev pub closer_at : Nearest → ℕ → ℕ → Nearest
closer_at n k d = pick (ltb d n.distance) (record { row = k; distance = d }) n

-- the same of row k with the time x
abbrev pub closer_of : Side → ℕ → Nearest → ℕ → ℕ → Nearest
closer_of side at n k x = closer_at n k (distance_on side at x)

-- what is found of so many rows
abbrev pub row_found : Side → ℕ → Nearest → Answer
row_found Side.After rows n = pick (eqb rows 0) none (pick (eqb n.distance far) none (number n.row))
row_found Side.AtOrBefore rows n = pick (eqb rows 0) none (number n.row)
