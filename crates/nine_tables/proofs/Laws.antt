-- What the answer for one table says of the answer for all.
use Prim.Native.Nat.{ℕ, ◌/◌}
use mathlib.Core.Path.{◌≡◌, refl}
use mathlib.Core.Bool.{Bool, true, false}
use native.Mathlib.Omega.{arith}
use lib.Dec.{leb}
use Rattle.std.specs.Prelude.{Result, Ok, Err}
use Rattle.format.specs.Bytes.{pick}
use Rattle.nine_tables.specs.Room.{room_in}
use Rattle.nine_tables.specs.declared.TableShort.{TableShort}

-- what is told of a table by its test, if the later ones say `later`
abbrev told : (k rows : ℕ) → Result (Unit {0}) TableShort → Bool → Result (Unit {0}) TableShort
told k rows later t = pick t later (Err (record { table = k; rows = rows }))

-- a table with room passed its test
pub enough : (k size rows bytes : ℕ) {u : Unit {0}} → Ok u ≡ room_in k size rows bytes → leb rows (bytes / size) ≡ true
unfolding room_in
enough k size rows bytes {u} h = go (leb rows (bytes / size)) h
  where
    go : (t : Bool) → Ok u ≡ told k rows (Ok tt) t → t ≡ true
    go true h = refl
    go false h = let z : ◌≡◌ {A = ℕ} 0 1 = cc in absurd (omega arith)

-- one that is too short decides, whatever the later ones say
pub short : (k size rows bytes : ℕ) {e : TableShort} (later : Result (Unit {0}) TableShort) → Err e ≡ room_in k size rows bytes
    → Err e ≡ told k rows later (leb rows (bytes / size))
unfolding room_in
short k size rows bytes {e} later h = go (leb rows (bytes / size)) h
  where
    go : (t : Bool) → Err e ≡ told k rows (Ok tt) t → Err e ≡ told k rows later t
    go true h = let z : ◌≡◌ {A = ℕ} 0 1 = cc in absurd (omega arith)
    go false h = h

-- the last one decides
pub last : (k size rows bytes : ℕ) {r : Result (Unit {0}) TableShort} → r ≡ room_in k size rows bytes → r ≡ told k rows (Ok tt) (leb rows (bytes / size))
unfolding room_in
last k size rows bytes h = h
