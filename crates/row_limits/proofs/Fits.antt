-- Tests one behind the other, cells, and what the masks of an entry leave.
use Prim.Native.Nat.{ℕ, ◌+◌, ◌*◌, ◌/◌, ◌%◌, ◌^◌, ◌<◌}
use mathlib.Core.Path.{◌≡◌, refl}
use mathlib.Core.List.{List}
use mathlib.Core.Bool.{Bool, true, false}
use native.Mathlib.Omega.{arith}
use lib.Bits.{bit_and}
use lib.Dec.{eqb, ltb, lit≤}
use borrow.Author.Tests.{lt-ltb, ltb-true, ltb-false, eqb-true, eqb-false, eq-eqb, ne_eqb}
use Rattle.format.specs.Bytes.{IsBytes, both}
use Rattle.format.specs.ClipRecord.{time}
use Rattle.format.specs.Tables.{cell_at}
use Rattle.format.proofs.Cells.{low_below}
use Rattle.format.proofs.Fields.{words_masked, gap_masked}

-- the last test of a row decides
pub last_test : (b : Bool) → b ≡ both b true
last_test true = refl
last_test false = refl

-- so does a last test that fails
pub last_fails : (b : Bool) → false ≡ both b false
last_fails true = refl
last_fails false = refl

-- a field of 32 bits holds any cell
pub any_cell : (t : List ℕ) → IsBytes t → (p : ℕ) → ltb (cell_at t p) (2 ^ 32) ≡ true
any_cell t bytes p = lt-ltb (cell_at t p) (2 ^ 32) (low_below t bytes p 4)

-- ---- an entry

-- angle and I-end side by side, with the bits of their fields cleared, are 0 where both fit
pub angle_masked : (angle end : ℕ) → angle < 2 ^ 32 → end < 2 ^ 32 → eqb (bit_and (end * 4294967296 + angle) 0xfffffff8fffffffe) 0 ≡ both (ltb angle 2) (ltb end 8)
angle_masked angle end h g = rw (words_masked end angle 3 1 (omega arith) (omega arith) g h) (go (ltb angle 2) refl (ltb end 8) refl)
  where
    go : (b : Bool) → ltb angle 2 ≡ b → (c : Bool) → ltb end 8 ≡ c → eqb (end / 8 * 8 * 4294967296 + angle / 2 * 2) 0 ≡ both b c
    go true a true e =
        let x = ltb-true angle 2 a in
        let y = ltb-true end 8 e in
        eq-eqb (end / 8 * 8 * 4294967296 + angle / 2 * 2) 0 (omega arith)
    go true a false e = let y = ltb-false end 8 e in ne_eqb (end / 8 * 8 * 4294967296 + angle / 2 * 2) 0 (λ z. omega arith)
    go false a c e = let x = ltb-false angle 2 a in ne_eqb (end / 8 * 8 * 4294967296 + angle / 2 * 2) 0 (λ z. omega arith)

-- a time, with 23 bits of its lower word cleared, is 0 where it fits
pub time_masked : (time : ℕ) → time < 2 ^ 64 → eqb (bit_and time 0xffffffff000001ff) 0 ≡ both (ltb (time / 4294967296) 1) (eqb (time % 512) 0)
time_masked time h = rw (gap_masked time 32 32 9 (lit≤ tt) h) (go (ltb (time / 4294967296) 1) refl (eqb (time % 512) 0) refl)
  where
    go : (b : Bool) → ltb (time / 4294967296) 1 ≡ b → (c : Bool) → eqb (time % 512) 0 ≡ c → eqb (time / 4294967296 * 4294967296 + time % 512) 0 ≡ both b c
    go true a true e =
        let x = ltb-true (time / 4294967296) 1 a in
        let y = eqb-true (time % 512) 0 e in
        eq-eqb (time / 4294967296 * 4294967296 + time % 512) 0 (omega arith)
    go true a false e = ne_eqb (time / 4294967296 * 4294967296 + time % 512) 0 (λ z. eqb-false (time % 512) 0 e (omega arith))
    go false a c e = let x = ltb-false (time / 4294967296) 1 a in ne_eqb (time / 4294967296 * 4294967296 + time % 512) 0 (λ z. omega arith)
