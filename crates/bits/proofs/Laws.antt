-- Words read and written by shift and mask, at every place and every width.
use Prim.Native.Nat.{ℕ, ◌+◌, ◌*◌, ◌-◌, ◌/◌, ◌%◌, ◌^◌, ◌<◌, ◌≤◌}
use mathlib.Core.Path.{◌≡◌, refl, subst, ◌∙◌}
use mathlib.Core.List.{List}
use native.Mathlib.Nat.{one-mul, add-zero, mod-lt, mod-eq_of_lt, lt_of_lt_of_le}
use native.Mathlib.Omega.{arith}
use lib.Bits.{bit_and, bit_or, and_mask}
use lib.Dec.{lit<}
use lib.Pow.{pow_pos, pow_mono, shl_exact, shl-shr, low, mod-pow-add}
use Rattle.format.proofs.Fields.{Fit, none, one, shift_or}
use Rattle.bits.specs.Words.{bits_of, with_bits, low_bits}

-- ---- one field

-- a 1 moved up by n bits of 64
pub one_shifted : (n : ℕ) → n ≤ 32 → 1 * 2 ^ n % 2 ^ 64 ≡ 2 ^ n
one_shifted n h = shl_exact {a = 1} 1 n 64 (lit< tt) (omega arith) ∙ one-mul (2 ^ n)

-- where all 64 bits stand below, no bit is taken, and its number is 0
pub none_taken : (word left n : ℕ) → left ≤ 64 → left - n ≡ 64 → 0 ≡ bits_of word left n
none_taken word left n h e =
    let z : n ≡ 0 = omega arith in
    let m : (x : ℕ) → 0 ≡ x % 2 ^ 0 = λ x. omega arith in
    rw z (m (word / 2 ^ (left - 0)))

-- what is taken fits 32 bits
pub taken_fits : (word left n : ℕ) → n ≤ 32 → bits_of word left n < 2 ^ 32
taken_fits word left n h = lt_of_lt_of_le (mod-lt (word / 2 ^ (left - n)) (pow_pos n)) (pow_mono h)

-- a shift up by k bits of j + k keeps the lowest j bits
moved : (a j k : ℕ) → a * 2 ^ k % 2 ^ (j + k) ≡ a % 2 ^ j * 2 ^ k
moved a j k =
    let z : a * 2 ^ k % 2 ^ k ≡ 0 = rw (add-zero (a * 2 ^ k)) at (low a k (pow_pos k)) in
    mod-pow-add (a * 2 ^ k) j k ∙ rw (shl-shr a k, z) (add-zero (a % 2 ^ j * 2 ^ k))

-- a shift, a mask and an OR put n bits below a word of j + n bits
put_wide : (word value j n : ℕ) → bit_or (word * 2 ^ n % 2 ^ (j + n)) (bit_and value (2 ^ n - 1)) ≡ word * 2 ^ n % 2 ^ (j + n) + value % 2 ^ n
put_wide word value j n = rw (and_mask value n, moved word j n) (shift_or (word % 2 ^ j) n (value % 2 ^ n) (mod-lt value (pow_pos n)))

-- the same below a word of 64 bits
pub put : (word value n : ℕ) → n ≤ 32 → bit_or (word * 2 ^ n % 2 ^ 64) (bit_and value (2 ^ n - 1)) ≡ with_bits word value n
unfolding with_bits
put word value n h =
    let e : 64 - n + n ≡ 64 = omega arith in
    subst (λ (w : ℕ). bit_or (word * 2 ^ n % 2 ^ w) (bit_and value (2 ^ n - 1)) ≡ word * 2 ^ n % 2 ^ w + value % 2 ^ n) e
    (put_wide word value (64 - n) n)

-- ---- any list of fields

-- the low bits of values are the values where those fit their fields
pub low_same : {ws vs : List ℕ} → Fit ws vs → low_bits ws vs ≡ vs
low_same none = refl
low_same (one {v = v} h f) = rw (mod-eq_of_lt h, low_same f)
