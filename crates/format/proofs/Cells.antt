-- Numbers stored lowest byte first, as the cells of a table: their bytes, and that they read back.
use Prim.Native.Nat.{ℕ, zero, suc, ◌+◌, ◌*◌, ◌/◌, ◌%◌, ◌^◌, ◌<◌}
use mathlib.Core.Path.{◌≡◌, refl, ap, ap₂, ◌∙◌}
use mathlib.Core.List.{List, [], ◌∷◌, ◌++◌}
use native.Mathlib.Nat.{add-zero, pow-suc, div-lt_iff_lt-mul}
use native.Mathlib.Omega.{arith}
use lib.ListN.{length, get_or}
use lib.Seq.{get_or_at}
use lib.Dec.{lit<}
use Rattle.format.specs.Tables.{low_at, low_bytes}
use Rattle.format.proofs.Numbers.{Stands, right}
use Rattle.format.proofs.Stores.{same_read, mul_bytes}

-- the n bytes are n
pub low_length : (n v : ℕ) → length (low_bytes n v) ≡ n
unfolding low_bytes
low_length zero v = refl
low_length (suc n) v = ap suc (low_length n (v / 256))

-- the same bytes are the same number
pub low_same : (s t : List ℕ) (p q n : ℕ) → ((k : ℕ) → k < n → get_or s (p + k) 0 ≡ get_or t (q + k) 0) → low_at s p n ≡ low_at t q n
unfolding low_at
low_same s t p q n h = same_read low_at (λ n below byte. below + byte * 256 ^ n) (λ s p. refl) (λ s p n. refl) s t p q n h

-- the first byte is the lowest
pub low_first : (s : List ℕ) (p n : ℕ) → low_at s p (suc n) ≡ low_at s (p + 1) n * 256 + get_or s p 0
unfolding low_at
low_first s p zero = rw (add-zero p) (omega arith)
low_first s p (suc n) =
    let byte = get_or s (p + 1 + n) 0 in
    let place : p + suc n ≡ p + 1 + n = omega arith in
    ap₂ (λ (x y : ℕ). x + y) (low_first s p n) (ap (λ (k : ℕ). get_or s k 0 * 256 ^ suc n) place ∙ mul_bytes byte n) ∙ omega arith

-- a number whose bytes stand at p is read there
pub low_back : {s : List ℕ} {p : ℕ} (n v : ℕ) → Stands s p (low_bytes n v) → v < 256 ^ n → low_at s p n ≡ v
unfolding low_at low_bytes
low_back zero v t h = omega arith
low_back {s = s} {p = p} (suc n) v t h =
    let fits : v / 256 < 256 ^ n = (div-lt_iff_lt-mul (lit< tt)).1 (rw pow-suc at h) in
    let rest = low_back {s = s} {p = p + 1} n (v / 256) (right (v % 256 ∷ []) (low_bytes n (v / 256)) (p + 1) refl t) fits in
    let byte : get_or s p 0 ≡ v % 256 =
    rw t.whole (get_or_at t.before (v % 256) (low_bytes n (v / 256) ++ t.behind) 0 p t.place) in
    low_first s p n ∙ rw (rest, byte) (omega arith)

-- a number of n bytes, each below 256, is below 256 ^ n
pub low_below : (s : List ℕ) → ((i : ℕ) → get_or s i 0 < 256) → (p n : ℕ) → low_at s p n < 256 ^ n
unfolding low_at
low_below s h p zero = omega arith
low_below s h p (suc n) = rw (low_first s p n, pow-suc) (omega (arith, low_below s h (p + 1) n, h p))

-- a byte below the rest is the first of the bytes
pub low_push : (n x b : ℕ) → b < 256 → low_bytes (suc n) (x * 256 + b) ≡ b ∷ low_bytes n x
unfolding low_bytes
low_push n x b h =
    let high : (x * 256 + b) / 256 ≡ x = omega arith in
    let low : (x * 256 + b) % 256 ≡ b = omega arith in
    rw (high, low)

-- the bytes of a number that was read are the bytes that were read
pub low_digits : (s : List ℕ) → ((i : ℕ) → get_or s i 0 < 256) → (p n k : ℕ) → k < n
    → get_or (low_bytes n (low_at s p n)) k 0 ≡ get_or s (p + k) 0
low_digits s h p zero k b = absurd (omega arith)
low_digits s h p (suc n) zero b =
    rw (low_first s p n, low_push n (low_at s (p + 1) n) (get_or s p 0) (h p), add-zero p)
low_digits s h p (suc n) (suc k) b =
    let place : p + 1 + k ≡ p + suc k = omega arith in
    rw (low_first s p n, low_push n (low_at s (p + 1) n) (get_or s p 0) (h p), ← place) (low_digits s h (p + 1) n k (omega arith))
