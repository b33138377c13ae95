-- Bytes stored into a list, one part behind the other; big-endian numbers and their bytes in parts.
use Prim.Native.Nat.{ℕ, zero, suc, ◌+◌, ◌*◌, ◌/◌, ◌%◌, ◌^◌, ◌<◌, ◌≤◌}
use mathlib.Core.Path.{◌≡◌, refl, sym, ap, ap₂, ◌∙◌}
use mathlib.Core.List.{List, [], ◌∷◌, ◌++◌, append_assoc, append-nil}
use native.Mathlib.Nat.{add-zero, add-suc, add_assoc, mul_assoc, pow-suc, pow-succ', div-one, div-div-eq-div-mul, div-add-mod'}
use native.Mathlib.Omega.{arith}
use lib.ListN.{length, get_or, drop, set, length-drop}
use lib.Seq.{sets, take-suc, get_or-drop}
use Rattle.format.specs.Bytes.{IsBytes, be_at, bytes_of, part}
use Rattle.format.proofs.Numbers.{bytes_length}

-- ---- stores into any list

-- two parts stored one behind the other are one store of both
pub sets_append : (l : List ℕ) (i : ℕ) (vs ws : List ℕ) → sets l i (vs ++ ws) ≡ sets (sets l i vs) (i + length vs) ws
sets_append l i [] ws = rw (add-zero i)
sets_append l i (v ∷ vs) ws =
    let e : suc i + length vs ≡ i + suc (length vs) = omega arith in
    sets_append (set l i v) (suc i) vs ws ∙ ap (λ (k : ℕ). sets (sets (set l i v) (suc i) vs) k ws) e

-- a part stored, and another behind it
pub part_then : (l : List ℕ) (at w : ℕ) (part rest : List ℕ) {l' l'' : List ℕ} {at' : ℕ} → length part ≡ w → at' ≡ at + w → l' ≡ sets l at part → l'' ≡ sets l' at' rest
    → l'' ≡ sets l at (part ++ rest)
part_then l at w part rest size place e f = f ∙ rw (e, sets_append l at part rest, size, place)

-- a field stored, and the others of its row behind it
pub field_then : (l : List ℕ) (at w v : ℕ) (rest : List ℕ) {l' l'' : List ℕ} {at' : ℕ} → at' ≡ at + w → l' ≡ sets l at (bytes_of w v) → l'' ≡ sets l' at' rest
    → l'' ≡ sets l at (bytes_of w v ++ rest)
field_then l at w v rest place e f = part_then l at w (bytes_of w v) rest (bytes_length w v) place e f

-- the last field of a row
pub field_last : (l : List ℕ) (at w v : ℕ) {l' : List ℕ} → l' ≡ sets l at (bytes_of w v) → l' ≡ sets l at (bytes_of w v ++ [])
field_last l at w v e = e ∙ rw (append-nil (bytes_of w v))

-- ---- numbers in either byte order

-- a number read byte by byte is the same from the same bytes
pub same_read : (read : List ℕ → ℕ → ℕ → ℕ) (step : ℕ → ℕ → ℕ → ℕ) → ((s : List ℕ) (p : ℕ) → read s p 0 ≡ 0)
    → ((s : List ℕ) (p n : ℕ) → read s p (suc n) ≡ step n (read s p n) (get_or s (p + n) 0))
    → (s t : List ℕ) (p q n : ℕ) → ((k : ℕ) → k < n → get_or s (p + k) 0 ≡ get_or t (q + k) 0) → read s p n ≡ read t q n
same_read read step none more s t p q zero h = none s p ∙ sym (none t q)
same_read read step none more s t p q (suc n) h =
    let rest = same_read read step none more s t p q n (λ k b. h k (omega arith)) in
    more s p n ∙ ap₂ (step n) rest (h n (omega arith)) ∙ sym (more t q n)

-- one more byte behind is a factor 256
pub mul_bytes : (x n : ℕ) → x * 256 ^ suc n ≡ x * 256 ^ n * 256
mul_bytes x n = ap (λ (d : ℕ). x * d) (pow-suc 256 n) ∙ sym (mul_assoc x (256 ^ n) 256)

-- a shift by one byte and by n is one by the next number of bytes
pub div_bytes : (v n : ℕ) → v / 256 / 256 ^ n ≡ v / 256 ^ suc n
div_bytes v n = div-div-eq-div-mul v 256 (256 ^ n) ∙ ap (λ (d : ℕ). v / d) (sym (pow-succ' 256 n))

-- ---- big-endian numbers

-- the same bytes are the same number
pub be_same : (s t : List ℕ) (p q n : ℕ) → ((k : ℕ) → k < n → get_or s (p + k) 0 ≡ get_or t (q + k) 0) → be_at s p n ≡ be_at t q n
unfolding be_at
be_same s t p q n h = same_read be_at (λ n high byte. high * 256 + byte) (λ s p. refl) (λ s p n. refl) s t p q n h

-- a number of n bytes, each below 256, is below 256 ^ n
pub be_below : (s : List ℕ) → ((i : ℕ) → get_or s i 0 < 256) → (p n : ℕ) → be_at s p n < 256 ^ n
unfolding be_at
be_below s h p zero = omega arith
be_below s h p (suc n) = rw pow-suc (omega (arith, be_below s h p n, h (p + n)))

-- the bytes of a number that was read are those that were read
pub number_part : (f : List ℕ) → IsBytes f → (p n : ℕ) → p + n ≤ length f → bytes_of n (be_at f p n) ≡ part f p n
unfolding be_at bytes_of
number_part f bytes p zero h = refl
number_part f bytes p (suc n) h =
    let b = get_or f (p + n) 0 in
    let small = bytes (p + n) in
    let high : (be_at f p n * 256 + b) / 256 ≡ be_at f p n = omega arith in
    let low : (be_at f p n * 256 + b) % 256 ≡ b = omega arith in
    let last : get_or (drop p f) n 0 ≡ b = get_or-drop p f n 0 in
    rw (high, low, number_part f bytes p n (omega arith), take-suc (drop p f) n 0 (omega (arith, length-drop p f)), last)

-- a number of m + n bytes is that of the first m above that of the last n
pub be_parts : (s : List ℕ) (p m n : ℕ) → be_at s p (m + n) ≡ be_at s p m * 256 ^ n + be_at s (p + m) n
unfolding be_at
be_parts s p m zero = rw (add-zero m) (omega arith)
be_parts s p m (suc n) =
    let place : p + (m + n) ≡ p + m + n = sym (add_assoc p m n) in
    rw (add-suc m n, be_parts s p m n, place, mul_bytes (be_at s p m) n) (omega arith)

-- ---- the bytes of a number

-- m + n bytes are the m above the last n, and these
pub bytes_parts : (m n v : ℕ) → bytes_of (m + n) v ≡ bytes_of m (v / 256 ^ n) ++ bytes_of n v
unfolding bytes_of
bytes_parts m zero v = rw (add-zero m, div-one v) (sym (append-nil (bytes_of m v)))
bytes_parts m (suc n) v =
    rw (add-suc m n, bytes_parts m n (v / 256), div_bytes v n) (append_assoc (bytes_of m (v / 256 ^ suc n)) (bytes_of n (v / 256)) (v % 256 ∷ []))

-- what stands above the n bytes does not show in them
bytes_above : (n a v : ℕ) → bytes_of n (a * 256 ^ n + v) ≡ bytes_of n v
unfolding bytes_of
bytes_above zero a v = refl
bytes_above (suc n) a v =
    let high : (a * 256 ^ n * 256 + v) / 256 ≡ a * 256 ^ n + v / 256 = omega arith in
    let low : (a * 256 ^ n * 256 + v) % 256 ≡ v % 256 = omega arith in
    rw (mul_bytes a n, high, low, bytes_above n a (v / 256))

-- so the n bytes are those of what they can hold
pub bytes_low : (n v : ℕ) → bytes_of n (v % 256 ^ n) ≡ bytes_of n v
bytes_low n v = sym (bytes_above n (v / 256 ^ n) (v % 256 ^ n)) ∙ ap (bytes_of n) (div-add-mod' v (256 ^ n))
