-- Bit fields at every place and every width: shift and mask, shift and OR, taking apart and building; the joined time and packet.
use Prim.Native.Nat.{ℕ, suc, ◌+◌, ◌*◌, ◌-◌, ◌/◌, ◌%◌, ◌^◌, ◌<◌, ◌≤◌, max}
use mathlib.Core.Path.{◌≡◌, refl, sym, ap, ap₂, ◌∙◌}
use mathlib.Core.List.{List, [], ◌∷◌}
use mathlib.Core.Bool.{true}
use native.Mathlib.Nat.{add-zero, zero-add, add_assoc, add-mul, suc-mul, zero-mul, mul_assoc, mul-le-mul_right, mod-lt, mod-eq_of_lt}
use native.Mathlib.Numerals.{one-add}
use native.Mathlib.Omega.{arith}
use lib.Bits.{bit_and, bit_or, and_mask, and_high, and_block, or_step, or_zero_r, or_zero_l, or_block, or_shifted}
use lib.Pow.{pow-add, pow_pos, pow_mono, high, low, split, shr_lt, shr-shr, shr_mod, field, mod-mod-pow, mod-pow-add}
use lib.Dec.{lit<}
use borrow.Author.Tests.{ltb-true, lt-ltb}
use Rattle.format.specs.Bytes.{fits, width_of, packed, unpacked}
use Rattle.format.specs.EntryPoints.{join_time, join_packet}
use Rattle.format.proofs.Tests.{both_true, true_both}

-- ---- one field

-- a shift and a mask take out the `width` bits above the `place` lowest: div and mod
pub shift_mask : (x place width : ℕ) → bit_and (x / 2 ^ place) (2 ^ width - 1) ≡ x / 2 ^ place % 2 ^ width
shift_mask x place width = and_mask (x / 2 ^ place) width

-- a shift and an OR put a field above the `place` bits of another: a sum
pub shift_or : (v place x : ℕ) → x < 2 ^ place → bit_or (v * 2 ^ place) x ≡ v * 2 ^ place + x
shift_or v place x h = or_shifted v place x h

-- a mask and an OR replace the low `place` bits of a number of `width + place` bits
pub replace_low : (x width place v : ℕ) → x < 2 ^ (width + place) → v < 2 ^ place
    → bit_or (bit_and x (2 ^ (width + place) - 2 ^ place)) v ≡ x / 2 ^ place * 2 ^ place + v
replace_low x width place v hx hv = rw (and_high x width place, shr_mod width place hx) (or_shifted (x / 2 ^ place) place v hv)

-- a mask clears the k lowest bits of a word of 32 bits
word_masked : (x k : ℕ) → k ≤ 32 → x < 2 ^ 32 → bit_and x (2 ^ 32 - 2 ^ k) ≡ x / 2 ^ k * 2 ^ k
word_masked x k h b =
    let e : 32 - k + k ≡ 32 = omega arith in
    ap (λ (w : ℕ). bit_and x (2 ^ w - 2 ^ k)) (sym e) ∙ and_high x (32 - k) k ∙ ap (λ (v : ℕ). v * 2 ^ k) (shr_mod (32 - k) k (rw e b))

-- of two words of 32 bits side by side, it clears the j lowest bits of the upper and the k lowest of the lower
pub words_masked : (x y j k : ℕ) → j ≤ 32 → k ≤ 32 → x < 2 ^ 32 → y < 2 ^ 32
    → bit_and (x * 2 ^ 32 + y) ((2 ^ 32 - 2 ^ j) * 2 ^ 32 + (2 ^ 32 - 2 ^ k)) ≡ x / 2 ^ j * 2 ^ j * 2 ^ 32 + y / 2 ^ k * 2 ^ k
words_masked x y j k h g b c =
    and_block 32 x (2 ^ 32 - 2 ^ j) y (2 ^ 32 - 2 ^ k) c (omega (arith, pow_pos k))
    ∙ ap₂ (λ (u l : ℕ). u * 2 ^ 32 + l) (word_masked x j h b) (word_masked y k g c)

-- a mask that leaves the bits from place j up and the k lowest clears those between
pub gap_masked : (x width j k : ℕ) → k ≤ j → x < 2 ^ (width + j) → bit_and x ((2 ^ width - 1) * 2 ^ j + (2 ^ k - 1)) ≡ x / 2 ^ j * 2 ^ j + x % 2 ^ k
gap_masked x width j k h b =
    let small : 2 ^ k - 1 < 2 ^ j = omega (arith, pow_mono h, pow_pos k) in
    let e : j - k + k ≡ j = omega arith in
    let lower : x % 2 ^ j % 2 ^ k ≡ x % 2 ^ k = rw e at (mod-mod-pow x (j - k) k) in
    ap (λ (y : ℕ). bit_and y ((2 ^ width - 1) * 2 ^ j + (2 ^ k - 1))) (sym (split x j))
    ∙ and_block j (x / 2 ^ j) (2 ^ width - 1) (x % 2 ^ j) (2 ^ k - 1) (mod-lt x (pow_pos j)) small
    ∙ ap₂ (λ (u l : ℕ). u * 2 ^ j + l) (and_mask (x / 2 ^ j) width ∙ shr_mod width j b) (and_mask (x % 2 ^ j) k ∙ lower)

-- ---- any list of fields

-- each value fits its field of so many bits
pub data Fit : List ℕ → List ℕ → Type 0 where
  none : Fit [] []
  one : {w v : ℕ} {ws vs : List ℕ} → v < 2 ^ w → Fit ws vs → Fit (w ∷ ws) (v ∷ vs)

-- one more field in front, its width and value told
pub fit : (w v : ℕ) {ws vs : List ℕ} → v < 2 ^ w → Fit ws vs → Fit (w ∷ ws) (v ∷ vs)
fit w v h f = one h f

-- the test and the fact
pub fits_fit : (ws vs : List ℕ) → fits ws vs ≡ true → Fit ws vs
fits_fit [] [] h = none
fits_fit [] (v ∷ vs) h = let z : ◌≡◌ {A = ℕ} 0 1 = cc in absurd (omega arith)
fits_fit (w ∷ ws) [] h = let z : ◌≡◌ {A = ℕ} 0 1 = cc in absurd (omega arith)
fits_fit (w ∷ ws) (v ∷ vs) h =
    let b = both_true h in
    one (ltb-true v (2 ^ w) b.0) (fits_fit ws vs b.1)

-- and the other way: values that fit pass the test
pub fit_fits : {ws vs : List ℕ} → Fit ws vs → fits ws vs ≡ true
fit_fits none = refl
fit_fits (one {w = w} {v = v} h f) = true_both (lt-ltb v (2 ^ w) h) (fit_fits f)

-- what is built is as wide as its fields
pub packed_below : {ws vs : List ℕ} → Fit ws vs → packed ws vs < 2 ^ width_of ws
packed_below none = lit< tt
packed_below (one {w = w} {v = v} {ws = ws} {vs = vs} h f) =
    let r = packed_below f in
    let m : suc v * 2 ^ width_of ws ≤ 2 ^ w * 2 ^ width_of ws = mul-le-mul_right (2 ^ width_of ws) h in
    let e = suc-mul v (2 ^ width_of ws) in
    rw (pow-add 2 w (width_of ws)) (omega arith)

-- taking apart what was built gives the fields, whatever stands above them
unpack_under : (a : ℕ) {ws vs : List ℕ} → Fit ws vs → unpacked ws (a * 2 ^ width_of ws + packed ws vs) ≡ vs
unpack_under a none = refl
unpack_under a (one {w = w} {v = v} {ws = ws} {vs = vs} h f) =
    let big = 2 ^ width_of ws in
    let r = packed ws vs in
    let e : a * 2 ^ (w + width_of ws) + (v * big + r) ≡ (a * 2 ^ w + v) * big + r =
    rw (pow-add 2 w (width_of ws), add-mul (a * 2 ^ w) v big, mul_assoc a (2 ^ w) big) (sym (add_assoc (a * (2 ^ w * big)) (v * big) r)) in
    rw (e, high (a * 2 ^ w + v) (width_of ws) (packed_below f), low a w h)
    (ap (λ (l : List ℕ). v ∷ l) (unpack_under (a * 2 ^ w + v) f))

-- so where nothing stands above them
pub unpack : {ws vs : List ℕ} → Fit ws vs → unpacked ws (packed ws vs) ≡ vs
unpack {ws} {vs} f = rw (zero-mul (2 ^ width_of ws), zero-add (packed ws vs)) at (unpack_under 0 f)

-- building what was taken apart gives the number back, as far as the fields reach
pub pack : (ws : List ℕ) (x : ℕ) → packed ws (unpacked ws x) ≡ x % 2 ^ width_of ws
pack [] x = sym (mod_one_zero x)
  where
    mod_one_zero : (x : ℕ) → x % 1 ≡ 0
    mod_one_zero x = omega arith
pack (w ∷ ws) x = rw (pack ws x) (sym (mod-pow-add x w (width_of ws)))

-- what is taken apart fits its fields
pub unpacked_fit : (ws : List ℕ) (x : ℕ) → Fit ws (unpacked ws x)
unpacked_fit [] x = none
unpacked_fit (w ∷ ws) x = one (mod-lt (x / 2 ^ width_of ws) (pow_pos w)) (unpacked_fit ws x)

-- ---- the joined time and packet: bit 19 is shared, so the time is no instance of the laws above

-- OR with a single bit touches the lowest bit alone, and leaves it 1 where either was
or_bit : (a b : ℕ) → b < 2 → bit_or a b ≡ a / 2 * 2 + max (a % 2) b
or_bit a b h =
    let z : b / 2 ≡ 0 = omega arith in
    let m : b % 2 ≡ b = omega arith in
    or_step a b ∙ rw (z, m, or_zero_r)

-- OR of a number above bit k with one that reaches bit k and no further
pub or_one_shared : (k a b : ℕ) → b < 2 ^ suc k
    → bit_or (a * 2 ^ k) b ≡ (a / 2 * 2 + max (a % 2) (b / 2 ^ k)) * 2 ^ k + b % 2 ^ k
or_one_shared k a b h =
    let block = or_block k a (b / 2 ^ k) 0 (b % 2 ^ k) (pow_pos k) (mod-lt b (pow_pos k)) in
    ap₂ bit_or (sym (add-zero (a * 2 ^ k))) (sym (split b k))
    ∙ block
    ∙ ap₂ (λ (x y : ℕ). x * 2 ^ k + y) (or_bit a (b / 2 ^ k) (shr_lt 1 k (rw (one-add k) h))) (or_zero_l (b % 2 ^ k))

-- the joined time in sums
pub time_is : (c t : ℕ) → t < 2048
    → join_time c t ≡ (c % 8192 / 2 * 2 + max (c % 2) (t / 1024)) * 524288 + t % 1024 * 512
unfolding join_time
time_is c t h =
    let b : t * 512 < 2 ^ suc 19 = omega arith in
    let parts : c * 2 ^ 19 ≡ c / 8192 * 2 ^ 32 + c % 8192 * 2 ^ 19 = omega arith in
    let e : c * 2 ^ 19 % 2 ^ 32 ≡ c % 8192 * 2 ^ 19 = rw parts (low (c / 8192) 32 (omega arith)) in
    let o = or_one_shared 19 (c % 8192) (t * 512) b in
    let x : c % 8192 % 2 ≡ c % 2 = mod-mod-pow c 12 1 in
    let y : t * 512 / 2 ^ 19 ≡ t / 1024 = omega arith in
    let z : t * 512 % 2 ^ 19 ≡ t % 1024 * 512 = omega arith in
    rw e (o ∙ rw (x, y, z))

-- where both parts have the same shared bit, the joined time is 512 times the coarse time with the ten low fine bits below it
halves : (x r : ℕ) → (x / 2 * 2 + max (x % 2) (x % 2)) * 524288 + r * 512 ≡ (x * 1024 + r) * 512
halves x r = omega arith

-- a time that is a multiple of 512, taken apart by the writer and joined by the reader
pub time_back : (t : ℕ) → t < 2 ^ 32 → t % 512 ≡ 0 → join_time (t / 524288) (t / 512 % 2048) ≡ t
time_back t h m =
    let c : t / 524288 ≡ t / 512 / 1024 = sym (shr-shr t 9 10) in
    let a : t / 512 % 2048 / 1024 ≡ t / 512 / 1024 % 2 = field (t / 512) 1 10 in
    let b : t / 512 % 2048 % 1024 ≡ t / 512 % 1024 = mod-mod-pow (t / 512) 1 10 in
    let d : t / 512 / 1024 % 8192 ≡ t / 512 / 1024 = mod-eq_of_lt (omega arith) in
    time_is (t / 524288) (t / 512 % 2048) (omega arith)
    ∙ rw (c, a, b, d) (halves (t / 512 / 1024) (t / 512 % 1024) ∙ omega arith)

-- a time is its two cells
pub time_cells : (t : ℕ) → t % 2 ^ 32 + t / 2 ^ 32 * 2 ^ 32 ≡ t
time_cells t = omega arith

-- a time of 32 bits is its lower cell, and its upper cell is 0
pub narrow_cells : (t : ℕ) → t < 2 ^ 32 → (t % 2 ^ 32 ≡ t) × (t / 2 ^ 32 ≡ 0)
narrow_cells t h = (omega arith, omega arith)

-- a packet's low bits under any packet with the same high bits
pub packet_back : (c p : ℕ) → c / 131072 ≡ p / 131072 → join_packet c (p % 131072) ≡ p
unfolding join_packet
packet_back c p e = omega arith
