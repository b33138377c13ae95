-- A quotient's bits from its first 53 digits and the remainder: they are those of the f64 division, rounded to the nearest.
use mathlib.Core.Path.{◌≡◌, refl, sym, ap, ◌∙◌, subst}
use mathlib.Core.Logic.{inl, inr}
use mathlib.Core.Bool.{Bool, true, false, not, true≢false}
use Prim.Native.Nat.{ℕ, suc, ◌+◌, ◌-◌, ◌*◌, ◌/◌, ◌%◌, ◌^◌, ◌≤◌, ◌<◌, zero-le, compare}
use native.Mathlib.Nat.{le_refl, le_trans, le_of_eq, le_antisymm, lt_of_lt_of_le, lt_of_le_of_lt, lt_of_not-le, not-le_of_lt, eq-or-lt_of_le, le-add_right, add-sub_of_le, sub-le, le_of_lt, one-mul, zero-add, suc-add, zero-mul, mul-one, mul_comm, mul_assoc, mul_right_comm, mul-le-mul_right, mul-le-mul_left, mul-lt-mul_of_pos_right, mul-pos, pow-succ', mul-div_cancel, add-mul, suc-mul, div-add-mod', div-le_self, mod-lt, mod-le, div-lt_iff_lt-mul, le-div_iff_mul-le}
use native.Mathlib.Omega.{arith}
use lib.Dec.{T, lit≤, lit<}
use lib.Pow.{pow-add, pow_pos, pow_mono, pow-lt, shl_lt}
use lib.Arith.{digits_div, digits_mod, digits_lt}
use lib.IntN.{pos}
use lib.Ieee.{Float, nan, inf, fin, Format, binary64, prec, low, hid, top, ones, down, size, nearest, round, units, div, of_int, of_bits, to_bits, nan_bits}
use lib.Ieee.Digits.{size-lt, size-le}
use lib.Ieee.Fits.{down_pos, round-fits, round_is, nearest-le}
use lib.Ieee.Bits.{of_bits-to_bits, nan_bits_above}
use lib.Ieee.Exact.{HasValue, units_val}
use lib.Ieee.Nearest.{closest, closest_same, nearest-ge}
use lib.Ieee.Scale.{round_same}
use borrow.Author.Tests.{le-ltb}
use Rattle.format.proofs.Rounding.{quotient_is}

-- ---- the bits of a float, by its size in units of the smallest value
bits_of_value : (f : Format) (x : Float) (g : ℕ) → HasValue x false g (2 ^ low f) → to_bits f x ≡ (size g - prec f) * hid f + g / 2 ^ (size g - prec f)
unfolding to_bits
bits_of_value f nan g h = absurd h
bits_of_value f (inf s) g h = absurd h
bits_of_value f (fin true m e) g h = absurd (true≢false h.0)
bits_of_value f (fin false m e) g h =
    ap (λ (n : ℕ). 0 + (size n - prec f) * hid f + n / 2 ^ (size n - prec f)) (ap (λ (n : ℕ). n / down e) h.1 ∙ mul-div_cancel g (down_pos e))
    ∙ ap (λ (n : ℕ). n + g / 2 ^ (size g - prec f)) (zero-add ((size g - prec f) * hid f))

-- a number from 2 ^ z up to below 2 ^ (z + 1) has z + 1 digits
digits : (n z : ℕ) → 2 ^ z ≤ n → n < 2 ^ suc z → size n ≡ suc z
digits n z lo hi = le_antisymm (size-le n (suc z) hi) (lt_of_not-le (λ (g : size n ≤ z). not-le_of_lt (lt_of_lt_of_le (size-lt n) (pow_mono g)) lo))

-- what the digits behind the first p + 1 are
cut : (p k : ℕ) → suc p + k - suc p ≡ k
cut p k = omega arith

-- w has p + 1 digits and stands k places up, so the number has p + 1 + k digits
digits_up : (p w k : ℕ) → 2 ^ p ≤ w → w < 2 ^ suc p → size (w * 2 ^ k) ≡ suc p + k
digits_up p w k lo hi =
    digits (w * 2 ^ k) (p + k) (le_trans (le_of_eq (pow-add 2 p k)) (mul-le-mul_right (2 ^ k) lo)) (subst (λ (x : ℕ). w * 2 ^ k < 2 ^ x) (suc-add p k) (shl_lt (suc p) k hi)) ∙ sym (suc-add p k)

-- what is written for g units, where the number of its digits is known
written : (p g k : ℕ) → size g ≡ suc p + k → (size g - suc p) * 2 ^ p + g / 2 ^ (size g - suc p) ≡ k * 2 ^ p + g / 2 ^ k
written p g k e = ap (λ (x : ℕ). x * 2 ^ p + g / 2 ^ x) (ap (λ (x : ℕ). x - suc p) e ∙ cut p k)

-- a digit more, all the others 0: the field gains one
carried : (k h w : ℕ) → w ≡ h * 2 → suc k * h + h ≡ k * h + w
carried k h w e = omega (arith, suc-mul k h)

-- for w, which has p + 1 digits or is the next number, k places up: k in the field, and w with its leading digit added
field : (p w k : ℕ) → 2 ^ p ≤ w → w ≤ 2 ^ suc p → (size (w * 2 ^ k) - suc p) * 2 ^ p + w * 2 ^ k / 2 ^ (size (w * 2 ^ k) - suc p) ≡ k * 2 ^ p + w
field p w k lo hi = elim (eq-or-lt_of_le hi) [ inl e ↦ over e | inr l ↦ within l ]
  where
    within : w < 2 ^ suc p → (size (w * 2 ^ k) - suc p) * 2 ^ p + w * 2 ^ k / 2 ^ (size (w * 2 ^ k) - suc p) ≡ k * 2 ^ p + w
    within l = written p (w * 2 ^ k) k (digits_up p w k lo l) ∙ ap (λ (x : ℕ). k * 2 ^ p + x) (mul-div_cancel w (pow_pos k))

    over : w ≡ 2 ^ suc p → (size (w * 2 ^ k) - suc p) * 2 ^ p + w * 2 ^ k / 2 ^ (size (w * 2 ^ k) - suc p) ≡ k * 2 ^ p + w
    over e =
        let twice : 2 ^ suc p ≡ 2 ^ p * 2 = pow-succ' 2 p ∙ mul_comm 2 (2 ^ p) in
        let up : w * 2 ^ k ≡ 2 ^ p * 2 ^ suc k = ap (λ (x : ℕ). x * 2 ^ k) (e ∙ twice) ∙ mul_assoc (2 ^ p) 2 (2 ^ k) ∙ ap (λ (x : ℕ). 2 ^ p * x) (sym (pow-succ' 2 k)) in
        ap (λ (g : ℕ). (size g - suc p) * 2 ^ p + g / 2 ^ (size g - suc p)) up
        ∙ written p (2 ^ p * 2 ^ suc k) (suc k) (digits_up p (2 ^ p) (suc k) (le_refl (2 ^ p)) (pow-lt (le_refl (suc p))))
        ∙ ap (λ (x : ℕ). suc k * 2 ^ p + x) (mul-div_cancel (2 ^ p) (pow_pos (suc k)))
        ∙ carried k (2 ^ p) w (e ∙ twice)

-- ---- a / c rounded, from a * 2 ^ s = q * c + r, where q has p + 1 digits and 2 ^ l units are 1
module _ (p l a c s q r : ℕ) (S : s ≤ l) (e : q * c + r ≡ a * 2 ^ s) (R : r < c) (lo : 2 ^ p ≤ q) (hi : q < 2 ^ suc p) where
  -- what is above a remainder is not 0
  C : 0 < c
  C = lt_of_le_of_lt zero-le R

  -- in units, the digits stand l - s places up
  scaled : a * 2 ^ l ≡ (q * c + r) * 2 ^ (l - s)
  scaled =
      ap (λ (x : ℕ). a * x) (ap (λ (x : ℕ). 2 ^ x) (sym (add-sub_of_le S)) ∙ pow-add 2 s (l - s))
      ∙ sym (mul_assoc a (2 ^ s) (2 ^ (l - s)))
      ∙ ap (λ (x : ℕ). x * 2 ^ (l - s)) (sym e)

  -- so many of them are dropped
  dropped : size (a * 2 ^ l / c) - suc p ≡ l - s
  dropped =
      let k = l - s in
      let n = (q * c + r) * 2 ^ k in
      let above : 2 ^ (p + k) * c ≤ n =
      le_trans (le_of_eq (ap (λ (x : ℕ). x * c) (pow-add 2 p k) ∙ mul_right_comm (2 ^ p) (2 ^ k) c)) (mul-le-mul_right (2 ^ k) (le_trans (mul-le-mul_right c lo) (le-add_right (q * c) r))) in
      let below : n < 2 ^ (suc p + k) * c =
      lt_of_lt_of_le (mul-lt-mul_of_pos_right (digits_lt hi R) (pow_pos k)) (le_of_eq (mul_right_comm (2 ^ suc p) c (2 ^ k) ∙ ap (λ (x : ℕ). x * c) (sym (pow-add 2 (suc p) k)))) in
      ap (λ (x : ℕ). size (x / c) - suc p) scaled
      ∙ ap (λ (x : ℕ). x - suc p)
      (digits (n / c) (p + k) ((le-div_iff_mul-le C).1 above) ((div-lt_iff_lt-mul C).1 (subst (λ (x : ℕ). n < 2 ^ x * c) (suc-add p k) below)) ∙ sym (suc-add p k))
      ∙ cut p k

  -- and what is kept is q, or the next number
  kept_is : closest (a * 2 ^ l) (c * 2 ^ (l - s)) ≡ nearest q (compare (r * 2) c)
  kept_is =
      let k = l - s in
      closest_same (a * 2 ^ l) (c * 2 ^ k) (q * c + r) c (mul-pos C (pow_pos k)) C
      (ap (λ (x : ℕ). x * c) scaled ∙ mul_assoc (q * c + r) (2 ^ k) c ∙ ap (λ (x : ℕ). (q * c + r) * x) (mul_comm (2 ^ k) c))
      ∙ ap (λ (x : ℕ). nearest x (compare ((q * c + r) % c * 2) c)) (digits_div q R)
      ∙ ap (λ (x : ℕ). nearest q (compare (x * 2) c)) (digits_mod q R)

-- the same at binary64, by its bits
round_bits : (a c s q r : ℕ) → s ≤ 1074 → q * c + r ≡ a * 2 ^ s → r < c → 2 ^ 52 ≤ q → q < 2 ^ 53
    → of_bits binary64 ((1074 - s) * 2 ^ 52 + nearest q (compare (r * 2) c)) ≡ round binary64 false a c
round_bits a c s q r S e R lo hi =
    let k = 1074 - s in
    let w = nearest q (compare (r * 2) c) in
    let top : w ≤ 2 ^ 53 = le_trans (nearest-le q (compare (r * 2) c)) hi in
    let under : w * 2 ^ k < 2 ^ (1074 + 1024) = lt_of_le_of_lt (le_trans (mul-le-mul_right (2 ^ k) top) (mul-le-mul_left (2 ^ 53) (pow_mono (sub-le 1074 s)))) (lit< tt) in
    let is : round binary64 false a c ≡ units binary64 false w k =
    round_is binary64 false a c
    ∙ ap (λ (x : ℕ). units binary64 false (closest (a * 2 ^ 1074) (c * 2 ^ x)) x) (dropped 52 1074 a c s q r S e R lo hi)
    ∙ ap (λ (x : ℕ). units binary64 false x k) (kept_is 52 1074 a c s q r S e R lo hi) in
    ap (of_bits binary64) (sym
    (ap (to_bits binary64) is
    ∙ bits_of_value binary64 (units binary64 false w k) (w * 2 ^ k) (units_val binary64 false w k under)
    ∙ field 52 w k (le_trans lo (nearest-ge q (compare (r * 2) c))) top))
    ∙ of_bits-to_bits binary64 (round binary64 false a c) (round-fits binary64 false a c)

-- 0 as a whole number has the bits 0
zero : of_bits binary64 0 ≡ round binary64 false 0 1
unfolding of_bits round
zero = refl

-- and so has 0 / c
round_none : (c : ℕ) → 0 < c → of_bits binary64 0 ≡ round binary64 false 0 c
round_none c C = zero ∙ round_same binary64 false 0 1 0 c (pow_pos 0) C (zero-mul c ∙ sym (zero-mul 1))

-- ---- a / c digit by digit

-- q is a * 2 ^ s / c cut off, with at most 53 digits, and r is the remainder
abbrev pub Digits : ℕ → ℕ → ℕ → ℕ → ℕ → Type 0
Digits a c q r s = (q * c + r ≡ a * 2 ^ s) × (r < c) × (q < 2 ^ 53) × (s ≤ 84)

-- the whole part
pub whole_part : (a c : ℕ) → a < 2 ^ 53 → 0 < c → Digits a c (a / c) (a % c) 0
whole_part a c A C = (div-add-mod' a c ∙ sym (mul-one a), mod-lt a C, lt_of_le_of_lt (div-le_self a c) A, zero-le)

-- the digit that r gives is 0 or 1
digit : (c r : ℕ) → r < c → r * 2 / c < 2
digit c r R = (div-lt_iff_lt-mul (lt_of_le_of_lt zero-le R)).1 (subst (λ (x : ℕ). r * 2 < x) (mul_comm c 2) (mul-lt-mul_of_pos_right R (lit< tt)))

-- a / c is above 2 ^ -32, so that q has 53 digits where s is 84
pub few : (a c q r s : ℕ) → 0 < a → c < 2 ^ 32 → q < 2 ^ 52 → Digits a c q r s → s < 84
few a c q r s A D h (e, R, l, S) =
    lt_of_not-le
    (λ (g : 84 ≤ s).
    not-le_of_lt (lt_of_lt_of_le (digits_lt h R) (le_trans (mul-le-mul_left (2 ^ 52) (le_of_lt D)) (lit≤ tt)))
    (le_trans (pow_mono g) (le_trans (le_of_eq (sym (one-mul (2 ^ s)))) (le_trans (mul-le-mul_right (2 ^ s) A) (le_of_eq (sym e))))))

-- the next digit
pub next_digit : (a c q r s : ℕ) → 0 < a → c < 2 ^ 32 → q < 2 ^ 52 → Digits a c q r s → Digits a c (q * 2 + r * 2 / c) (r * 2 % c) (s + 1)
next_digit a c q r s A D h d =
    let R = d.1 in
    let x : (q * 2 + r * 2 / c) * c ≡ q * c * 2 + r * 2 / c * c = add-mul (q * 2) (r * 2 / c) c ∙ ap (λ (y : ℕ). y + r * 2 / c * c) (mul_right_comm q 2 c) in
    let y : r * 2 / c * c + r * 2 % c ≡ r * 2 = div-add-mod' (r * 2) c in
    let z : a * 2 ^ (s + 1) ≡ a * 2 ^ s * 2 = ap (λ (x : ℕ). a * x) (pow-add 2 s 1) ∙ sym (mul_assoc a (2 ^ s) 2) in
    (omega arith, mod-lt (r * 2) (lt_of_le_of_lt zero-le R), omega (arith, digit c r R), omega (arith, few a c q r s A D h d))

-- ---- what all 53 digits give

-- the quotient's bits are below those of an infinity
pub bits_under : (q r c s w : ℕ) → w ≡ nearest q (compare (r * 2) c) → q < 2 ^ 53 → (1074 - s) * 2 ^ 52 + w ≤ 1076 * 2 ^ 52
bits_under q r c s w e h = omega (arith, nearest-le q (compare (r * 2) c))

-- such a number is no NaN's bits
pub no_nan : (n : ℕ) → n ≤ 1076 * 2 ^ 52 → T (not (nan_bits binary64 n))
no_nan n h = subst (λ (b : Bool). T (not b)) (sym (nan_bits_above binary64 n ∙ le-ltb (ones binary64 * hid binary64) (n % top binary64) (le_trans (mod-le n (top binary64)) (le_trans h (lit≤ tt))))) tt

-- the quotient, by its bits
pub quotient_bits : (a c q r s : ℕ) → a < 2 ^ 53 → c < 2 ^ 32 → 2 ^ 52 ≤ q → Digits a c q r s
    → of_bits binary64 ((1074 - s) * 2 ^ 52 + nearest q (compare (r * 2) c)) ≡ div binary64 (of_int binary64 (pos a)) (of_int binary64 (pos c))
quotient_bits a c q r s A D lo (e, R, hi, S) =
    round_bits a c s q r (le_trans S (lit≤ tt)) e R lo hi
    ∙ sym (quotient_is a c (le_of_lt A) (lt_of_le_of_lt zero-le R) (le_of_lt (lt_of_lt_of_le D (lit≤ tt))))

-- nothing divided is 0, whose bits are 0
pub zero_bits : (a c : ℕ) → a ≡ 0 → 0 < c → c < 2 ^ 32 → of_bits binary64 0 ≡ div binary64 (of_int binary64 (pos a)) (of_int binary64 (pos c))
zero_bits a c z C D =
    subst (λ (x : ℕ). of_bits binary64 0 ≡ div binary64 (of_int binary64 (pos x)) (of_int binary64 (pos c))) (sym z)
    (round_none c C ∙ sym (quotient_is 0 c zero-le C (le_of_lt (lt_of_lt_of_le D (lit≤ tt)))))
