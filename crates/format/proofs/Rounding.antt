-- A fraction a / c, rounded to the nearest float, is off by at most one part in 2 ^ prec: the transfer duration is near.
use mathlib.Core.Path.{◌≡◌, refl, sym, ap, ◌∙◌, subst}
use mathlib.Core.Logic.{◌⊎◌, inl, inr}
use mathlib.Core.Bool.{Bool, true, false, not, cond, true≢false}
use Prim.Native.Nat.{ℕ, zero, suc, ◌+◌, ◌-◌, ◌*◌, ◌/◌, ◌%◌, ◌^◌, ◌≤◌, ◌<◌, compare, Ordering}
use native.Mathlib.Nat.{le_trans, le_of_eq, mul-one, one-mul, zero-mul, suc-mul, mul_comm, mul_assoc, mul_left_comm, mul-le-mul_right, mul-le-mul_left, mul-pos, mul-sub, eq-zero-or-pos, lt_irrefl, lt_of_le_of_lt, le_of_mul-le-mul_left, add-mul, mul-add, div-add-mod', le-div_iff_mul-le, mod-lt}
use native.Mathlib.Omega.{arith}
use native.Mathlib.Numerals.{unary_clauses}
use lib.Dec.{T, is_le, compare_is_eq, eqb, leb→le, nleb→lt, eqb→eq, eqb_refl, ltb→lt, lit≤, lit<}
use lib.Pow.{pow-add, pow_pos}
use lib.Arith.{lt_of_le-ne}
use lib.IntN.{pos}
use lib.Ieee.{Float, nan, inf, fin, Format, binary64, prec, low, up, down, size, nearest, round, div, of_int, of_bits, to_bits}
use lib.Ieee.Digits.{size_reaches}
use lib.Ieee.Fits.{two, two-le_pos, up_pos, down_pos, div-fits}
use lib.Ieee.Bits.{of_bits-to_bits}
use lib.Ieee.Back.{round_whole}
use lib.Ieee.Positive.{positive_of_value}
use lib.Ieee.Exact.{HasValue}
use lib.Ieee.Nearest.{closest}
use lib.Ieee.Order.{drop, kept}
use lib.Ieee.Scale.{grid, round_val, round_same, normal_of_fraction}
use borrow.Author.Tests.{eqb-true, eqb-false}
use Rattle.format.specs.Bytes.{pick}
use Rattle.format.specs.Questions.{seconds, no_rate, apart, Near, IsTransfer, packet_bytes, transfer_secs}

-- ---- what `compare` says
abbrev pub Cmp : Ordering → ℕ → ℕ → Type 0
Cmp Ordering.lt a b = a < b
Cmp Ordering.eq a b = a ≡ b
Cmp Ordering.gt a b = b < a

-- what `compare` answers holds of its two numbers
pub cmp : (a b : ℕ) → Cmp (compare a b) a b
cmp a b = go (compare a b) (leb→le a b) (nleb→lt a b) (eqb→eq a b) (λ (e : a ≡ b). subst (λ (x : ℕ). T (eqb a x)) e (eqb_refl a))
  where
    go : (o : Ordering) → (T (is_le o) → a ≤ b) → (T (not (is_le o)) → b < a) → (T (compare_is_eq o) → a ≡ b) → (a ≡ b → T (compare_is_eq o)) → Cmp o a b
    go Ordering.lt h k e n = lt_of_le-ne (h tt) n
    go Ordering.eq h k e n = e tt
    go Ordering.gt h k e n = k tt

-- ---- the nearest whole number to a / b is at most a half away
-- a remainder by 2 is 0 or 1
bit : (w : ℕ) → (w % 2 ≡ 0) ⊎ (w % 2 ≡ 1)
bit w = elim (eq-zero-or-pos (w % 2)) [ inl e ↦ inl e | inr h ↦ inr (omega arith) ]

-- of w and w + 1, the one that the remainder r picks is, times b, at most half of b away from w * b + r
half : (w r b : ℕ) (o : Ordering) → Cmp o (r * 2) b → r < b → apart (nearest w o * b) (w * b + r) * 2 ≤ b
half w r b Ordering.lt h l = omega arith
half w r b Ordering.eq h l =
    elim (bit w) [
      | inl e ↦ omega (arith, add-mul w (w % 2) b, ap (λ (x : ℕ). x * b) e ∙ zero-mul b)
      | inr e ↦ omega (arith, add-mul w (w % 2) b, ap (λ (x : ℕ). x * b) e ∙ one-mul b)
    ]
half w r b Ordering.gt h l = omega (arith, suc-mul w b)

-- so the multiple of b that is picked for a is at most half of b away from a
closest_half : (a b : ℕ) → 0 < b → apart (closest a b * b) a * 2 ≤ b
closest_half a b B =
    subst (λ (x : ℕ). apart (closest a b * b) x * 2 ≤ b) (div-add-mod' a b)
    (half (a / b) (a % b) b (compare (a % b * 2) b) (cmp (a % b * 2) b) (mod-lt a B))

-- ---- where the whole part has all p digits, a unit of the last kept digit is at most one part in 2 ^ (p - 1)
-- the p - 1 kept digits behind the first and the z - p dropped ones are fewer than all z
last : (p z : ℕ) → 0 < p → p ≤ z → p - 1 + (z - p) < z
last p z P h = omega arith

-- n / c is at least 2 ^ (p - 1) units of its last kept digit
unit_le : (p n c : ℕ) → 0 < p → 0 < c → p ≤ size (n / c) → 2 ^ (p - 1) * (c * 2 ^ drop p n c) ≤ n
unit_le p n c P C N =
    let k = drop p n c in
    le_trans (le_of_eq (simp (mul_assoc, mul_comm, mul_left_comm, pow-add)))
    ((le-div_iff_mul-le C).0 (size_reaches (n / c) (p - 1 + k) (last p (size (n / c)) P N)))

-- a power of 2 is twice the one before it
halved : (p : ℕ) → 0 < p → 2 ^ p ≡ 2 ^ (p - 1) * 2
halved zero P = absurd (omega arith)
halved (suc p) P = simp unary_clauses

-- in the normal range a / c rounded, in units, is off by at most one part in 2 ^ prec
pub grid_near : (f : Format) (a c : ℕ) → 0 < c → prec f ≤ size (a * 2 ^ low f / c)
    → 2 ^ prec f * apart (grid f a c * c) (a * 2 ^ low f) ≤ a * 2 ^ low f
grid_near f a c C N =
    let p = prec f in
    let P : 0 < p = two-le_pos p (two f) in
    let n = a * 2 ^ low f in
    let k = drop p n c in
    let u = c * 2 ^ k in
    let g : grid f a c * c ≡ kept p n c * u = mul_assoc (kept p n c) (2 ^ k) c ∙ ap (λ (x : ℕ). kept p n c * x) (mul_comm (2 ^ k) c) in
    let d = apart (kept p n c * u) n in
    let h : d * 2 ≤ u = closest_half n u (mul-pos C (pow_pos k)) in
    subst (λ (x : ℕ). 2 ^ p * apart x n ≤ n) (sym g)
    (le_trans (le_of_eq (ap (λ (x : ℕ). x * d) (halved p P) ∙ mul_assoc (2 ^ (p - 1)) 2 d ∙ ap (λ (x : ℕ). 2 ^ (p - 1) * x) (mul_comm 2 d)))
    (le_trans (mul-le-mul_left (2 ^ (p - 1)) h) (unit_le p n c P C N)))

-- ---- from units of the smallest value to the value: x / y is g units, where L units are 1
-- two numbers taken k times are k times as far apart
apart_scale : (k x y : ℕ) → apart (k * x) (k * y) ≡ k * apart x y
apart_scale k x y = sym (mul-add k (x - y) (y - x) ∙ ap (λ (z : ℕ). z + k * (y - x)) (mul-sub k x y) ∙ ap (λ (z : ℕ). k * x - k * y + z) (mul-sub k y x))

-- x / y is off from a / c by at most one part in P where the equal fraction g / L is
pub cross : (P x y g L a c : ℕ) → 0 < L → x * L ≡ g * y → P * apart (g * c) (a * L) ≤ a * L → P * apart (x * c) (a * y) ≤ a * y
cross P x y g L a c l e h =
    le_of_mul-le-mul_left
    (le_trans
    (le_of_eq
    (mul_left_comm L P (apart (x * c) (a * y))
    ∙ ap (λ (z : ℕ). P * z)
    (sym (apart_scale L (x * c) (a * y))
    ∙ ap (λ (z : ℕ). apart z (L * (a * y))) left
    ∙ ap (λ (z : ℕ). apart (y * (g * c)) z) right
    ∙ apart_scale y (g * c) (a * L))
    ∙ mul_left_comm P y (apart (g * c) (a * L))))
    (le_trans (mul-le-mul_left y h) (le_of_eq (sym right))))
    l
  where
    left : L * (x * c) ≡ y * (g * c)
    left = sym (mul_assoc L x c) ∙ ap (λ (z : ℕ). z * c) (mul_comm L x ∙ e ∙ mul_comm g y) ∙ mul_assoc y g c

    right : L * (a * y) ≡ y * (a * L)
    right = mul_left_comm L a y ∙ ap (λ (z : ℕ). a * z) (mul_comm L y) ∙ mul_left_comm a y L

-- ---- the quotient of two whole numbers that the format holds
div_is : (f : Format) (x y : Float) (a c : ℕ) → 0 < c → HasValue x false a 1 → HasValue y false c 1 → div f x y ≡ round f false a c
unfolding div
div_is f nan y a c C h k = absurd h
div_is f (inf s) y a c C h k = absurd h
div_is f (fin true m e) y a c C h k = absurd (true≢false h.0)
div_is f (fin false m e) nan a c C h k = absurd k
div_is f (fin false m e) (inf t) a c C h k = absurd k
div_is f (fin false m e) (fin true n d) a c C h k = absurd (true≢false k.0)
div_is f (fin false m e) (fin false n d) a c C h k = go (eqb n 0) (eqb→eq n 0)
  where
    N : 0 < n
    N = ltb→lt 0 n (positive_of_value (fin false n d) c 1 k C)

    same : m * up e * down d * c ≡ a * (n * up d * down e)
    same =
        ap (λ (z : ℕ). z * down d * c) (sym (mul-one (m * up e)) ∙ h.1)
        ∙ mul_assoc (a * down e) (down d) c
        ∙ ap (λ (z : ℕ). a * down e * z) (mul_comm (down d) c ∙ sym k.1 ∙ mul-one (n * up d))
        ∙ mul_assoc a (down e) (n * up d)
        ∙ ap (λ (z : ℕ). a * z) (mul_comm (down e) (n * up d))

    go : (b : Bool) → (T b → n ≡ 0)
        → cond b (cond (eqb m 0) nan (inf false)) (round f false (m * up e * down d) (n * up d * down e)) ≡ round f false a c
    go true z = absurd (lt_irrefl 0 (subst (λ (x : ℕ). 0 < x) (z tt) N))
    go false z = round_same f false (m * up e * down d) (n * up d * down e) a c (mul-pos (mul-pos N (up_pos d)) (down_pos e)) C same

-- a float of value g / L is near a / c where g / L is off by at most one part in 2 ^ 53
near_of_value : (x : Float) (g L a c : ℕ) → 0 < L → HasValue x false g L → 2 ^ 53 * apart (g * c) (a * L) ≤ a * L → Near c a x
near_of_value nan g L a c l h k = absurd h
near_of_value (inf s) g L a c l h k = absurd h
near_of_value (fin true m e) g L a c l h k = absurd (true≢false h.0)
near_of_value (fin false m e) g L a c l h k = cross (2 ^ 53) (m * up e) (down e) g L a c l h.1 k

-- g * c is at most twice n, which is a / c in units
under : (g c n B : ℕ) → 0 < c → 2 ^ 53 * apart (g * c) n ≤ n → n * 2 < B → g < B
under g c n B C h b = omega (arith, mul-le-mul_left g C, mul-one g)

-- a / c rounded to binary64 is near, for numbers up to 2 ^ 53: unless a is 0, a / c is in the normal range
round_near : (a c : ℕ) → a ≤ 2 ^ 53 → 0 < c → c ≤ 2 ^ 53 → Near c a (round binary64 false a c)
round_near a c A C D = elim (eq-zero-or-pos a) [ inl z ↦ none z | inr p ↦ some p ]
  where
    none : a ≡ 0 → Near c a (round binary64 false a c)
    none z =
        subst (λ (x : ℕ). Near c x (round binary64 false x c)) (sym z)
        (near_of_value (round binary64 false 0 c) 0 1 0 c (pow_pos 0)
        (subst (λ (x : Float). HasValue x false 0 1) (round_same binary64 false 0 1 0 c (pow_pos 0) C (zero-mul c ∙ sym (zero-mul 1))) (round_whole binary64 false 0 (lit≤ tt)))
        (simp (zero-mul) (lit≤ tt)))

    some : 0 < a → Near c a (round binary64 false a c)
    some p =
        let n = a * 2 ^ 1074 in
        let lit : 2 ^ 52 * 2 ^ 53 ≤ 1 * 2 ^ 1074 = lit≤ tt in
        let N = normal_of_fraction binary64 a c C (le_trans (mul-le-mul_left (2 ^ 52) D) (le_trans lit (mul-le-mul_right (2 ^ 1074) p))) in
        let h = grid_near binary64 a c C N in
        let top : n * 2 < 2 ^ (1074 + 1024) = lt_of_le_of_lt (mul-le-mul_right 2 (mul-le-mul_right (2 ^ 1074) A)) (lit< tt) in
        near_of_value (round binary64 false a c) (grid binary64 a c) (2 ^ 1074) a c (pow_pos 1074)
        (round_val binary64 a c (under (grid binary64 a c) c n (2 ^ (1074 + 1024)) C h top))
        h

-- numbers up to 2 ^ 53 are floats exactly, so their float quotient is a / c rounded
pub quotient_is : (a c : ℕ) → a ≤ 2 ^ 53 → 0 < c → c ≤ 2 ^ 53 → div binary64 (of_int binary64 (pos a)) (of_int binary64 (pos c)) ≡ round binary64 false a c
unfolding of_int
quotient_is a c A C D = div_is binary64 (round binary64 false a 1) (round binary64 false c 1) a c C (round_whole binary64 false a A) (round_whole binary64 false c D)

-- and near
pub quotient_near : (a c : ℕ) → a ≤ 2 ^ 53 → 0 < c → c ≤ 2 ^ 53 → Near c a (div binary64 (of_int binary64 (pos a)) (of_int binary64 (pos c)))
quotient_near a c A C D = subst (λ (x : Float). Near c a x) (sym (quotient_is a c A C D)) (round_near a c A C D)

-- the same with the quotient read back from its bit pattern
pub quotient_near_bits : (a c : ℕ) → a ≤ 2 ^ 53 → 0 < c → c ≤ 2 ^ 53
    → Near c a (of_bits binary64 (to_bits binary64 (div binary64 (of_int binary64 (pos a)) (of_int binary64 (pos c)))))
quotient_near_bits a c A C D =
    let q = div binary64 (of_int binary64 (pos a)) (of_int binary64 (pos c)) in
    subst (λ (x : Float). Near c a x) (sym (of_bits-to_bits binary64 q (div-fits binary64 (of_int binary64 (pos a)) (of_int binary64 (pos c))))) (quotient_near a c A C D)

-- the answer for any rate and any packet count of 32 bits
pub transfer_near : (rate packets : ℕ) → rate < 2 ^ 32 → packets < 2 ^ 32 → IsTransfer rate packets (transfer_secs rate packets)
unfolding transfer_secs
transfer_near rate packets R P = go (eqb rate 0) refl
  where
    q : Float
    q = div binary64 (of_int binary64 (pos (packets * packet_bytes))) (of_int binary64 (pos rate))

    go : (b : Bool) → eqb rate 0 ≡ b → IsTransfer rate packets (pick b no_rate (seconds q))
    go true t = eqb-true rate 0 t
    go false t =
        let some : rate ≡ 0 → ⊥ = eqb-false rate 0 t in
        let C : 0 < rate = elim (eq-zero-or-pos rate) [ inl e ↦ absurd (some e) | inr p ↦ p ] in
        (some, quotient_near_bits (packets * packet_bytes) rate (omega arith) C (omega arith))
