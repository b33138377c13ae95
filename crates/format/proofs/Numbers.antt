-- Numbers and rows of fields as bytes, highest first in files and lowest first in tables: their lengths, their parts, and that they read back.
use Prim.Native.Nat.{ℕ, zero, suc, ◌+◌, ◌/◌, ◌%◌, ◌^◌, ◌<◌, ◌≤◌}
use mathlib.Core.Path.{◌≡◌, refl, ap, ap₂, ◌∙◌}
use mathlib.Core.List.{List, [], ◌∷◌, ◌++◌, append_assoc}
use native.Mathlib.Nat.{pow-suc, div-lt_iff_lt-mul}
use native.Mathlib.Omega.{arith}
use lib.ListN.{length, get_or, length-append}
use lib.Seq.{get_or_at}
use lib.Dec.{lit<}
use Rattle.format.specs.Bytes.{be_at, bytes_of, field_bytes, fields_at, width_of}

-- ---- bytes b stand in s at place p

-- s is p bytes, then b, then whatever is behind
pub record Stands (s : List ℕ) (p : ℕ) (b : List ℕ) : Type 0 where
  pub before : List ℕ
  pub behind : List ℕ
  pub place : length before ≡ p
  pub whole : s ≡ before ++ (b ++ behind)

-- of two parts that stand one behind the other, the first, and the second
pub left : {s : List ℕ} {p : ℕ} (a b : List ℕ) → Stands s p (a ++ b) → Stands s p a
left a b t = record {
  before = t.before;
  behind = b ++ t.behind;
  place = t.place;
  whole = t.whole ∙ rw (append_assoc a b t.behind);
}

-- the second stands where the first ends
pub right : {s : List ℕ} {p : ℕ} (a b : List ℕ) (q : ℕ) → p + length a ≡ q → Stands s p (a ++ b) → Stands s q b
right {s} {p} a b q e t = record {
  before = t.before ++ a;
  behind = t.behind;
  place = length-append t.before a ∙ rw t.place e;
  whole = t.whole ∙ rw (append_assoc a b t.behind, append_assoc t.before a (b ++ t.behind));
}

-- what stands in s ends within it
pub ends_in : {s : List ℕ} {p : ℕ} {b : List ℕ} → Stands s p b → p + length b ≤ length s
ends_in {s} {p} {b} t =
    let e = simp length-append at (ap length t.whole) in
    let f = t.place in
    omega arith

-- the same bytes, stated otherwise
pub moved : {s : List ℕ} {p q : ℕ} {b c : List ℕ} → p ≡ q → b ≡ c → Stands s p b → Stands s q c
moved {s} {p} {q} {b} {c} e f t = record {
  before = t.before;
  behind = t.behind;
  place = t.place ∙ e;
  whole = t.whole ∙ rw f;
}

-- ---- big-endian numbers

-- n bytes of a number are n, whether it fits them or not
pub bytes_length : (n v : ℕ) → length (bytes_of n v) ≡ n
unfolding bytes_of
bytes_length zero v = refl
bytes_length (suc n) v =
    length-append (bytes_of n (v / 256)) (v % 256 ∷ []) ∙ omega (arith, bytes_length n (v / 256))

-- a number that fits its n bytes is read back from between any bytes before and behind it
be_back : (p q : List ℕ) (n v at : ℕ) → length p ≡ at → v < 256 ^ n → be_at (p ++ (bytes_of n v ++ q)) at n ≡ v
unfolding be_at bytes_of
be_back p q zero v at e h = omega arith
be_back p q (suc n) v at e h =
    let b = bytes_of n (v / 256) in
    let last = v % 256 in
    let regroup : bytes_of (suc n) v ++ q ≡ b ++ (last ∷ q) = append_assoc b (last ∷ []) q in
    let fits : v / 256 < 256 ^ n = (div-lt_iff_lt-mul (lit< tt)).1 (rw pow-suc at h) in
    let high : be_at (p ++ (bytes_of (suc n) v ++ q)) at n ≡ v / 256 =
    ap (λ (x : List ℕ). be_at (p ++ x) at n) regroup ∙ be_back p (last ∷ q) n (v / 256) at e fits in
    let size : length (p ++ b) ≡ at + n = length-append p b ∙ ap₂ (λ (x y : ℕ). x + y) e (bytes_length n (v / 256)) in
    let low : get_or (p ++ (b ++ (last ∷ q))) (at + n) 0 ≡ last =
    rw (← append_assoc p b (last ∷ q)) (get_or_at (p ++ b) last q 0 (at + n) size) in
    rw (regroup, high, low) (omega arith)

-- a number of n bytes is read back
pub number_back : {s : List ℕ} {p : ℕ} (n v : ℕ) → Stands s p (bytes_of n v) → v < 256 ^ n → be_at s p n ≡ v
number_back {s} {p} n v t h = rw t.whole (be_back t.before t.behind n v p t.place h)

-- ---- rows of fields

-- each value fits its field of so many bytes
pub data Fill : List ℕ → List ℕ → Type 0 where
  none : Fill [] []
  one : {w v : ℕ} {ws vs : List ℕ} → v < 256 ^ w → Fill ws vs → Fill (w ∷ ws) (v ∷ vs)

-- one more field in front, with its width and value stated
pub fill : (w v : ℕ) {ws vs : List ℕ} → v < 256 ^ w → Fill ws vs → Fill (w ∷ ws) (v ∷ vs)
fill w v h f = one h f

-- a row of fields is read back
pub fields_back : {s : List ℕ} {ws vs : List ℕ} (p : ℕ) → Fill ws vs → Stands s p (field_bytes ws vs) → fields_at s p ws ≡ vs
fields_back p none t = refl
fields_back {s} p (one {w = w} {v = v} {ws = ws} {vs = vs} h f) t =
    let size = bytes_length w v in
    let rest = right (bytes_of w v) (field_bytes ws vs) (p + w) (rw size) t in
    ap₂ (λ (x : ℕ) (xs : List ℕ). x ∷ xs) (number_back w v (left (bytes_of w v) (field_bytes ws vs) t) h) (fields_back (p + w) f rest)

-- as many fields as values: their bytes are as many as the widths say
pub widths_length : (ws vs : List ℕ) → length ws ≡ length vs → length (field_bytes ws vs) ≡ width_of ws
widths_length [] [] e = refl
widths_length [] (v ∷ vs) e = absurd (omega (arith, e))
widths_length (w ∷ ws) [] e = absurd (omega (arith, e))
widths_length (w ∷ ws) (v ∷ vs) e = rw (length-append (bytes_of w v) (field_bytes ws vs), bytes_length w v, widths_length ws vs (omega (arith, e)))

-- values that fit their fields are as many as these
fill_alike : {ws vs : List ℕ} → Fill ws vs → length ws ≡ length vs
fill_alike none = refl
fill_alike (one h f) = omega (arith, fill_alike f)

-- values that fit their fields take as many bytes as the widths say
pub fields_length : {ws vs : List ℕ} → Fill ws vs → length (field_bytes ws vs) ≡ width_of ws
fields_length {ws} {vs} f = widths_length ws vs (fill_alike f)
