-- N bytes put at the end of eight zeros, and read as a number of eight bytes, are the number of the N bytes.
use Prim.Native.Nat.{ℕ, zero, suc, ◌+◌, ◌*◌, ◌-◌, ◌<◌, ◌≤◌, ◌^◌}
use mathlib.Core.Path.{◌≡◌, refl, ◌∙◌}
use mathlib.Core.List.{List, [], ◌∷◌, ◌++◌}
use native.Mathlib.Nat.{zero-add, suc-add, pow-suc}
use native.Mathlib.Omega.{arith}
use borrow.Rule.Slice.PartMut.{put_mid}
use lib.ListN.{length, get_or, take, drop, get_or-append}
use lib.Seq.{get_or-drop, length-take-le}
use Rattle.std.specs.Int.{from_be_bytes, w64}
use Rattle.std.proofs.lemmas.List.{get_or-take, get_or-append-add}
use Rattle.format.specs.Bytes.{be_at, part}
use Rattle.format.proofs.Lists.{part_length}
use Rattle.format.proofs.Stores.{be_same, be_parts, be_below}
use Rattle.numbers.specs.Reads.{ReadIs}

-- a number of bytes that are all 0 is 0
noughts : (l : List ℕ) (m : ℕ) → ((k : ℕ) → k < m → get_or l k 0 ≡ 0) → be_at l 0 m ≡ 0
unfolding be_at
noughts l zero h = refl
noughts l (suc m) h = rw (noughts l m (λ k b. h k (omega arith)), zero-add m, h m (omega arith))

-- n zeros
zeros : ℕ → List ℕ
zeros zero = []
zeros (suc n) = 0 ∷ zeros n

all_zero : (n k : ℕ) → get_or (zeros n) k 0 ≡ 0
unfolding zeros
all_zero zero k = refl
all_zero (suc n) zero = refl
all_zero (suc n) (suc k) = all_zero n k

-- the library's number of eight bytes is the format's
be_eight : (l : List ℕ) → from_be_bytes w64 l ≡ be_at l 0 8
unfolding be_at
be_eight l = omega arith

module _ (s : List ℕ) (at n : ℕ) (few : n ≤ 8) (inside : at + n ≤ length s) (rest : List ℕ) where
  -- the eight bytes
  abbrev front : List ℕ
  front = take (8 - n) (0 ∷ 0 ∷ 0 ∷ 0 ∷ 0 ∷ 0 ∷ 0 ∷ 0 ∷ [])

  abbrev eight : List ℕ
  eight = front ++ (part s at n ++ rest)

  size : length front ≡ 8 - n
  size = length-take-le (8 - n) _ (omega arith)

  first : (k : ℕ) → k < 8 - n → get_or eight k 0 ≡ 0
  unfolding zeros
  first k h = get_or-append front (part s at n ++ rest) 0 k (rw size h) ∙ get_or-take (8 - n) (zeros 8) k 0 h ∙ all_zero 8 k

  later : (k : ℕ) → k < n → get_or eight (8 - n + k) 0 ≡ get_or s (at + k) 0
  later k h =
      (rw size at (get_or-append-add front (part s at n ++ rest) k 0))
      ∙ get_or-append (part s at n) rest 0 k (rw (part_length s at n inside) h) ∙ get_or-take n (drop at s) k 0 h ∙ get_or-drop at s k 0

  -- they are the number of the n bytes
  eight_is : be_at eight 0 8 ≡ be_at s at n
  eight_is =
      let all : 8 - n + n ≡ 8 = omega arith in
      let parts : be_at eight 0 (8 - n + n) ≡ be_at eight 0 (8 - n) * 256 ^ n + be_at eight (8 - n) n = (rw (zero-add (8 - n)) at (be_parts eight 0 (8 - n) n)) in
      let high : be_at eight 0 (8 - n) ≡ 0 = noughts eight (8 - n) first in
      let low : be_at eight (8 - n) n ≡ be_at s at n = be_same eight s (8 - n) at n later in
      (rw (all, high, low) at parts) ∙ omega arith

-- so that number was read
pub number_read : (s : List ℕ) → ((i : ℕ) → get_or s i 0 < 256) → (at n : ℕ) → n ≤ 8 → at + n ≤ length s → {part' : List ℕ} {r : ℕ} → part' ≡ part s at (at + n - at)
    → r ≡ from_be_bytes w64 (put_mid (8 - n) (8 - (8 - n)) (0 ∷ 0 ∷ 0 ∷ 0 ∷ 0 ∷ 0 ∷ 0 ∷ 0 ∷ []) part') → ReadIs s at n r
number_read s bytes at n few inside {part' = p} {r = r} e f =
    let count : at + n - at ≡ n = omega arith in
    let is : r ≡ be_at s at n = f ∙ rw (e, count) (be_eight _ ∙ eight_is s at n few inside _) in
    record { same = is; below = rw is (be_below s bytes at n) }

-- a number of n bytes fits as many more
powers : (m n : ℕ) → 256 ^ n ≤ 256 ^ (m + n)
powers zero n = rw (zero-add n) (omega arith)
powers (suc m) n = rw (suc-add m n, pow-suc) (omega (arith, powers m n))

-- of four at most, a cell
pub cell_fits : (n : ℕ) → n ≤ 4 → {r : ℕ} → r < 256 ^ n → r < 4294967296
cell_fits n few {r = r} h =
    let all : 4 - n + n ≡ 4 = omega arith in
    let most : 256 ^ n ≤ 256 ^ 4 = (rw all at (powers (4 - n) n)) in
    omega (arith, most, h)
