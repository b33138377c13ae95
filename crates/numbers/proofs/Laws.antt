-- The bytes of numbers, stored.
use Prim.Native.Nat.{ℕ, zero, suc, ◌+◌, ◌-◌, ◌/◌, ◌%◌, ◌^◌, ◌≤◌}
use mathlib.Core.Path.{◌≡◌, refl, sym, ap, ◌∙◌}
use mathlib.Core.List.{List, [], ◌∷◌, ◌++◌}
use native.Mathlib.Omega.{arith}
use borrow.Rule.Slice.PartMut.{put_mid}
use lib.ListN.{length, take, drop, replicate}
use lib.Seq.{sets, drop-append_seam}
use Rattle.std.proofs.lemmas.List.{replicate-append-replicate, take_all}
use Rattle.format.specs.Bytes.{bytes_of}
use Rattle.format.proofs.Numbers.{bytes_length}
use Rattle.format.proofs.Stores.{bytes_parts}
use Rattle.cells.proofs.Parts.{put_as_sets}

-- eight bytes one by one are those of the number
four_bytes : (v : ℕ) → v / 16777216 % 256 ∷ v / 65536 % 256 ∷ v / 256 % 256 ∷ v % 256 ∷ [] ≡ bytes_of 4 v
unfolding bytes_of
four_bytes v =
    let two : v / 256 / 256 ≡ v / 65536 = omega arith in
    let three : v / 65536 / 256 ≡ v / 16777216 = omega arith in
    rw (two, three)

eight_bytes : (v : ℕ) → v / 72057594037927936 % 256 ∷ v / 281474976710656 % 256 ∷ v / 1099511627776 % 256 ∷ v / 4294967296 % 256
    ∷ v / 16777216 % 256 ∷ v / 65536 % 256 ∷ v / 256 % 256 ∷ v % 256 ∷ [] ≡ bytes_of 8 v
eight_bytes v =
    let one : v / 4294967296 / 256 ≡ v / 1099511627776 = omega arith in
    let two : v / 4294967296 / 65536 ≡ v / 281474976710656 = omega arith in
    let three : v / 4294967296 / 16777216 ≡ v / 72057594037927936 = omega arith in
    rw (bytes_parts 4 4 v, ← four_bytes (v / 4294967296), ← four_bytes v, one, two, three)

-- the last n of the eight are those of n bytes
pub last_bytes : (n v : ℕ) → n ≤ 8 → {eight : List ℕ} → eight ≡ v / 72057594037927936 % 256 ∷ v / 281474976710656 % 256 ∷ v / 1099511627776 % 256
    ∷ v / 4294967296 % 256 ∷ v / 16777216 % 256 ∷ v / 65536 % 256 ∷ v / 256 % 256 ∷ v % 256 ∷ [] → take (8 - (8 - n)) (drop (8 - n) eight) ≡ bytes_of n v
last_bytes n v few e =
    let all : 8 - n + n ≡ 8 = omega arith in
    let count : 8 - (8 - n) ≡ n = omega arith in
    let front : List ℕ = bytes_of (8 - n) (v / 256 ^ n) in
    let parts : bytes_of 8 v ≡ front ++ bytes_of n v = (rw all at (bytes_parts (8 - n) n v)) in
    let last : drop (8 - n) (front ++ bytes_of n v) ≡ bytes_of n v = (rw (bytes_length (8 - n) (v / 256 ^ n)) at (drop-append_seam front (bytes_of n v))) in
    rw (e, eight_bytes v, parts, last, count) (take_all n (bytes_of n v) (omega (arith, bytes_length n v)))

-- zeros are the bytes of 0
pub zero_bytes : (n : ℕ) → replicate n 0 ≡ bytes_of n 0
unfolding bytes_of
zero_bytes zero = refl
zero_bytes (suc n) =
    let one : suc n ≡ n + 1 = omega arith in
    ap (λ (k : ℕ). replicate {A = ℕ} k 0) one ∙ sym (replicate-append-replicate {A = ℕ} n 1 0) ∙ ap (λ (zeros : List ℕ). zeros ++ (0 ∷ [])) (zero_bytes n)

-- as many bytes put in are the number stored
pub bytes_stored : (l : List ℕ) (at n v : ℕ) {xs : List ℕ} → xs ≡ bytes_of n v → at + n ≤ length l → put_mid at (at + n - at) l xs ≡ sets l at (bytes_of n v)
bytes_stored l at n v {xs = xs} e h = put_as_sets l xs at n (ap length e ∙ bytes_length n v) h ∙ ap (sets l at) e
