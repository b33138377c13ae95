-- Stores that do not meet, and the rows of a map stored by their numbers.
use Prim.Native.Nat.{ℕ, suc, ◌+◌, ◌/◌, ◌%◌, ◌^◌, ◌<◌, ◌≤◌}
use mathlib.Core.Path.{◌≡◌, refl, sym, ap, ◌∙◌}
use mathlib.Core.List.{List, [], ◌∷◌, ◌++◌}
use native.Mathlib.Omega.{arith}
use lib.ListN.{length, set}
use lib.Seq.{sets, set_comm}
use Rattle.format.specs.Bytes.{bytes_of, field_bytes, packed}
use Rattle.format.specs.EntryPoints.{header_widths, coarse_widths, fine_widths}
use Rattle.format.specs.Rewriting.{coarse_bytes, coarse_by, fine_by}
use Rattle.format.proofs.Fields.{Fit, fit}
use Rattle.format.proofs.Stores.{sets_append, field_then, field_last, bytes_parts, bytes_low}
use Rattle.bits.specs.Words.{low_bits}
use Rattle.bits.proofs.Laws.{low_same}

-- ---- stores

-- a store behind others goes before them
set_before : (l : List ℕ) (i : ℕ) (v j : ℕ) (ws : List ℕ) → i < j → set (sets l j ws) i v ≡ sets (set l i v) j ws
set_before l i v j [] h = refl
set_before l i v j (w ∷ ws) h =
    set_before (set l j w) i v (suc j) ws (omega arith)
    ∙ ap (λ (o : List ℕ). sets o (suc j) ws) (set_comm l j i w v (λ e. omega arith))

-- stores that do not meet may change places
pub sets_before : (l : List ℕ) (i : ℕ) (vs : List ℕ) (j : ℕ) (ws : List ℕ) → i + length vs ≤ j → sets (sets l j ws) i vs ≡ sets (sets l i vs) j ws
sets_before l i [] j ws h = refl
sets_before l i (v ∷ vs) j ws h =
    ap (λ (o : List ℕ). sets o (suc i) vs) (set_before l i v j ws (omega arith))
    ∙ sets_before (set l i v) (suc i) vs j ws (omega arith)

-- bytes were stored, and then w right below them
pub put_below : (o : List ℕ) (at w : ℕ) (part rest : List ℕ) {at' : ℕ} {t t' : List ℕ} → length part ≡ w → at' ≡ at + w → t ≡ sets o at' rest
    → t' ≡ sets t at part → t' ≡ sets o at (part ++ rest)
put_below o at w part rest size e p q =
    q ∙ rw (p, e, ← size) (sets_before o at part (at + length part) rest (omega arith) ∙ sym (sets_append o at part rest))

-- ---- rows

-- a header of which the counts fit
pub header_stored : (o : List ℕ) (at pid kind coarse fine address : ℕ) {word : ℕ} {t t' t'' : List ℕ} → kind < 2 ^ 4 → coarse < 2 ^ 16 → fine < 2 ^ 18
    → word ≡ packed header_widths (low_bits header_widths (0 ∷ kind ∷ coarse ∷ fine ∷ []))
    → t ≡ sets o at (bytes_of 2 pid) → t' ≡ sets t (at + 2) (bytes_of 6 word) → t'' ≡ sets t' (at + 8) (bytes_of 4 address)
    → t'' ≡ sets o at (field_bytes (2 ∷ 6 ∷ 4 ∷ []) (pid ∷ packed header_widths (0 ∷ kind ∷ coarse ∷ fine ∷ []) ∷ address ∷ []))
header_stored o at pid kind coarse fine address {word} {t} {t'} a b c w p q r =
    let f = fit 10 0 (omega arith) (fit 4 kind a (fit 16 coarse b (fit 18 fine c Fit.none))) in
    let all = packed header_widths (0 ∷ kind ∷ coarse ∷ fine ∷ []) in
    let q' = q ∙ ap (λ (v : ℕ). sets t (at + 2) (bytes_of 6 v)) (w ∙ ap (packed header_widths) (low_same f)) in
    field_then o at 2 pid (field_bytes (6 ∷ 4 ∷ []) (all ∷ address ∷ [])) refl p
    (field_then t (at + 2) 6 all (field_bytes (4 ∷ []) (address ∷ [])) (omega arith) q'
    (field_last t' (at + 8) 4 address r))

-- a coarse row of which the number fits
pub coarse_stored : (o : List ℕ) (at first time packet : ℕ) {key word : ℕ} {t : List ℕ} → first < 2 ^ 18 → time < 2 ^ 33 → packet < 2 ^ 32
    → key ≡ time / 524288 → word ≡ packed coarse_widths (low_bits coarse_widths (first ∷ key ∷ packet ∷ []))
    → t ≡ sets o at (bytes_of 8 word) → t ≡ sets o at (coarse_bytes (coarse_by first time packet))
coarse_stored o at first time packet {key} a b c k w p =
    let f = fit 18 first a (fit 14 key (omega arith) (fit 32 packet c Fit.none)) in
    let row : first ∷ key ∷ packet ∷ [] ≡ coarse_by first time packet = rw k in
    p ∙ ap (λ (v : ℕ). sets o at (bytes_of 8 v)) (w ∙ ap (packed coarse_widths) (low_same f ∙ row))

-- a fine row of which angle and I-end fit
pub fine_stored : (o : List ℕ) (at angle end time packet : ℕ) {low-time low-packet word : ℕ} {t : List ℕ} → angle < 2 ^ 1 → end < 2 ^ 3
    → low-time ≡ time / 512 % 2048 → low-packet ≡ packet % 131072
    → word ≡ packed fine_widths (low_bits fine_widths (angle ∷ end ∷ low-time ∷ low-packet ∷ []))
    → t ≡ sets o at (bytes_of 4 word) → t ≡ sets o at (bytes_of 4 (packed fine_widths (fine_by angle end time packet)))
fine_stored o at angle end time packet {low-time} {low-packet} a b x y w p =
    let f = fit 1 angle a (fit 3 end b (fit 11 low-time (omega arith) (fit 17 low-packet (omega arith) Fit.none))) in
    let row : angle ∷ end ∷ low-time ∷ low-packet ∷ [] ≡ fine_by angle end time packet = rw (x, y) in
    p ∙ ap (λ (v : ℕ). sets o at (bytes_of 4 v)) (w ∙ ap (packed fine_widths) (low_same f ∙ row))
