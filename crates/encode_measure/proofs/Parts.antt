-- The bytes of a written file, section by section.
use Prim.Native.Nat.{ℕ, ◌+◌, ◌^◌, ◌<◌, ◌≤◌}
use mathlib.Core.Path.{◌≡◌, refl, sym, ap, ◌∙◌}
use mathlib.Core.List.{List, ◌++◌}
use native.Mathlib.Omega.{arith}
use lib.ListN.{length, length-append}
use lib.Seq.{sets}
use Rattle.format.specs.ClipRecord.{Clip}
use Rattle.format.specs.Rewriting.{head_bytes, sequences_bytes, programs_bytes, cpi_bytes, marks_bytes, encode}
use Rattle.format.proofs.Good.{GoodClip}
use Rattle.format.proofs.Lengths.{sequences_bound, programs_bound, cpi_bound}
use Rattle.format.proofs.Stores.{part_then}
use Rattle.encode_head.proofs.Laws.{head_length, marks_length}
use Rattle.encode_measure.specs.Places.{programs_place, cpi_place, marks_place, Placed}

-- the new file, with the places of its sections
pub encode_is : (c : Clip)
    → encode c ≡ head_bytes c.scalars (programs_place c) (cpi_place c) (marks_place c) ++ (sequences_bytes c ++ (programs_bytes c ++ (cpi_bytes c ++ marks_bytes)))
unfolding encode programs_place cpi_place marks_place
encode_is c = refl

-- the places, as sums
pub place_programs : (c : Clip) → programs_place c ≡ 220 + length (sequences_bytes c)
unfolding programs_place
place_programs c = refl

-- the CPI stands behind the programs
pub place_cpi : (c : Clip) → cpi_place c ≡ programs_place c + length (programs_bytes c)
unfolding cpi_place
place_cpi c = refl

-- the marks stand behind the CPI
pub place_marks : (c : Clip) → marks_place c ≡ cpi_place c + length (cpi_bytes c)
unfolding marks_place
place_marks c = refl

-- and its length: the marks are its last 6 bytes
pub encode_length : (c : Clip) → length (encode c) ≡ marks_place c + 6
encode_length c =
    let head = head_bytes c.scalars (programs_place c) (cpi_place c) (marks_place c) in
    rw (
      encode_is c,
      length-append head (sequences_bytes c ++ (programs_bytes c ++ (cpi_bytes c ++ marks_bytes))),
      length-append (sequences_bytes c) (programs_bytes c ++ (cpi_bytes c ++ marks_bytes)),
      length-append (programs_bytes c) (cpi_bytes c ++ marks_bytes),
      length-append (cpi_bytes c) marks_bytes,
      marks_length,
      head_length c.scalars (programs_place c) (cpi_place c) (marks_place c),
    )
    (omega (arith, place_programs c, place_cpi c, place_marks c))

-- stored one behind the other, the parts are the file
pub parts_stored : (c : Clip) (l : List ℕ) {l₁ l₂ l₃ l₄ l₅ : List ℕ}
    → l₁ ≡ sets l 0 (head_bytes c.scalars (programs_place c) (cpi_place c) (marks_place c)) → l₂ ≡ sets l₁ 220 (sequences_bytes c)
    → l₃ ≡ sets l₂ (programs_place c) (programs_bytes c) → l₄ ≡ sets l₃ (cpi_place c) (cpi_bytes c) → l₅ ≡ sets l₄ (marks_place c) marks_bytes
    → l₅ ≡ sets l 0 (encode c)
parts_stored c l e₁ e₂ e₃ e₄ e₅ =
    let head = head_bytes c.scalars (programs_place c) (cpi_place c) (marks_place c) in
    let first : 0 + length head ≡ 220 = omega (arith, head_length c.scalars (programs_place c) (cpi_place c) (marks_place c)) in
    let four = part_then _ (cpi_place c) _ (cpi_bytes c) marks_bytes refl (place_marks c) e₄ e₅ in
    let three = part_then _ (programs_place c) _ (programs_bytes c) (cpi_bytes c ++ marks_bytes) refl (place_cpi c) e₃ four in
    let two = part_then _ 220 _ (sequences_bytes c) (programs_bytes c ++ (cpi_bytes c ++ marks_bytes)) refl (place_programs c) e₂ three in
    part_then l 0 _ head (sequences_bytes c ++ (programs_bytes c ++ (cpi_bytes c ++ marks_bytes))) refl (sym first) e₁ two ∙ ap (sets l 0) (sym (encode_is c))

-- the same, from places that are told
pub placed_stored : (c : Clip) {programs cpi marks bytes : ℕ} → Placed c programs cpi marks bytes → (l : List ℕ) {l₁ l₂ l₃ l₄ l₅ : List ℕ}
    → l₁ ≡ sets l 0 (head_bytes c.scalars programs cpi marks) → l₂ ≡ sets l₁ 220 (sequences_bytes c) → l₃ ≡ sets l₂ programs (programs_bytes c)
    → l₄ ≡ sets l₃ cpi (cpi_bytes c) → l₅ ≡ sets l₄ marks marks_bytes → l₅ ≡ sets l 0 (encode c)
placed_stored c at l e₁ e₂ e₃ e₄ e₅ =
    parts_stored c l (rw (at.programs_at, at.cpi_at, at.marks_at) at e₁) e₂ (rw at.programs_at at e₃) (rw at.cpi_at at e₄) (rw at.marks_at at e₅)

-- bytes stored, under another name
pub stored_as : (l : List ℕ) (at : ℕ) {l' part same : List ℕ} → l' ≡ sets l at part → part ≡ same → l' ≡ sets l at same
stored_as l at e is = e ∙ ap (sets l at) is

-- ---- the places

-- the places are in order, the last is a number of 32 bits, and there is room behind it
pub record InOrder (programs cpi marks bytes : ℕ) : Type 0 where
  pub head : 220 ≤ programs
  pub sequences : programs ≤ cpi
  pub programs_end_lem : cpi ≤ marks
  pub narrow : marks < 2 ^ 32
  pub room : marks + 6 ≤ bytes

-- the places of a short file are in order
pub placed_order : (c : Clip) {programs cpi marks bytes : ℕ} → marks_place c + 6 ≤ 402515706 → Placed c programs cpi marks bytes → InOrder programs cpi marks bytes
placed_order c short at = record {
  head = omega (arith, at.programs_at, place_programs c);
  sequences = omega (arith, at.programs_at, at.cpi_at, place_cpi c);
  programs_end_lem = omega (arith, at.cpi_at, at.marks_at, place_marks c);
  narrow = omega (arith, at.marks_at, short);
  room = at.room;
}

-- a good record's file is short
pub good_short : (c : Clip) → GoodClip 65535 c → marks_place c + 6 ≤ 402515706
good_short c good = omega (arith, sequences_bound c good, programs_bound c good, cpi_bound c good, place_programs c, place_cpi c, place_marks c)
