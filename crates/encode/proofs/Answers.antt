-- The answer of writing, and the output, in each of its three cases.
use Prim.Native.Nat.{ℕ, ◌+◌, ◌^◌, ◌<◌, ◌≤◌}
use mathlib.Core.Path.{◌≡◌, refl, sym, ap, ◌∙◌}
use mathlib.Core.List.{List}
use mathlib.Core.Bool.{Bool, true, false}
use native.Mathlib.Omega.{arith}
use lib.ListN.{length}
use lib.Seq.{sets}
use lib.Dec.{eqb, leb}
use borrow.Author.Tests.{le-leb, lt-leb, eqb-true}
use Rattle.format.specs.Bytes.{pick}
use Rattle.format.specs.ClipRecord.{Clip}
use Rattle.format.specs.Tables.{ClipTables, clip_in, overwritten}
use Rattle.format.specs.Rewriting.{encode}
use Rattle.format.specs.Refusals.{WriteAnswer, refused, too_short, written, unless_refused, written_in, write_answer}
use Rattle.format.proofs.Loops.{sets_front}
use Rattle.encode_measure.specs.Places.{refusal_in, marks_place}
use Rattle.encode.specs.Writing.{bytes_in}
use Rattle.encode_measure.proofs.Parts.{encode_length}
use Rattle.encode_measure.proofs.Tables.{marks_bound}

module _ (refusal : ℕ) (c : Clip) (out : List ℕ) where
  -- the answer, by the refusal and the lengths
  abbrev pub answer_by : WriteAnswer
  answer_by = unless_refused refusal (written_in (length (encode c)) (length out))

  -- a refusal
  pub answer_refused : {n : ℕ} → (eqb refusal 0 ≡ false) × (refusal ≡ n) → refused n ≡ answer_by
  answer_refused h = rw (h.0, h.1)

  -- the output is too short
  pub answer_short : {marks : ℕ} → refusal ≡ 0 → marks ≡ marks_place c → length out < marks + 6 → too_short (marks + 6) ≡ answer_by
  answer_short e m h =
      let long : length (encode c) ≡ _ + 6 = encode_length c ∙ ap (λ (k : ℕ). k + 6) (sym m) in
      rw (e, long, lt-leb _ (length out) h)

  -- all is written
  pub answer_written : {marks : ℕ} → refusal ≡ 0 → marks ≡ marks_place c → marks + 6 ≤ length out → written (marks + 6) ≡ answer_by
  answer_written e m h =
      let long : length (encode c) ≡ _ + 6 = encode_length c ∙ ap (λ (k : ℕ). k + 6) (sym m) in
      rw (e, long, le-leb _ (length out) h)

  -- the new file stands at the output's front
  pub output_written : {marks : ℕ} {out' : List ℕ} → marks ≡ marks_place c → marks + 6 ≤ length out → out' ≡ sets out 0 (encode c) → out' ≡ overwritten (encode c) out
  output_written m h is = sets_front out (encode c) (omega (arith, encode_length c, m)) is

-- ---- the length that is told

-- the length that is told has 32 bits: it is the one needed, or 0 beside a refusal
narrow_by : (b d : Bool) (refusal needed : ℕ) → (b ≡ true → needed < 2 ^ 32) → bytes_in (pick b (pick d (written needed) (too_short needed)) (refused refusal)) < 2 ^ 32
narrow_by false d refusal needed h = omega arith
narrow_by true true refusal needed h = h refl
narrow_by true false refusal needed h = h refl

-- a number of 32 bits, where the new file of a record that is not refused has so many bytes
pub bytes_narrow : (refusal : ℕ) (c : Clip) (out : List ℕ) → (refusal ≡ 0 → length (encode c) < 2 ^ 32) → bytes_in (answer_by refusal c out) < 2 ^ 32
bytes_narrow refusal c out h =
    narrow_by (eqb refusal 0) (leb (length (encode c)) (length out)) refusal (length (encode c)) (λ e. h (eqb-true refusal 0 e))

-- as that of a record in tables has
pub write_narrow : (l : ClipTables) (out : List ℕ) → bytes_in (write_answer l out) < 2 ^ 32
unfolding write_answer
write_narrow l out = bytes_narrow (refusal_in l) (clip_in l) out (λ e. omega (arith, encode_length (clip_in l), marks_bound l e))

-- and so has an answer that is equal to it
pub narrow_by_answer : (l : ClipTables) (out : List ℕ) {x : WriteAnswer} → x ≡ write_answer l out → bytes_in x < 2 ^ 32
narrow_by_answer l out is = rw is (write_narrow l out)
