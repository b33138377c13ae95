-- The letters: read and written as the first of the head's fields, and tested by the two numbers.
use Prim.Native.Nat.{ℕ, ◌+◌, ◌*◌, ◌^◌}
use mathlib.Core.Path.{◌≡◌, refl, sym, ap, subst, ◌∙◌}
use mathlib.Core.List.{List, ◌∷◌, ◌++◌}
use mathlib.Core.Bool.{Bool, true, false}
use native.Mathlib.Omega.{arith}
use lib.ListN.{take, drop, take-append-drop}
use borrow.Author.Tests.{ne_eqb}
use Rattle.format.specs.Bytes.{IsBytes, unless, be_at, bytes_of}
use Rattle.format.specs.ClipRecord.{Clip, hdmv, clpi, are_letters, letters_of, letters_right, scalars_of}
use Rattle.format.specs.Reading.{clip_of, record_of}
use Rattle.format.specs.Rewriting.{head_bytes, encode}
use Rattle.format.specs.Refusals.{refusal_of, counts_add, cells_fit, runs_fit, write_refusal}
use Rattle.format.proofs.Good.{IsWord, letters_are}
use Rattle.format.proofs.Read.{right_front}
use Rattle.format.proofs.Stores.{number_part}
use Rattle.theorems.specs.Rewriting.{rewritten}
use Rattle.theorems.specs.Letters.{BeginsRight, Letters}

-- ---- reading

-- four bytes, one after the other, as a sum
read : (a b c d : ℕ) (behind : List ℕ) → (record_of (a ∷ b ∷ c ∷ d ∷ behind)).clip.scalars.letters ≡ a * 2 ^ 24 + b * 2 ^ 16 + c * 2 ^ 8 + d
unfolding record_of clip_of scalars_of be_at
read a b c d behind = omega arith

-- ---- writing

-- a new file begins with the letters of its record
front : (c : Clip) {letters : ℕ} → c.scalars.letters ≡ letters → take 4 (encode c) ≡ bytes_of 4 letters
unfolding encode head_bytes bytes_of
front c e = ap (bytes_of 4) e

-- so does the new file of a file
kept : (f : List ℕ) → BeginsRight f → take 4 (rewritten f) ≡ take 4 f
unfolding record_of clip_of scalars_of be_at bytes_of
kept f (BeginsRight.hdmv behind) = front (record_of f).clip refl
kept f (BeginsRight.clpi behind) = front (record_of f).clip refl

-- ---- 40

-- one of the refusals is told, and 40 only where the letters fail
never_40 : (a c d : Bool) → unless a 22 (unless true 40 (unless c 30 (unless d 31 0))) ≡ 40 → ⊥
never_40 true true true h = omega (arith, h)
never_40 true true false h = omega (arith, h)
never_40 true false d h = omega (arith, h)
never_40 false c d h = omega (arith, h)

-- letters that are neither word fail
neither : (l : ℕ) → (l ≡ 0x48444D56 → ⊥) → (l ≡ 0x434C5049 → ⊥) → are_letters l ≡ false
neither l h k = rw (ne_eqb l hdmv h, ne_eqb l clpi k)

-- either word passes
right : (l : ℕ) → are_letters l ≡ true → (c : Clip) → c.scalars.letters ≡ l → write_refusal c ≡ 40 → ⊥
unfolding write_refusal
right l h c e r = let pass : are_letters c.scalars.letters ≡ true = ap are_letters e ∙ h in never_40 (counts_add c) (cells_fit c) (runs_fit c) (rw pass at r)

-- ---- files

-- four bytes whose number is a word's are the word's
begins : (f : List ℕ) {l : ℕ} → IsWord l → bytes_of 4 l ≡ take 4 f → BeginsRight f
unfolding bytes_of
begins f IsWord.is_hdmv e = subst BeginsRight (ap (λ (w : List ℕ). w ++ drop 4 f) e ∙ take-append-drop 4 f) (BeginsRight.hdmv (drop 4 f))
begins f IsWord.is_clpi e = subst BeginsRight (ap (λ (w : List ℕ). w ++ drop 4 f) e ∙ take-append-drop 4 f) (BeginsRight.clpi (drop 4 f))

-- those of an accepted file have such a number
accepted : (f : List ℕ) → IsBytes f → refusal_of f ≡ 0 → BeginsRight f
unfolding letters_right
accepted f bytes h =
    let front = right_front f h in
    begins f (letters_are (letters_of f) front.1) (number_part f bytes 0 4 (omega (arith, front.0)))

-- all of them
pub letters : Letters
unfolding write_refusal bytes_of
letters = record {
  read = read;
  hdmv_first = λ c e. front c e;
  clpi_first = λ c e. front c e;
  accepted = accepted;
  kept = kept;
  told_apart = λ f g hf hg other e. other (sym (kept f hf) ∙ ap (take 4) e ∙ kept g hg);
  other = λ c adds h k. rw (adds, neither c.scalars.letters h k);
  counts_first = λ c fails. rw fails;
  hdmv_right = right hdmv refl;
  clpi_right = right clpi refl;
}
