-- The letters travel: a file's are read, kept in its record and written again. Letters other than the two are 40 in writing.
use Rattle.std.specs.Prelude.{ℕ, ◌+◌, ◌*◌, ◌^◌, ◌≡◌, List, [], ◌∷◌, true, false, take}
use Rattle.format.specs.Bytes.{IsBytes}
use Rattle.format.specs.ClipRecord.{Clip}
use Rattle.format.specs.Reading.{record_of}
use Rattle.format.specs.Rewriting.{encode}
use Rattle.format.specs.Refusals.{refusal_of, counts_add, write_refusal}
use Rattle.theorems.specs.Rewriting.{rewritten}

-- a file that begins with HDMV or with CLPI, and has any bytes behind
pub data BeginsRight : List ℕ → Type 0 where
  hdmv : (behind : List ℕ) → BeginsRight (0x48 ∷ 0x44 ∷ 0x4D ∷ 0x56 ∷ behind)
  clpi : (behind : List ℕ) → BeginsRight (0x43 ∷ 0x4C ∷ 0x50 ∷ 0x49 ∷ behind)

-- the statements together
pub record Letters : Type 0 where
  -- the record has the first four bytes as one number, the first one highest
  pub read : (a b c d : ℕ) (behind : List ℕ) → (record_of (a ∷ b ∷ c ∷ d ∷ behind)).clip.scalars.letters ≡ a * 2 ^ 24 + b * 2 ^ 16 + c * 2 ^ 8 + d
  -- a record with either of the two words is written to a file that begins with it
  pub hdmv_first : (c : Clip) → c.scalars.letters ≡ 0x48444D56 → take 4 (encode c) ≡ 0x48 ∷ 0x44 ∷ 0x4D ∷ 0x56 ∷ []
  pub clpi_first : (c : Clip) → c.scalars.letters ≡ 0x434C5049 → take 4 (encode c) ≡ 0x43 ∷ 0x4C ∷ 0x50 ∷ 0x49 ∷ []
  -- an accepted file begins with either of the two
  pub accepted : (f : List ℕ) → IsBytes f → refusal_of f ≡ 0 → BeginsRight f
  -- and its new file with the same
  pub kept : (f : List ℕ) → BeginsRight f → take 4 (rewritten f) ≡ take 4 f
  -- so files that begin otherwise have different new files, whatever stands behind
  pub told_apart : (f g : List ℕ) → BeginsRight f → BeginsRight g → (take 4 f ≡ take 4 g → ⊥) → rewritten f ≡ rewritten g → ⊥
  -- a record with other letters is refused by 40, whatever its cells and runs are
  pub other : (c : Clip) → counts_add c ≡ true → (c.scalars.letters ≡ 0x48444D56 → ⊥) → (c.scalars.letters ≡ 0x434C5049 → ⊥) → write_refusal c ≡ 40
  -- but by 22 where its counts don't add up, whatever its letters are
  pub counts_first : (c : Clip) → counts_add c ≡ false → write_refusal c ≡ 22
  -- with either of the two words it is never refused by 40
  pub hdmv_right : (c : Clip) → c.scalars.letters ≡ 0x48444D56 → write_refusal c ≡ 40 → ⊥
  pub clpi_right : (c : Clip) → c.scalars.letters ≡ 0x434C5049 → write_refusal c ≡ 40 → ⊥
