-- The bytes of a stream in the parts in which they are stored.
use Prim.Native.Nat.{ℕ, ◌*◌, ◌/◌, ◌%◌, ◌^◌}
use mathlib.Core.Path.{◌≡◌, sym, ap, ◌∙◌}
use mathlib.Core.List.{List, [], ◌∷◌, ◌++◌, append_assoc, append-nil}
use mathlib.Core.Bool.{Bool, true, false}
use native.Mathlib.Omega.{arith}
use lib.ListN.{length, length-append, get_or}
use borrow.Author.Tests.{ne_eqb}
use Rattle.format.specs.Bytes.{bytes_of, field_bytes}
use Rattle.format.specs.Programs.{is_video}
use Rattle.format.specs.Rewriting.{stream_bytes}
use Rattle.row_values.specs.Kinds.{row5}
use Rattle.format.proofs.Numbers.{bytes_length}
use Rattle.format.proofs.Stores.{bytes_low, bytes_parts}

-- ---- what a row's bytes begin with

-- the fields of a program before its spare byte
pub program_fields : (a b c : ℕ) → length (field_bytes (4 ∷ 2 ∷ 1 ∷ []) (a ∷ b ∷ c ∷ [])) ≡ 7
program_fields a b c = simp (length-append, bytes_length)

-- a stream's PID, its body's length, coding type, format
abbrev stream_head : (a size b c : ℕ) → List ℕ
stream_head a size b c = field_bytes (2 ∷ 1 ∷ 1 ∷ 1 ∷ []) (a ∷ size ∷ b ∷ c ∷ [])

-- those of a stream by value
abbrev pub head_of : (r : List ℕ) (size : ℕ) → List ℕ
head_of r size = stream_head (get_or r 0 0) size (get_or r 1 0) (get_or r 2 0)

-- its five bytes
pub head_length : (r : List ℕ) (size : ℕ) → length (head_of r size) ≡ 5
head_length r size = simp (length-append, bytes_length)

-- one field more
head_and : (a size b c w v : ℕ) → field_bytes (2 ∷ 1 ∷ 1 ∷ 1 ∷ w ∷ []) (a ∷ size ∷ b ∷ c ∷ v ∷ []) ≡ stream_head a size b c ++ bytes_of w v
head_and a size b c w v = simp (append_assoc, append-nil)

-- of the aspect its low four bits, as the high ones of a byte
aspect_byte : (d : ℕ) → bytes_of 1 (d * 16) ≡ bytes_of 1 (d % 16 * 16)
aspect_byte d =
    let e : d * 16 % 256 ^ 1 ≡ d % 16 * 16 % 256 ^ 1 = omega arith in
    sym (bytes_low 1 (d * 16)) ∙ ap (bytes_of 1) e ∙ bytes_low 1 (d % 16 * 16)

-- ---- the bytes of a stream by value

module _ (r : List ℕ) where
  -- video
  pub video_bytes : {v : Bool} → v ≡ is_video (get_or r 1 0) → v ≡ true → stream_bytes (row5 r) ≡ head_of r 3 ++ bytes_of 1 (get_or r 3 0 % 16 * 16)
  video_bytes is h =
      rw (← is, h) (head_and (get_or r 0 0) 3 (get_or r 1 0) (get_or r 2 0) 1 (get_or r 3 0 * 16) ∙ ap (λ (l : List ℕ). head_of r 3 ++ l) (aspect_byte (get_or r 3 0)))

  module _ {v : Bool} (is : v ≡ is_video (get_or r 1 0)) (other : v ≡ false) where
    -- no language
    pub short_bytes : get_or r 4 0 ≡ 0 → stream_bytes (row5 r) ≡ head_of r 2
    short_bytes h = rw (← is, other, h)

    -- a language of three bytes, the first and then two
    pub tagged_bytes : (get_or r 4 0 ≡ 0 → ⊥) → stream_bytes (row5 r) ≡ head_of r 5 ++ (bytes_of 1 (get_or r 4 0 / 65536) ++ bytes_of 2 (get_or r 4 0))
    tagged_bytes h =
        rw (← is, other, ne_eqb (get_or r 4 0) 0 h)
        (head_and (get_or r 0 0) 5 (get_or r 1 0) (get_or r 2 0) 3 (get_or r 4 0) ∙ ap (λ (l : List ℕ). head_of r 5 ++ l) (bytes_parts 1 2 (get_or r 4 0)))
