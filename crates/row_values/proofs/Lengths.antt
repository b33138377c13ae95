-- How many bytes each kind of row has in a file.
use Prim.Native.Nat.{ℕ, ◌≤◌}
use mathlib.Core.Path.{◌≡◌}
use mathlib.Core.List.{List, [], ◌∷◌}
use mathlib.Core.Bool.{Bool, true, false}
use native.Mathlib.Omega.{arith}
use lib.ListN.{length, length-append, get_or}
use lib.Dec.{eqb}
use borrow.Author.Tests.{ne_eqb}
use Rattle.format.specs.ClipRecord.{Row}
use Rattle.format.specs.Programs.{is_video}
use Rattle.format.specs.Rewriting.{atc_bytes, stc_bytes, program_bytes, stream_bytes_by, stream_bytes}
use Rattle.format.proofs.Numbers.{bytes_length}
use Rattle.row_values.specs.declared.RowKind.{RowKind}
use Rattle.row_values.specs.Kinds.{row5, row_of, bytes_by}

-- ---- how long each kind is

-- packet, STC count, offset id
pub atc_length : (a b c : ℕ) → length (atc_bytes (a ∷ b ∷ c ∷ [])) ≡ 6
atc_length a b c = simp (length-append, bytes_length)

-- PID, packet, start, end
pub stc_length : (a b c d : ℕ) → length (stc_bytes (a ∷ b ∷ c ∷ d ∷ [])) ≡ 14
stc_length a b c d = simp (length-append, bytes_length)

-- packet, PID, stream count, a spare byte
pub program_length : (a b c : ℕ) → length (program_bytes (a ∷ b ∷ c ∷ [])) ≡ 8
program_length a b c = simp (length-append, bytes_length)

-- a stream by value: video, without a language, and with one
module _ (r : List ℕ) where
  -- PID, body length, coding type, format, aspect
  pub video_length : {v : Bool} → v ≡ is_video (get_or r 1 0) → v ≡ true → length (stream_bytes (row5 r)) ≡ 6
  video_length is h = rw (← is, h) (simp (length-append, bytes_length))

  module _ {v : Bool} (is : v ≡ is_video (get_or r 1 0)) (other : v ≡ false) where
    -- the same without the aspect
    pub short_length : get_or r 4 0 ≡ 0 → length (stream_bytes (row5 r)) ≡ 5
    short_length h = rw (← is, other, h) (simp (length-append, bytes_length))

    -- a language in its place
    pub tagged_length : (get_or r 4 0 ≡ 0 → ⊥) → length (stream_bytes (row5 r)) ≡ 8
    tagged_length h = rw (← is, other, ne_eqb (get_or r 4 0) 0 h) (simp (length-append, bytes_length))

-- ---- no row is longer than an STC

-- a stream, of whichever form
stream_short : (v z : Bool) (row : Row) → length (stream_bytes_by v z row) ≤ 14
stream_short true z row = simp (length-append, bytes_length) (omega arith)
stream_short false true row = simp (length-append, bytes_length) (omega arith)
stream_short false false row = simp (length-append, bytes_length) (omega arith)

-- a row of any kind, by value
pub row_short : (kind : RowKind) (r : List ℕ) → length (bytes_by kind (row_of kind r)) ≤ 14
row_short RowKind.Atc r = rw (atc_length (get_or r 0 0) (get_or r 1 0) (get_or r 2 0)) (omega arith)
row_short RowKind.Stc r = rw (stc_length (get_or r 0 0) (get_or r 1 0) (get_or r 2 0) (get_or r 3 0)) (omega arith)
row_short RowKind.Program r = rw (program_length (get_or r 0 0) (get_or r 1 0) (get_or r 2 0)) (omega arith)
row_short RowKind.Stream r = stream_short (is_video (get_or r 1 0)) (eqb (get_or r 4 0) 0) (row5 r)
