-- A word read and written so many bits at a time, the highest first.
use Rattle.std.specs.Prelude.{ℕ, ◌+◌, ◌*◌, ◌-◌, ◌/◌, ◌%◌, ◌^◌, List, [], ◌∷◌, Bool, Option, Some, None, leb, get_or, drop}
use Rattle.format.specs.Bytes.{both, pick}
use Rattle.bits.specs.declared.BitReader.{BitReader}
use Rattle.bits.specs.declared.BitWriter.{BitWriter}

-- the highest n of the `left` lowest bits of the word
abbrev pub bits_of : ℕ → ℕ → ℕ → ℕ
bits_of word left n = word / 2 ^ (left - n) % 2 ^ n

-- a read of at most 32 bits is answered where the word has them
abbrev pub readable : ℕ → ℕ → Bool
readable left n = both (leb n 32) (both (leb n left) (leb left 64))

-- what a read of n bits answers
abbrev pub read_bits : BitReader → ℕ → Option (ℕ × BitReader)
read_bits r n = pick (readable r.left n) (Some (bits_of r.word r.left n, record { word = r.word; left = r.left - n })) None

-- the word of 64 bits moved up by n bits, with the n lowest bits of the value below it
unfoldable pub with_bits : ℕ → ℕ → ℕ → ℕ
with_bits word value n = word * 2 ^ n % 2 ^ 64 + value % 2 ^ n

-- a write of at most 32 bits is done where the word has room
abbrev pub writable : ℕ → ℕ → Bool
writable used n = both (leb n 32) (both (leb used 64) (leb (used + n) 64))

-- what a write of the n lowest bits of the value answers
abbrev pub write_bits : BitWriter → ℕ → ℕ → Option BitWriter
write_bits w value n = pick (writable w.used n) (Some (record { word = with_bits w.word value n; used = w.used + n })) None

-- the lowest bits of each value, as many as its field has; a value that is not there counts 0
abbrev pub low_bits : List ℕ → List ℕ → List ℕ
low_bits [] values = []
low_bits (w ∷ widths) values = get_or values 0 0 % 2 ^ w ∷ low_bits widths (drop 1 values)
