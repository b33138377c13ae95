-- What the reader's methods answer.
use Rattle.std.specs.Prelude.{ℕ, ◌+◌, ◌<◌, ◌^◌, ◌≡◌, List, [], length, leb, Option, Some, None}
use Rattle.format.specs.Bytes.{part, be_at, pick}
use Rattle.common.specs.declared.reader.Reader.{Reader}

-- the reader at the front
abbrev pub start : Reader
start = record { pos = 0 }

-- the reader at p, where p is not past the end
abbrev pub moved_to : List ℕ → ℕ → Option Reader
moved_to f p = pick (leb p (length f)) (Some (record { pos = p })) None

-- n bytes from p, none where they pass the end
abbrev pub part_at : List ℕ → ℕ → ℕ → List ℕ
part_at f p n = pick (leb (p + n) (length f)) (part f p n) []

-- the number of n bytes at p and the reader behind it, where the bytes do not pass the end
abbrev pub number_at : List ℕ → ℕ → ℕ → Option (ℕ × Reader)
number_at f p n = pick (leb (p + n) (length f)) (Some (be_at f p n, record { pos = p + n })) None

-- the number that was read, 0 where none was
abbrev pub value_of : Option (ℕ × Reader) → ℕ
value_of (Some (v, next)) = v
value_of None = 0

-- what a read of n bytes at p answers
pub record NumberIs (f : List ℕ) (p n : ℕ) (r : Option (ℕ × Reader)) : Type 0 where
  pub same : r ≡ number_at f p n
  pub below : value_of r < 256 ^ n
