-- Rules of reading that only some files meet: a map without coarse rows, and the spare bits before the CPI type.
use Rattle.std.specs.Prelude.{ℕ, ◌+◌, ◌*◌, ◌%◌, ◌^◌, ◌<◌, ◌≡◌, List, [], ◌∷◌, ◌++◌, map, length, get_or, take, drop}
use Rattle.format.specs.Bytes.{rows_at}
use Rattle.format.specs.ClipRecord.{Row, time, packet}
use Rattle.format.specs.EntryPoints.{fine_at, next_fine, fine_start, coarse_count_at, fine_count_at, map_type_at, entries_of, cpi_type, maps_from}
use Rattle.format.specs.Reading.{clip_of}
use Rattle.format.specs.Refusals.{refusal_of}
use Rattle.format.proofs.Lists.{All}
use Rattle.theorems.specs.ListingExample.{listed_file, listed_clip}

-- ---- a map without coarse rows

-- the fine rows of the map whose header is at p
abbrev pub fine_rows : List ℕ → ℕ → ℕ → List Row
fine_rows f c p = rows_at (fine_at f) next_fine (fine_start f c p) (fine_count_at f p)

-- a fine row alone: its four fields are angle, I-end, time in units of 512, packet. The time's upper cell is 0
abbrev pub fine_alone : ℕ → Row → Row
fine_alone type fine = get_or fine 0 0 ∷ get_or fine 1 0 ∷ get_or fine 2 0 * 512 ∷ 0 ∷ get_or fine 3 0 ∷ type ∷ []

-- a time below 2^20, and a packet below 2^17
abbrev pub Low : Row → Type 0
Low e = (time e < 2 ^ 20) × (packet e < 2 ^ 17)

-- the entries are the fine rows alone, with low times and packets
pub record NoCoarseRows (f : List ℕ) (c p : ℕ) : Type 0 where
  pub alone : entries_of f c p ≡ map (fine_alone (map_type_at f p)) (fine_rows f c p)
  pub low : All Low (entries_of f c p)

-- ---- the CPI type

-- the example file of the listing with other bytes where its CPI, at 232, has the type
abbrev pub typed_file : (high low : ℕ) → List ℕ
typed_file high low = take 236 listed_file ++ (high ∷ low ∷ drop 238 listed_file)

-- ---- all of it

-- the statements together
pub record Boundaries : Type 0 where
  pub no_coarse_rows : (f : List ℕ) (c p : ℕ) → coarse_count_at f p ≡ 0 → NoCoarseRows f c p
  -- the type is the low four bits of the second byte behind the length, whatever the other twelve bits are
  pub cpi_type_lem : (before : List ℕ) (high low : ℕ) (behind : List ℕ) (c : ℕ) → length before ≡ c + 4
      → cpi_type (before ++ (high ∷ low ∷ behind)) c ≡ low % 16
  -- so a file with all the other bits set reads as with none, and one of another type has no maps
  pub twelve_bits : (refusal_of (typed_file 0xFF 0xF1) ≡ 0) × (clip_of (typed_file 0xFF 0xF1) ≡ listed_clip)
  pub another_type : (refusal_of (typed_file 0x00 0x02) ≡ 0) × (maps_from (typed_file 0x00 0x02) 232 ≡ [])
