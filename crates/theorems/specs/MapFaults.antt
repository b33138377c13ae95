-- 7, 41 and 42 in words: the first map that has a fault, and its first fault, decide on a file's refusal.
use Rattle.std.specs.Prelude.{ℕ, ◌+◌, ◌*◌, ◌<◌, ◌≤◌, ◌≡◌, true, length, take, drop}
use mathlib.Core.List.{List, [], ◌∷◌, ◌++◌, map, Memᴰ}
use Rattle.format.specs.Bytes.{unless, part}
use Rattle.format.specs.ClipRecord.{letters_right, clip_info_in, sequences_start, programs_start, cpi_start, marks_start, sequences_end, marks_in}
use Rattle.format.specs.Programs.{programs_end}
use Rattle.format.specs.EntryPoints.{cpi_end, map_count, body_at, coarse_count_at, fine_start, fine_count_at, cpi_in}
use Rattle.format.specs.Refusals.{refusal_of}
use Rattle.theorems.specs.ListingExample.{listed_file}

-- ---- the faults of a map

-- a byte of the n from place p on that the file does not have
pub record Missing (f : List ℕ) (p n : ℕ) : Type 0 where
  pub place : ℕ
  pub not_before : p ≤ place
  pub not_behind : place < p + n
  pub past_end : length f ≤ place

-- the map whose header is at p, in the CPI that starts at c: its first fault and that fault's number
pub data Fault (f : List ℕ) (c p : ℕ) : ℕ → Type 0 where
  -- its body does not begin before the CPI end
  address : cpi_end f c ≤ body_at f c p → Fault f c p 7
  -- else a byte of its fine address or of its coarse rows is not there
  coarse_rows_lem : body_at f c p < cpi_end f c → Missing f (body_at f c p) (4 + 8 * coarse_count_at f p) → Fault f c p 42
  -- else its fine rows begin behind the CPI end, be it in the file or not
  fine_address : body_at f c p < cpi_end f c → (Missing f (body_at f c p) (4 + 8 * coarse_count_at f p) → ⊥) → cpi_end f c < fine_start f c p → Fault f c p 41
  -- else a byte of them is not there
  fine_rows_lem : body_at f c p < cpi_end f c → (Missing f (body_at f c p) (4 + 8 * coarse_count_at f p) → ⊥) → fine_start f c p ≤ cpi_end f c
      → Missing f (fine_start f c p) (4 * fine_count_at f p) → Fault f c p 42

-- a map without one
abbrev pub Faultless : List ℕ → ℕ → ℕ → Type 0
Faultless f c p = (n : ℕ) → Fault f c p n → ⊥

-- ---- those of a file

-- the header of map k
abbrev pub header_of_map : List ℕ → ℕ → ℕ
header_of_map f k = cpi_start f + 8 + 12 * k

-- the first map that has a fault has it with this number
pub record FirstFault (f : List ℕ) (n : ℕ) : Type 0 where
  pub of : ℕ
  pub counted : of < map_count f (cpi_start f)
  pub fault : Fault f (cpi_start f) (header_of_map f of) n
  pub earlier : (k : ℕ) → k < of → Faultless f (cpi_start f) (header_of_map f k)

-- a file whose maps are looked at: nothing is refused by 20 and 1 to 6
pub record Reached (f : List ℕ) : Type 0 where
  pub size : length f ≤ 536870912
  pub header : 40 ≤ length f
  pub letters : letters_right f ≡ true
  pub clip_info : clip_info_in f ≡ true
  pub sequences : sequences_end f (sequences_start f) ≤ length f
  pub programs : programs_end f (programs_start f) ≤ length f
  pub cpi : cpi_in f (cpi_start f) ≡ true

-- the numbers of a map's faults
abbrev pub of_maps : List ℕ
of_maps = 7 ∷ 41 ∷ 42 ∷ []

-- ---- worked cases

-- the first bytes of the example file of the listing, with other numbers in its map, and what is told of them. Its CPI has the 36 bytes from 232 on,
-- its marks the six from 268 on, where the file ends at 274. Where two maps are stated, the first one's body is read as the second one's header, which
-- has the address 131,079
pub record MapCase : Type 0 where
  pub bytes : ℕ
  pub maps : ℕ
  pub coarse : ℕ
  pub fine : ℕ
  pub address : ℕ
  pub fine_address : ℕ
  pub refusal : ℕ

-- a case, its numbers in that order
abbrev pub case : (bytes maps coarse fine address fine_address refusal : ℕ) → MapCase
case bytes maps coarse fine at fine-at refusal = record {
  bytes = bytes;
  maps = maps;
  coarse = coarse;
  fine = fine;
  address = at;
  fine_address = fine-at;
  refusal = refusal;
}

-- its file
abbrev pub file_of : MapCase → List ℕ
file_of m =
    take m.bytes
    (take 239 listed_file
    ++ (m.maps ∷ (part listed_file 240 5
    ++ (4 * m.coarse ∷ 0 ∷ m.fine ∷ 0 ∷ 0 ∷ 0 ∷ m.address ∷ 0 ∷ 0 ∷ 0 ∷ m.fine_address ∷ drop 256 listed_file))))

-- the whole file, as it is and with one fault: coarse rows, fine address and fine rows at the limit of their test and over it, an address that
-- leaves no room for the coarse row, and one at the CPI end
abbrev pub one_fault : List MapCase
one_fault =
    case 274 1 1 1 14 12 0
    ∷ case 274 1 2 1 14 12 0
    ∷ case 274 1 3 1 14 12 42
    ∷ case 274 1 1 1 14 16 0
    ∷ case 274 1 1 1 14 17 41
    ∷ case 274 1 1 1 14 255 41
    ∷ case 274 1 1 2 14 12 0
    ∷ case 274 1 1 3 14 12 42
    ∷ case 274 1 1 1 29 12 42
    ∷ case 274 1 1 1 30 12 7
    ∷ []

-- two faults in one map; no rows, and no map; a bad address behind a map without a fault, with a bad fine address, with bad fine rows
abbrev pub two_faults : List MapCase
two_faults =
    case 274 1 3 1 30 12 7
    ∷ case 274 1 3 1 14 17 42
    ∷ case 274 1 1 3 14 17 41
    ∷ case 274 1 0 0 14 16 0
    ∷ case 274 1 0 0 14 17 41
    ∷ case 274 0 3 9 30 17 0
    ∷ case 274 2 1 1 14 12 7
    ∷ case 274 2 1 1 14 17 41
    ∷ case 274 2 1 3 14 12 42
    ∷ []

-- a file that ends with its CPI, and leaves the body four, three or one byte, or none; one that ends within its marks; one that ends before its CPI does
abbrev pub cut_short : List MapCase
cut_short =
    case 268 1 0 0 26 12 41
    ∷ case 268 1 0 0 27 12 42
    ∷ case 268 1 0 0 29 12 42
    ∷ case 268 1 0 0 30 12 7
    ∷ case 271 1 1 1 14 12 8
    ∷ case 271 1 1 1 30 12 7
    ∷ case 271 1 1 1 14 17 41
    ∷ case 271 1 1 2 14 12 42
    ∷ case 267 1 1 1 30 12 6
    ∷ []

-- what is told of the file is what is stated
abbrev pub Right : List MapCase → Type 0
Right cases = map (λ m. refusal_of (file_of m)) cases ≡ map (λ m. m.refusal) cases

-- ---- all of it

-- the statements together
pub record MapFaults : Type 0 where
  -- a file whose maps are looked at is refused for the first fault of the first map that has one, whatever its marks are
  pub told : (f : List ℕ) (n : ℕ) → Reached f → FirstFault f n → refusal_of f ≡ n
  -- where none has one, its marks decide
  pub no_fault : (f : List ℕ) → Reached f → ((k : ℕ) → k < map_count f (cpi_start f) → Faultless f (cpi_start f) (header_of_map f k))
      → refusal_of f ≡ unless (marks_in f (marks_start f)) 8 0
  -- and no other file is refused by these numbers
  pub only : (f : List ℕ) → Memᴰ (refusal_of f) of_maps → Reached f × FirstFault f (refusal_of f)
  -- the worked cases
  pub one : Right one_fault
  pub two : Right two_faults
  pub cut : Right cut_short
