-- The listing by the cases of reading: its refusals character by character, each map with its own entries, and its tables of 4,096 rows.
use Rattle.std.specs.Prelude.{ℕ, ◌+◌, ◌≤◌, ◌<◌, ◌≡◌, List, [], ◌∷◌, ◌++◌, map, length}
use Rattle.format.specs.Reading.{record_of}
use Rattle.format.specs.Refusals.{Stated, refused, too_short, accepted, read_answer}
use Rattle.format.specs.Listing.{line, map_lines, record_lines, listing_tables, listing}
use Rattle.format.proofs.Lists.{All}
use Rattle.theorems.specs.Owners.{own_joined, Entry, Map, map_row, entries_as_rows}
use Rattle.theorems.specs.TooShort.{all_needs}

-- the word "refused", a space, some characters and a newline
abbrev pub refused_text : List ℕ → List ℕ
refused_text numbers = 114 ∷ 101 ∷ 102 ∷ 117 ∷ 115 ∷ 101 ∷ 100 ∷ 32 ∷ (numbers ++ (10 ∷ []))

-- "ep" with time and packet
abbrev pub entry_text : Entry → List ℕ
entry_text e = line (101 ∷ 112 ∷ []) (e.time ∷ e.packet ∷ [])

-- "map" with PID, type and how many entries, then its entries
abbrev pub map_text : Map → List ℕ
map_text m = line (109 ∷ 97 ∷ 112 ∷ []) (m.pid ∷ m.type ∷ length m.entries ∷ []) ++ own_joined entry_text m.entries

-- the statements together; a digit is 48 and its value
pub record ListingText : Type 0 where
  -- "refused 20" for an input of over 65,536 bytes
  pub too_long : (f : List ℕ) → 65536 < length f → listing f ≡ refused_text (50 ∷ 48 ∷ [])
  -- a file's other refusals have one digit
  pub file : (f : List ℕ) (n : ℕ) → length f ≤ 65536 → read_answer f listing_tables ≡ refused n → n < 10 → listing f ≡ refused_text ((48 + n) ∷ [])
  -- "refused 21" and the table
  pub table : (f : List ℕ) (k n : ℕ) → length f ≤ 65536 → read_answer f listing_tables ≡ too_short k n → k < 10
      → listing f ≡ refused_text (50 ∷ 49 ∷ 32 ∷ (48 + k) ∷ [])
  -- each table has room for 4,096 rows
  pub room : (f : List ℕ) → All (λ n. n.room ≡ 4096) (all_needs f listing_tables)
  -- else the record
  pub listed : (f : List ℕ) (s : Stated) → length f ≤ 65536 → read_answer f listing_tables ≡ accepted s → listing f ≡ record_lines (record_of f)
  pub maps : (ms : List Map) → map_lines (map map_row ms) (own_joined entries_as_rows ms) ≡ own_joined map_text ms
