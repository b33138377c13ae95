-- "Extensions": a block of entries, and the second list of programs that entry (2, 5) may hold. Nothing here refuses a file.
use Rattle.std.specs.Prelude.{ℕ, ◌+◌, ◌*◌, min, List, [], ◌∷◌, map, Bool, false, not, length, get_or, leb, eqb}
use Rattle.format.specs.Bytes.{part, both, pick, be_at, gather}
use Rattle.format.specs.ClipRecord.{Row, Extension, present}
use Rattle.format.specs.Programs.{programs_from, streams_from, programs_end}

-- ---- the block that starts at `start`: u32 block length, u32 ignored, 3 spare bytes, u8 count

-- a length of 0 means no entries; it does not count its own four bytes
abbrev pub block_length : List ℕ → ℕ → ℕ
block_length f start = be_at f start 4

-- the block ends 4 + block length after its start
abbrev pub block_end : List ℕ → ℕ → ℕ
block_end f start = start + 4 + block_length f start

-- the entries that the block gives, those left out among them
abbrev pub extension_count : List ℕ → ℕ → ℕ
extension_count f start = be_at f (start + 11) 1

-- entry: u16 and u16 ids, u32 address counted from the block's start, u32 data length
abbrev pub address_at : List ℕ → ℕ → ℕ
address_at f p = be_at f (p + 4) 4

abbrev pub data_length_at : List ℕ → ℕ → ℕ
data_length_at f p = be_at f (p + 8) 4

-- entries stand one behind the other, 12 bytes each
abbrev pub next_extension : ℕ → ℕ
next_extension p = p + 12

-- the row that table 7 gets of it: the ids, where the data starts in the file, the data's length
abbrev pub extension_at : List ℕ → ℕ → ℕ → Row
extension_at f start p = be_at f p 2 ∷ be_at f (p + 2) 2 ∷ (start + address_at f p) ∷ data_length_at f p ∷ []

-- kept: an address that is not 0, and data that ends within the smaller of block end and file end; else left out
abbrev pub is_kept : List ℕ → ℕ → ℕ → Bool
is_kept f start p =
    both (not (eqb (address_at f p) 0))
    (leb (start + address_at f p + data_length_at f p) (min (block_end f start) (length f)))

-- one row of the entry at p, or no row where it is left out
abbrev pub kept_at : List ℕ → ℕ → ℕ → List Row
kept_at f start p = pick (is_kept f start p) (extension_at f start p ∷ []) []

-- there are entries where the block is present, its length is not 0, and no read fails: 12 bytes, and 12 for each entry
abbrev pub has_extensions : List ℕ → ℕ → Bool
has_extensions f start =
    both (present f start)
    (both (not (eqb (block_length f start) 0)) (leb (start + 12 + 12 * extension_count f start) (length f)))

-- the rows of table 7
unfoldable pub extension_rows : List ℕ → ℕ → List Row
extension_rows f start =
    pick (has_extensions f start) (gather (kept_at f start) next_extension (start + 12) (extension_count f start)) []

-- ---- an extension as the record has it

-- a row of table 7: its ids, and where its data stands
abbrev pub first_id : Row → ℕ
first_id row = get_or row 0 0

abbrev pub second_id : Row → ℕ
second_id row = get_or row 1 0

abbrev pub data_start : Row → ℕ
data_start row = get_or row 2 0

abbrev pub data_length : Row → ℕ
data_length row = get_or row 3 0

-- the data of a row is a part of the file
abbrev pub data_of : List ℕ → Row → List ℕ
data_of f row = part f (data_start row) (data_length row)

-- a row's ids and its data's bytes, without the place
abbrev pub extension_of : List ℕ → Row → Extension
extension_of f row = record { id1 = first_id row; id2 = second_id row; bytes = data_of f row }

-- the data of a row lies inside the file
abbrev pub data_in : List ℕ → Row → Bool
data_in f row = leb (data_start row + data_length row) (length f)

-- the record's extensions, one for each row of table 7
unfoldable pub extensions_from : List ℕ → ℕ → List Extension
extensions_from f start = map (extension_of f) (extension_rows f start)

-- ---- the (2, 5) list

-- the data of the first entry kept with ids (2, 5), if there is one
pub data Found : Type 0 where
  nothing : Found
  found : List ℕ → Found

-- the first counts, even where only a later one could be read as programs
unfoldable pub list_data : List Extension → Found
list_data [] = nothing
list_data (x ∷ later) = pick (both (eqb x.id1 2) (eqb x.id2 5)) (found x.bytes) (list_data later)

-- it is read as programs, taken as a file of its own from 0; if that fails there is no second list
unfoldable pub list_in : Found → Bool
list_in nothing = false
list_in (found d) = leb (programs_end d 0) (length d)

-- the programs of table 8 and the streams of table 9, used only where there is a second list
abbrev pub list_programs_of : Found → List Row
list_programs_of nothing = []
list_programs_of (found d) = programs_from d 0

abbrev pub list_streams_of : Found → List Row
list_streams_of nothing = []
list_streams_of (found d) = streams_from d 0
