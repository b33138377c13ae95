-- Lent tables: row after row, a row its cells, a cell four bytes, the lowest first.
use Rattle.std.specs.Prelude.{ℕ, zero, suc, ◌+◌, ◌*◌, ◌/◌, ◌%◌, ◌^◌, ◌≤◌, ◌≡◌, List, [], ◌∷◌, ◌++◌, Bool, length, get_or, drop, leb, ltb, eqb}
use Rattle.format.specs.Bytes.{rows_at, flat, total}
use Rattle.format.specs.ClipRecord.{Row, Scalars, Clip, entry_cells}

-- ---- cells

-- the number of the n bytes of t from place p, the lowest first
unfoldable pub low_at : List ℕ → ℕ → ℕ → ℕ
low_at t p zero = 0
low_at t p (suc n) = low_at t p n + get_or t (p + n) 0 * 256 ^ n

-- the n bytes of v, the lowest first
unfoldable pub low_bytes : ℕ → ℕ → List ℕ
low_bytes zero v = []
low_bytes (suc n) v = v % 256 ∷ low_bytes n (v / 256)

-- a cell has four bytes: the cell at place p, and the bytes of one
abbrev pub cell_at : List ℕ → ℕ → ℕ
cell_at t p = low_at t p 4

abbrev pub cell_bytes : ℕ → List ℕ
cell_bytes v = low_bytes 4 v

-- ---- rows as bytes, and bytes as rows

-- a row is its cells one behind the other, and a table is its rows
abbrev pub row_bytes_of : Row → List ℕ
row_bytes_of row = flat cell_bytes row

abbrev pub table_bytes : List Row → List ℕ
table_bytes rows = flat row_bytes_of rows

-- a row of so many cells at place p
abbrev pub cells_at : List ℕ → ℕ → ℕ → Row
cells_at t cells p = rows_at (cell_at t) (λ q. q + 4) p cells

-- the first n rows, of so many cells each
unfoldable pub table_rows_of : ℕ → List ℕ → ℕ → List Row
table_rows_of cells t n = rows_at (cells_at t cells) (λ p. p + 4 * cells) 0 n

-- how many whole rows a table has room for
abbrev pub row_room : ℕ → List ℕ → ℕ
row_room cells t = length t / (4 * cells)

-- a table or an output after new bytes were put at its front: what stands beyond them keeps its values
abbrev pub overwritten : List ℕ → List ℕ → List ℕ
overwritten new old = new ++ drop (length new) old

-- ---- the cells of a row, by table

-- tables 1 to 7; that of 6, the entries, stands beside its row; tables 8 and 9 have the cells of 3 and 4
abbrev pub atc_cells : ℕ
atc_cells = 3

abbrev pub stc_cells : ℕ
stc_cells = 4

abbrev pub program_cells : ℕ
program_cells = 3

abbrev pub stream_cells : ℕ
stream_cells = 5

abbrev pub map_cells : ℕ
map_cells = 3

abbrev pub extension_cells : ℕ
extension_cells = 4

-- ---- nine of a kind, one for each table

-- tables 1 to 9 in their order: of each its bytes, its rows or how many rows it has
pub record Nine (A : Type 0) : Type 0 where
  pub atcs : A
  pub stcs : A
  pub programs : A
  pub streams : A
  pub maps : A
  pub entries : A
  pub extensions : A
  pub list_programs : A
  pub list_streams : A

-- one for each table, the same for all
abbrev pub same_nine : {A : Type 0} → A → Nine A
same_nine x = record {
  atcs = x;
  stcs = x;
  programs = x;
  streams = x;
  maps = x;
  entries = x;
  extensions = x;
  list_programs = x;
  list_streams = x;
}

-- what a function gives for each
abbrev pub map_nine : {A B : Type 0} → (A → B) → Nine A → Nine B
map_nine f t = record {
  atcs = f t.atcs;
  stcs = f t.stcs;
  programs = f t.programs;
  streams = f t.streams;
  maps = f t.maps;
  entries = f t.entries;
  extensions = f t.extensions;
  list_programs = f t.list_programs;
  list_streams = f t.list_streams;
}

-- what it gives for two of each
abbrev pub zip_nine : {A B C : Type 0} → (A → B → C) → Nine A → Nine B → Nine C
zip_nine f s t = record {
  atcs = f s.atcs t.atcs;
  stcs = f s.stcs t.stcs;
  programs = f s.programs t.programs;
  streams = f s.streams t.streams;
  maps = f s.maps t.maps;
  entries = f s.entries t.entries;
  extensions = f s.extensions t.extensions;
  list_programs = f s.list_programs t.list_programs;
  list_streams = f s.list_streams t.list_streams;
}

-- each of nine stands in a relation to the same one of nine others
pub record AllNine {A B : Type 0} (R : A → B → Type 0) (s : Nine A) (t : Nine B) : Type 0 where
  pub atcs : R s.atcs t.atcs
  pub stcs : R s.stcs t.stcs
  pub programs : R s.programs t.programs
  pub streams : R s.streams t.streams
  pub maps : R s.maps t.maps
  pub entries : R s.entries t.entries
  pub extensions : R s.extensions t.extensions
  pub list_programs : R s.list_programs t.list_programs
  pub list_streams : R s.list_streams t.list_streams

-- the cells of a row in each table
abbrev pub nine_cells : Nine ℕ
nine_cells = record {
  atcs = atc_cells;
  stcs = stc_cells;
  programs = program_cells;
  streams = stream_cells;
  maps = map_cells;
  entries = entry_cells;
  extensions = extension_cells;
  list_programs = program_cells;
  list_streams = stream_cells;
}

-- ---- tables that are given back, with the rows stated to be in each

-- the bytes may reach beyond the rows stated
pub record Table : Type 0 where
  pub bytes : List ℕ
  pub rows : ℕ

-- a table with the rows stated to be in it
abbrev pub stated : List ℕ → ℕ → Table
stated bytes rows = record { bytes = bytes; rows = rows }

-- not more rows are stated than lent, else 22
abbrev pub is_stated : ℕ → Table → Bool
is_stated cells t = leb t.rows (row_room cells t.bytes)

-- the counts of the headers add up to the rows, else 22
abbrev pub add_up : (Row → ℕ) → List Row → List Row → Bool
add_up count heads rows = eqb (total count heads) (length rows)

-- a row number within the stated rows, else 22
abbrev pub is_row : ℕ → List Row → Bool
is_row k rows = ltb k (length rows)

-- the stated rows, of so many cells each
abbrev pub rows_of : ℕ → Table → List Row
rows_of cells t = table_rows_of cells t.bytes t.rows

-- a record handed over as scalars and tables 1 to 6
pub record ClipTables : Type 0 where
  pub scalars : Scalars
  pub atcs : Table
  pub stcs : Table
  pub programs : Table
  pub streams : Table
  pub maps : Table
  pub entries : Table

-- the record that they hold: the stated rows, and nothing beyond them
unfoldable pub clip_in : ClipTables → Clip
clip_in l = record {
  scalars = l.scalars;
  atcs = rows_of atc_cells l.atcs;
  stcs = rows_of stc_cells l.stcs;
  programs = rows_of program_cells l.programs;
  streams = rows_of stream_cells l.streams;
  maps = rows_of map_cells l.maps;
  entries = rows_of entry_cells l.entries;
}

-- ---- tables that hold a record

-- a table that holds these rows, with anything beyond them
pub record HoldsRows (t : Table) (rows : List Row) : Type 0 where
  pub stated : t.rows ≡ length rows
  pub beyond : List ℕ
  pub bytes : t.bytes ≡ table_bytes rows ++ beyond

-- the scalars and the rows of tables 1 to 6 are those of the record
pub record HoldsClip (l : ClipTables) (c : Clip) : Type 0 where
  pub scalars : l.scalars ≡ c.scalars
  pub atcs : HoldsRows l.atcs c.atcs
  pub stcs : HoldsRows l.stcs c.stcs
  pub programs : HoldsRows l.programs c.programs
  pub streams : HoldsRows l.streams c.streams
  pub maps : HoldsRows l.maps c.maps
  pub entries : HoldsRows l.entries c.entries

-- lent tables with room for their rows; they may be longer and hold anything
abbrev pub Room : Nine (List Row) → Nine (List ℕ) → Type 0
Room rows tables = AllNine ◌≤◌ (map_nine length rows) (zip_nine row_room nine_cells tables)
