-- The two sections of header rows with rows behind them, and what writing one asks of its tables.
use Rattle.std.specs.Prelude.{ℕ, ◌+◌, ◌^◌, ◌<◌, ◌≤◌, ◌≡◌, List, ◌++◌, length}
use Rattle.format.specs.Bytes.{end_of, total}
use Rattle.format.specs.ClipRecord.{Row, atc_stc_count, stream_count}
use Rattle.format.specs.Rewriting.{groups, section_bytes}
use Rattle.format.specs.Tables.{table_rows_of, row_room}
use Rattle.row_values.specs.declared.RowKind.{RowKind}
use Rattle.row_values.specs.Kinds.{cells_of, bytes_by}
use Rattle.encode_rows.specs.Rows.{step_of, rows_bytes}
use Rattle.section_heads.specs.declared.Section.{Section}

-- ---- a section's kinds of rows

-- its header rows
abbrev pub head_kind : Section → RowKind
head_kind Section.Sequences = RowKind.Atc
head_kind Section.Programs = RowKind.Program

-- the rows behind each of them
abbrev pub row_kind : Section → RowKind
row_kind Section.Sequences = RowKind.Stc
row_kind Section.Programs = RowKind.Stream

-- how many these are
abbrev pub count_of : Section → Row → ℕ
count_of Section.Sequences head = atc_stc_count head
count_of Section.Programs head = stream_count head

-- ---- its bytes

-- the header rows, each with its own rows
abbrev pub items_of : Section → List Row → List Row → List ℕ
items_of section heads rows = groups (bytes_by (head_kind section)) (count_of section) (bytes_by (row_kind section)) heads rows

-- behind the six bytes of a section
abbrev pub section_of : Section → List Row → List Row → List ℕ
section_of section heads rows = section_bytes (length heads) (items_of section heads rows)

-- ---- rows in tables

-- a header row with its own rows, which stand from byte q of their table on
abbrev pub group_bytes : Section → Row → List ℕ → ℕ → List ℕ
group_bytes section head rows q = bytes_by (head_kind section) head ++ rows_bytes (row_kind section) rows q (count_of section head)

-- the first n header rows of a table
abbrev pub heads_in : Section → List ℕ → ℕ → List Row
heads_in section t n = table_rows_of (cells_of (head_kind section)) t n

-- the first m rows of the other
abbrev pub own_in : Section → List ℕ → ℕ → List Row
own_in section t m = table_rows_of (cells_of (row_kind section)) t m

-- how many rows the first n header rows count
abbrev pub count_in : Section → List ℕ → ℕ → ℕ
count_in section heads n = total (count_of section) (heads_in section heads n)

-- the first n header rows, each with its own rows
abbrev pub items_in : Section → List ℕ → ℕ → List ℕ → List ℕ
items_in section heads n rows = items_of section (heads_in section heads n) (own_in section rows (count_in section heads n))

-- the section of n header rows and m rows
abbrev pub section_in : Section → List ℕ → ℕ → List ℕ → ℕ → List ℕ
section_in section heads n rows m = section_of section (heads_in section heads n) (own_in section rows m)

-- ---- what is asked

-- a header row's own rows are there, and the output has room for them all
pub record GroupThere (section : Section) (head : Row) (rows : List ℕ) (q : ℕ) (out : List ℕ) (at : ℕ) : Type 0 where
  pub rows_end : end_of (step_of (row_kind section)) q (count_of section head) ≤ length rows
  pub room : at + length (group_bytes section head rows q) ≤ length out

-- the header rows and the rows that they count are there, and the output has room for them all
pub record ItemsThere (section : Section) (heads : List ℕ) (n : ℕ) (rows out : List ℕ) (at : ℕ) : Type 0 where
  pub heads_there : n ≤ row_room (cells_of (head_kind section)) heads
  pub rows_there : count_in section heads n ≤ row_room (cells_of (row_kind section)) rows
  pub room : at + length (items_in section heads n rows) ≤ length out

-- the rows are there, and the counts add up
pub record Counted (section : Section) (heads : List ℕ) (n : ℕ) (rows : List ℕ) (m : ℕ) : Type 0 where
  pub heads_there : n ≤ row_room (cells_of (head_kind section)) heads
  pub rows_there : m ≤ row_room (cells_of (row_kind section)) rows
  pub adds : count_in section heads n ≡ m

-- and the section's length is known, is one of 32 bits, and the output has room for it
pub record Storable (section : Section) (heads : List ℕ) (n : ℕ) (rows : List ℕ) (m len : ℕ) (out : List ℕ) (at : ℕ) : Type 0 where
  pub counted : Counted section heads n rows m
  pub is_long : len ≡ length (section_in section heads n rows m)
  pub narrow : len < 2 ^ 32
  pub room : at + len ≤ length out
