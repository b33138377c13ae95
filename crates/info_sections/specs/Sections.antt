-- The two sections of header rows with rows behind them, read: their rows by the kind of section, the counts of both, and what filling asks.
use Rattle.std.specs.Prelude.{ℕ, ◌+◌, ◌*◌, ◌≤◌, ◌≡◌, List, length, leb, Option, Some, None}
use Rattle.format.specs.Bytes.{pick, be_at}
use Rattle.format.specs.ClipRecord.{Row, atc_at, stcs_of, next_atc, atcs_from, stcs_from, sequences_end}
use Rattle.format.specs.Programs.{program_at, streams_of, next_program, programs_from, streams_from, programs_end}
use Rattle.format.specs.Tables.{row_room, stc_cells, stream_cells}
use Rattle.section_heads.specs.declared.Section.{Section}
use Rattle.info_sections.specs.declared.SectionCounts.{SectionCounts}

-- ---- one header row and its own rows

-- the header row at p
abbrev pub head_at : Section → List ℕ → ℕ → Row
head_at Section.Sequences f p = atc_at f p
head_at Section.Programs f p = program_at f p

-- where it says how many rows stand behind it
abbrev pub count_place : Section → ℕ → ℕ
count_place Section.Sequences p = p + 4
count_place Section.Programs p = p + 6

-- these rows
abbrev pub group_rows : Section → List ℕ → ℕ → List Row
group_rows Section.Sequences f p = stcs_of f p
group_rows Section.Programs f p = streams_of f p

-- the cells of each
abbrev pub own_cells : Section → ℕ
own_cells Section.Sequences = stc_cells
own_cells Section.Programs = stream_cells

-- the next header row, behind them
abbrev pub next_head : Section → List ℕ → ℕ → ℕ
next_head Section.Sequences f p = next_atc f p
next_head Section.Programs f p = next_program f p

-- ---- the section that starts at `start`

-- its header rows
abbrev pub heads_from : Section → List ℕ → ℕ → List Row
heads_from Section.Sequences f start = atcs_from f start
heads_from Section.Programs f start = programs_from f start

-- the rows behind them
abbrev pub section_rows : Section → List ℕ → ℕ → List Row
section_rows Section.Sequences f start = stcs_from f start
section_rows Section.Programs f start = streams_from f start

-- its end
abbrev pub section_end : Section → List ℕ → ℕ → ℕ
section_end Section.Sequences f start = sequences_end f start
section_end Section.Programs f start = programs_end f start

-- the counts of both, told
abbrev pub counts_told : (heads rows : ℕ) → Option SectionCounts
counts_told heads rows = Some (record { heads = heads; rows = rows })

-- how many of both it has, where it ends within the file
unfoldable pub section_measured : Section → List ℕ → ℕ → Option SectionCounts
section_measured section f start =
    pick (leb (section_end section f start) (length f))
    (counts_told (length (heads_from section f start)) (length (section_rows section f start)))
    None

-- ---- what is asked

-- the header row at p says n rows, they end within the file, and both tables have room
pub record GroupThere (section : Section) (f : List ℕ) (p n : ℕ) (heads : List ℕ) (at : ℕ) (rows : List ℕ) (to : ℕ) : Type 0 where
  pub says : n ≡ be_at f (count_place section p) 1
  pub ends : next_head section f p ≤ length f
  pub head_room : at + 12 ≤ length heads
  pub rows_room : to + 4 * own_cells section * n ≤ length rows

-- the section ends within the file, and each table has room for its rows
pub record Fillable (section : Section) (f : List ℕ) (start : ℕ) (heads rows : List ℕ) : Type 0 where
  pub ends : section_end section f start ≤ length f
  pub heads_room : length (heads_from section f start) ≤ row_room 3 heads
  pub rows_room : length (section_rows section f start) ≤ row_room (own_cells section) rows
