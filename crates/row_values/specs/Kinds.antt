-- The four kinds of rows of the sequences and programs: their cells, and their bytes in a file.
use Rattle.std.specs.Prelude.{ℕ, List, [], ◌∷◌, get_or}
use Rattle.format.specs.ClipRecord.{Row}
use Rattle.format.specs.Rewriting.{atc_bytes, stc_bytes, program_bytes, stream_bytes}
use Rattle.format.specs.Tables.{atc_cells, stc_cells, program_cells, stream_cells}
use Rattle.row_values.specs.declared.RowKind.{RowKind}

-- how many cells a row of the kind has
abbrev pub cells_of : RowKind → ℕ
cells_of RowKind.Atc = atc_cells
cells_of RowKind.Stc = stc_cells
cells_of RowKind.Program = program_cells
cells_of RowKind.Stream = stream_cells

-- the first three cells of a row by value, which has five
abbrev pub row3 : List ℕ → Row
row3 r = get_or r 0 0 ∷ get_or r 1 0 ∷ get_or r 2 0 ∷ []

-- four
abbrev pub row4 : List ℕ → Row
row4 r = get_or r 0 0 ∷ get_or r 1 0 ∷ get_or r 2 0 ∷ get_or r 3 0 ∷ []

-- five
abbrev pub row5 : List ℕ → Row
row5 r = get_or r 0 0 ∷ get_or r 1 0 ∷ get_or r 2 0 ∷ get_or r 3 0 ∷ get_or r 4 0 ∷ []

-- the row that it is: as many of its cells as the kind has
abbrev pub row_of : RowKind → List ℕ → Row
row_of RowKind.Atc r = row3 r
row_of RowKind.Stc r = row4 r
row_of RowKind.Program r = row3 r
row_of RowKind.Stream r = row5 r

-- the bytes of a row of the kind
abbrev pub bytes_by : RowKind → Row → List ℕ
bytes_by RowKind.Atc row = atc_bytes row
bytes_by RowKind.Stc row = stc_bytes row
bytes_by RowKind.Program row = program_bytes row
bytes_by RowKind.Stream row = stream_bytes row
