-- Rows that belong to a row of another table: the STCs of an ATC, the streams of a program, the entries of a map.
use Rattle.std.specs.Prelude.{ℕ, ◌+◌, ◌*◌, ◌<◌, ◌≤◌, List, [], ◌∷◌, Bool, true, get_or, Result, Ok, Err}
use Rattle.format.specs.Bytes.{both, pick, rows_at}
use Rattle.format.specs.ClipRecord.{Row, entry_cells}
use Rattle.format.specs.Questions.{first_row}
use Rattle.format.specs.Tables.{Table, is_stated, add_up, is_row, rows_of, cells_at}
use Rattle.refusals.specs.declared.Refusal.{Refusal}
use Rattle.refusals.specs.Numbers.{number_of}
use Rattle.table_rows.specs.declared.own.OwnRows.{OwnRows}

-- the cells of a row with a count: ATCs, programs and maps have as many
abbrev pub head_cells : ℕ
head_cells = 3

-- a count stands in a cell of a header row, and the rows that it counts have cells, no more than an entry's
abbrev pub HasCells : (count cells : ℕ) → Type 0
HasCells count cells = (count < head_cells) × (0 < cells) × (cells ≤ entry_cells)

-- the number in one cell of a row
abbrev pub cell_in : ℕ → Row → ℕ
cell_in cell row = get_or row cell 0

-- the rows are there, and the counts add up
unfoldable pub is_counted : (cell cells : ℕ) → Table → Table → Bool
is_counted cell cells heads rows =
    both (both (is_stated head_cells heads) (both (is_stated cells rows) true)) (add_up (cell_in cell) (rows_of head_cells heads) (rows_of cells rows))

-- and the header row is one of them
unfoldable pub may_ask : (cell cells : ℕ) → Table → Table → ℕ → Bool
may_ask cell cells heads rows head = both (is_counted cell cells heads rows) (is_row head (rows_of head_cells heads))

-- a refusal's number, or the number of the first row and how many there are
pub data Owned : Type 0 where
  refusal : ℕ → Owned
  owns : (first count : ℕ) → Owned

-- the rows, each of so many cells, of a header row whose count stands in one cell
unfoldable pub owned_rows : (cell cells : ℕ) → Table → Table → ℕ → Owned
owned_rows cell cells heads rows head =
    pick (may_ask cell cells heads rows head)
    (owns (first_row (cell_in cell) (rows_of head_cells heads) head) (cell_in cell (get_or (rows_of head_cells heads) head []))) (refusal 22)

-- the code's answer as that of the definition
abbrev pub owned_of : Result OwnRows Refusal → Owned
owned_of (Err r) = refusal (number_of r)
owned_of (Ok rows) = owns rows.first rows.count

-- 01's numbers of an answer: the refusal, the first row, how many. Other numbers are 0
abbrev pub owned_numbers : Owned → List ℕ
owned_numbers (refusal n) = n ∷ 0 ∷ 0 ∷ []
owned_numbers (owns first count) = 0 ∷ first ∷ count ∷ []

-- so many rows from the one with this number
abbrev pub rows_from : (cells : ℕ) → List ℕ → ℕ → ℕ → List Row
rows_from cells t first count = rows_at (cells_at t cells) (λ p. p + 4 * cells) (4 * cells * first) count
