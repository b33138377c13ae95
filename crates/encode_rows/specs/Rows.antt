-- Rows of a table from any of its bytes on.
use Rattle.std.specs.Prelude.{ℕ, ◌+◌, ◌*◌, List}
use Rattle.format.specs.Bytes.{rows_at, flat}
use Rattle.format.specs.ClipRecord.{Row}
use Rattle.format.specs.Tables.{cells_at}
use Rattle.row_values.specs.declared.RowKind.{RowKind}
use Rattle.row_values.specs.Kinds.{cells_of, bytes_by}

-- where the row behind the one at byte p stands
abbrev pub step_of : RowKind → ℕ → ℕ
step_of kind p = p + 4 * cells_of kind

-- n rows from byte p on
abbrev pub rows_in : RowKind → List ℕ → ℕ → ℕ → List Row
rows_in kind t p n = rows_at (cells_at t (cells_of kind)) (step_of kind) p n

-- their bytes in a file
abbrev pub rows_bytes : RowKind → List ℕ → ℕ → ℕ → List ℕ
rows_bytes kind t p n = flat (bytes_by kind) (rows_in kind t p n)
