-- The entries of one map as rows.
use Rattle.std.specs.Prelude.{ℕ, ◌+◌, List}
use Rattle.format.specs.Bytes.{rows_at}
use Rattle.format.specs.ClipRecord.{Row, entry_cells, entry_size}
use Rattle.format.specs.Tables.{cells_at}
use Rattle.entry_rows.specs.declared.entries.MapEntries.{MapEntries}

-- the n entries at byte p of a table
abbrev pub entries_at : List ℕ → ℕ → ℕ → List Row
entries_at t p n = rows_at (cells_at t entry_cells) (λ q. q + entry_size) p n

-- those that a map has
abbrev pub rows_in : MapEntries → List Row
rows_in e = entries_at e.bytes.now e.first e.count
