-- The rows of a table whose rows are of one kind.
use Rattle.std.specs.Prelude.{List}
use Rattle.format.specs.ClipRecord.{Row}
use Rattle.format.specs.Tables.{table_rows_of}
use Rattle.row_limits.specs.Kinds.{table_cells}
use Rattle.limits.specs.declared.rows.KindRows.{KindRows}

-- those stated to be in it
abbrev pub rows_of_kind : KindRows → List Row
rows_of_kind r = table_rows_of (table_cells r.kind) r.table.bytes.now r.table.rows
