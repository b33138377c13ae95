-- A table all whose stated rows are there: its rows as the code has them, and by the definitions.
use Rattle.std.specs.Prelude.{ℕ, List, Result, Ok, Err}
use Rattle.format.specs.Bytes.{pick}
use Rattle.format.specs.ClipRecord.{Row}
use Rattle.format.specs.Tables.{Table, stated, is_stated, table_rows_of}
use Rattle.refusals.specs.declared.Refusal.{Refusal}
use Rattle.table_rows.specs.declared.rows.Rows.{Rows}

-- the rows that there are
abbrev pub rows_in : {cells : _} → Rows cells → List Row
rows_in {cells} r = table_rows_of cells r.bytes.now r.count

-- the table in which they stand, or the refusal
abbrev pub all_told : {cells : _} → Result (Rows cells) Refusal → Result Table Refusal
all_told (Ok r) = Ok (stated r.bytes.now r.count)
all_told (Err refusal) = Err refusal

-- a table with all its stated rows; refused where more are stated than there are
abbrev pub all_stated : ℕ → Table → Result Table Refusal
all_stated cells t = pick (is_stated cells t) (Ok t) (Err Refusal.Rows)
