-- The rows of the STCs in a table: as the code has them, and by the definitions.
use Rattle.std.specs.Prelude.{List, Result, Ok, Err}
use Rattle.format.specs.ClipRecord.{Row}
use Rattle.format.specs.Tables.{Table, stated}
use Rattle.refusals.specs.declared.Refusal.{Refusal}
use Rattle.table_rows.specs.AllRows.{rows_in}
use Rattle.sequence_queries.specs.declared.Stcs.{Stcs}

-- the rows of the STCs that there are
abbrev pub stcs_in : Stcs → List Row
stcs_in s = rows_in s.rows

-- the table in which they stand, or the refusal
abbrev pub stcs_told : Result Stcs Refusal → Result Table Refusal
stcs_told (Ok s) = Ok (stated s.rows.bytes.now s.rows.count)
stcs_told (Err refusal) = Err refusal
