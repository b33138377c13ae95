-- The rows that belong to a map: as the code has them, and by the definitions.
use Rattle.std.specs.Prelude.{ℕ, List, Result, Ok, Err}
use Rattle.format.specs.Bytes.{pick}
use Rattle.format.specs.ClipRecord.{Row, entry_count, entry_cells}
use Rattle.format.specs.Questions.{own_rows}
use Rattle.format.specs.Tables.{Table, rows_of, map_cells}
use Rattle.refusals.specs.declared.Refusal.{Refusal}
use Rattle.refusals.specs.Numbers.{number_of}
use Rattle.table_rows.specs.OwnRows.{may_ask}
use Rattle.entry_rows.specs.Entries.{rows_in}
use Rattle.entry_rows.specs.declared.entries.MapEntries.{MapEntries}

-- those that were told, or the refusal's number
abbrev pub rows_read : Result MapEntries Refusal → Result (List Row) ℕ
rows_read (Ok e) = Ok (rows_in e)
rows_read (Err refusal) = Err (number_of refusal)

-- the rows that belong to map m; 22 where rows are not there, counts don't add up, or there is no such map
abbrev pub own_entries : Table → Table → ℕ → Result (List Row) ℕ
own_entries maps entries m =
    pick (may_ask 2 entry_cells maps entries m) (Ok (own_rows entry_count (rows_of map_cells maps) (rows_of entry_cells entries) m)) (Err 22)
