-- The lowest lent table that is too short.
use Rattle.std.specs.Prelude.{ℕ, ◌*◌, ◌/◌, leb, Result, Ok, Err}
use Rattle.format.specs.Bytes.{pick}
use Rattle.format.specs.ClipRecord.{entry_cells}
use Rattle.format.specs.Tables.{atc_cells, stc_cells, program_cells, stream_cells, map_cells, extension_cells}
use Rattle.nine_tables.specs.declared.Rows.{Rows}
use Rattle.nine_tables.specs.declared.TableShort.{TableShort}

-- whether the bytes of table k have room for so many rows of so many bytes
unfoldable pub room_in : (k size rows bytes : ℕ) → Result (Unit {0}) TableShort
room_in k size rows bytes = pick (leb rows (bytes / size)) (Ok tt) (Err (record { table = k; rows = rows }))

-- table k needs so many rows of so many cells; where its bytes have no room for them it is too short, else the later ones decide
abbrev pub unless_short : (k cells rows bytes : ℕ) → Result (Unit {0}) TableShort → Result (Unit {0}) TableShort
unless_short k cells rows bytes later = pick (leb rows (bytes / (4 * cells))) later (Err (record { table = k; rows = rows }))

-- the lowest of tables 6 to 9 that is too short, with the rows that it needs
unfoldable pub room_behind : Rows → Rows → Result (Unit {0}) TableShort
room_behind rows bytes =
    unless_short 6 entry_cells rows.entries bytes.entries
    (unless_short 7 extension_cells rows.extensions bytes.extensions
    (unless_short 8 program_cells rows.list_programs bytes.list_programs
    (unless_short 9 stream_cells rows.list_streams bytes.list_streams (Ok tt))))

-- the same of all nine
unfoldable pub room_of : Rows → Rows → Result (Unit {0}) TableShort
room_of rows bytes =
    unless_short 1 atc_cells rows.atcs bytes.atcs
    (unless_short 2 stc_cells rows.stcs bytes.stcs
    (unless_short 3 program_cells rows.programs bytes.programs
    (unless_short 4 stream_cells rows.streams bytes.streams
    (unless_short 5 map_cells rows.maps bytes.maps (room_behind rows bytes)))))
