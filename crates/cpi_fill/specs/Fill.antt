-- What putting the entry index into tables relies on.
use Rattle.std.specs.Prelude.{ℕ, ◌+◌, ◌*◌, ◌≤◌, List, length}
use Rattle.format.specs.EntryPoints.{fine_count_at, maps_from, entries_from}
use Rattle.format.specs.ClipRecord.{entry_cells, entry_size}
use Rattle.format.specs.Tables.{row_room, map_cells}
use Rattle.ep_entries.specs.Body.{CpiSection, MapAt}

-- a map's header and body are in the file, and the table has room for its entries
pub record OneMap (f : List ℕ) (c p room at : ℕ) : Type 0 where
  pub map_in_lem : MapAt f c p
  pub fits : at + entry_size * fine_count_at f p ≤ room

-- the section is in the file, and both tables have room
pub record Fill (f : List ℕ) (c count : ℕ) (maps entries : List ℕ) : Type 0 where
  pub section : CpiSection f c count
  pub maps_room : length (maps_from f c) ≤ row_room map_cells maps
  pub entries_room : length (entries_from f c) ≤ row_room entry_cells entries
