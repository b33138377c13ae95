-- The two forms of a lookup, on tables and on a row of records, answer alike.
use Rattle.std.specs.Prelude.{ℕ, ◌≡◌, List, map, true}
use Rattle.format.specs.ClipRecord.{entry_count, time, entry_cells}
use Rattle.format.specs.Tables.{Table, rows_of, is_stated, add_up, is_row, map_cells}
use Rattle.format.specs.Questions.{ask, entry_point_at_or_before, entry_point_after, seek_spn, next_seek_spn, indexed_span_90k, ticks90, own_rows, at_or_before, after, seek, next_seek, span_of}
use Rattle.queries.specs.Asked.{maps_and_entries}
use Rattle.ep_entry_steps.specs.declared.EpEntry.{EpEntry}
use Rattle.ep_entry_steps.specs.Records.{as_rows}

-- the entries of map m of the tables are these records, and nothing is refused
pub record HasEntries (maps entries : Table) (m : ℕ) (es : List EpEntry) : Type 0 where
  pub maps_there : is_stated map_cells maps ≡ true
  pub entries_there : is_stated entry_cells entries ≡ true
  pub adds_up : add_up entry_count (rows_of map_cells maps) (rows_of entry_cells entries) ≡ true
  pub map_there : is_row m (rows_of map_cells maps) ≡ true
  pub own : own_rows entry_count (rows_of map_cells maps) (rows_of entry_cells entries) m ≡ as_rows es

-- what is asked of the tables is answered as the contracts of the calls on records say
pub record FormsAlike (maps entries : Table) (m : ℕ) (es : List EpEntry) : Type 0 where
  pub at_or_before_is : (at : ℕ) → ask (entry_point_at_or_before m (record { ticks = at })) (maps_and_entries maps entries) ≡ at_or_before (map time (as_rows es)) at
  pub after_is : (at : ℕ) → ask (entry_point_after m (record { ticks = at })) (maps_and_entries maps entries) ≡ after (map time (as_rows es)) at
  pub seek_is : (at : ℕ) → ask (seek_spn m (record { ticks = at })) (maps_and_entries maps entries) ≡ seek (as_rows es) at
  pub next_seek_is : (at : ℕ) → ask (next_seek_spn m (record { ticks = at })) (maps_and_entries maps entries) ≡ next_seek (as_rows es) at
  pub span_is : ask (indexed_span_90k m) (maps_and_entries maps entries) ≡ ticks90 (span_of (as_rows es))
