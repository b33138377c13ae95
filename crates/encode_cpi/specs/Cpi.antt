-- What is wanted of maps and entries that the CPI section is made of, and how long it is.
use Rattle.std.specs.Prelude.{ℕ, ◌+◌, ◌*◌, ◌≤◌, ◌≡◌, List, Bool, true, length, leb, Result, Ok, Err}
use Rattle.format.specs.Bytes.{pick, every}
use Rattle.format.specs.ClipRecord.{Row, map_type_of, entry_count, entry_cells}
use Rattle.format.specs.Refusals.{map_fits, entry_fits, every_map}
use Rattle.format.specs.Rewriting.{runs, bodies, cpi_bytes_by}
use Rattle.format.specs.Tables.{add_up, table_rows_of, row_room, map_cells}
use Rattle.refusals.specs.declared.Refusal.{Refusal}

-- the stated rows of both tables are there
pub record BothThere (maps : List ℕ) (n : ℕ) (entries : List ℕ) (m : ℕ) : Type 0 where
  pub maps_there : n ≤ row_room map_cells maps
  pub entries_there : m ≤ row_room entry_cells entries

-- a map's coarse count fits its field, else 31
abbrev pub few_runs : Row → List Row → Bool
few_runs m es = leb (runs es) 65535

-- each entry of a map fits, else 30
abbrev pub entries_fit : Row → List Row → Bool
entries_fit m es = every (entry_fits (map_type_of m)) es

-- the counts add up, there are at most 255 maps, and each map fits
pub record Counted (ms es : List Row) : Type 0 where
  pub add : add_up entry_count ms es ≡ true
  pub few : leb (length ms) 255 ≡ true
  pub fit : every map_fits ms ≡ true

-- maps and entries that can be written: so do the entries, and no map has more runs than it can count
pub record Writable (ms es : List Row) : Type 0 where
  pub counted : Counted ms es
  pub entries_fit_lem : every_map entries_fit ms es ≡ true
  pub runs_few : every_map few_runs ms es ≡ true

-- the first rows of the two tables
abbrev pub map_rows_of : List ℕ → ℕ → List Row
map_rows_of maps n = table_rows_of map_cells maps n

abbrev pub entry_rows_of : List ℕ → ℕ → List Row
entry_rows_of entries m = table_rows_of entry_cells entries m

-- the section's length; 31 where a map has too many runs
unfoldable pub cpi_length_of : List Row → List Row → Result ℕ Refusal
cpi_length_of ms es = pick (every_map few_runs ms es) (Ok (length (cpi_bytes_by ms es))) (Err Refusal.Runs)

-- the length where every entry fits, which is tested first; else 30
unfoldable pub tested_of : List Row → List Row → Result ℕ Refusal
tested_of ms es = pick (every_map entries_fit ms es) (cpi_length_of ms es) (Err Refusal.Cells)

-- the tables are there and what they hold can be written; the length is the section's, and the output has room for it
pub record CpiRoom (maps : List ℕ) (n : ℕ) (entries : List ℕ) (m len size at : ℕ) : Type 0 where
  pub rows_there : BothThere maps n entries m
  pub writable : Writable (map_rows_of maps n) (entry_rows_of entries m)
  pub long : len ≡ length (cpi_bytes_by (map_rows_of maps n) (entry_rows_of entries m))
  pub room : at + len ≤ size

-- the same of headers and bodies, which begin eight bytes behind the section's start and end at `end`
pub record MapsRoom (maps : List ℕ) (n : ℕ) (entries : List ℕ) (m size at end : ℕ) : Type 0 where
  pub rows_there : BothThere maps n entries m
  pub writable : Writable (map_rows_of maps n) (entry_rows_of entries m)
  pub long : at + 8 + 12 * n + length (bodies (map_rows_of maps n) (entry_rows_of entries m)) ≡ end
  pub room : end ≤ size
