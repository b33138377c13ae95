-- What is wanted of a map's entries and of the output before the map's rows are stored.
use Rattle.std.specs.Prelude.{ℕ, ◌+◌, ◌*◌, ◌-◌, ◌^◌, ◌<◌, ◌≤◌, ◌≡◌, List, [], true, length}
use Rattle.format.specs.Bytes.{every}
use Rattle.format.specs.ClipRecord.{Row, map_type_of}
use Rattle.format.specs.Refusals.{entry_fits}
use Rattle.format.specs.Rewriting.{same_run, unless_same, coarse_row, runs, body_bytes, same_keys, coarse_by}
use Rattle.format.specs.Tables.{cells_at, map_cells}
use Rattle.entry_rows.specs.declared.EntryRow.{EntryRow}
use Rattle.entry_rows.specs.Entries.{entries_at}

-- entries of one type, each of which fits
pub record EntriesFit (es : List Row) : Type 0 where
  pub type : ℕ
  pub fit : every (entry_fits type) es ≡ true

-- the coarse row of entry k; none where it is in the run of the entry before it
abbrev pub own_coarse : ℕ → Row → Row → List Row
own_coarse k before e = unless_same (same_run before e) (coarse_row k e) []

-- the same by the numbers of the two
abbrev pub own_by : ℕ → EntryRow → EntryRow → List Row
own_by k before e = unless_same (same_keys before.time before.packet e.time e.packet) (coarse_by k e.time e.packet) []

-- it has room below `to`, and the time fits the row
pub record CoarseRoom (k : ℕ) (before e : EntryRow) (size to : ℕ) : Type 0 where
  pub few : k < 2 ^ 18
  pub narrow : e.time < 2 ^ 33
  pub below : 8 * length (own_by k before e) ≤ to
  pub room : to ≤ size

-- n entries at byte p, of which the fine rows have room from `fine` and the coarse rows below
pub record RowsRoom (t : List ℕ) (p n size fine : ℕ) : Type 0 where
  pub few : n ≤ 262143
  pub fit : EntriesFit (entries_at t p n)
  pub below : 8 * runs (entries_at t p n) ≤ fine
  pub room : fine + 4 * n ≤ size

-- the same of the body, which ends at `end`
pub record BodyRoom (t : List ℕ) (p n size end : ℕ) : Type 0 where
  pub few : n ≤ 262143
  pub fit : EntriesFit (entries_at t p n)
  pub below : length (body_bytes (entries_at t p n)) ≤ end
  pub room : end ≤ size

-- the map of row k of its table, with its n entries at byte p: its header stands in row k of the section at `at`, its body ends at `end`; addresses count from six bytes behind that start
pub record MapRoom (maps : List ℕ) (k : ℕ) (t : List ℕ) (p n size at end : ℕ) : Type 0 where
  pub row_there : 12 * k + 12 ≤ length maps
  pub kind_fits : map_type_of (cells_at maps map_cells (12 * k)) < 2 ^ 4
  pub runs_fit_lem : runs (entries_at t p n) < 2 ^ 16
  pub body_room : BodyRoom t p n size end
  pub header_room : at + 8 + 12 * k + 12 + length (body_bytes (entries_at t p n)) ≤ end
  pub address_fits : end - at < 2 ^ 32
