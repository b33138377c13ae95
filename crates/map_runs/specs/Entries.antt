-- What is wanted and known of a map's entries in a file, where they are met one by one.
use Rattle.std.specs.Prelude.{ℕ, ◌+◌, ◌*◌, ◌≤◌, ◌<◌, ◌≡◌, List, length, Option, None, Some}
use Rattle.format.specs.Bytes.{be_at, unpacked}
use Rattle.format.specs.EntryPoints.{fine_widths}
use Rattle.format.specs.Rewriting.{runs, body_bytes}
use Rattle.ep_entries.specs.Body.{coarse_in, entries_in, entries_left, entry_in, RowsIn}
use Rattle.entry_rows.specs.Reads.{row_of}
use Rattle.entry_rows.specs.declared.EntryRow.{EntryRow}
use Rattle.ep_entries.specs.Entries.{joined}
use Rattle.ep_entries.specs.Walks.{IsWalk}
use Rattle.ep_entries.specs.declared.body.MapBody.{MapBody}
use Rattle.ep_entries.specs.declared.walk.Walk.{Walk}
use Rattle.runs.specs.Runs.{run_end, end_from}
use Rattle.map_runs.specs.declared.walked.Met.{Met}
use Rattle.map_runs.specs.declared.walked.RunEnd.{RunEnd}

-- row k is one of a map that is in the file, and the walk is right for it
pub record AtRow (f : List ℕ) (m : MapBody) (k : ℕ) (w : Walk) : Type 0 where
  pub rows : RowsIn f m
  pub there : k < m.num_fine
  pub walk_is : IsWalk f m.num_fine (coarse_in f m) k w

-- row k's entry, and a walk that is right for it
pub record IsMet (f : List ℕ) (m : MapBody) (k : ℕ) (r : Met) : Type 0 where
  pub walk_is : IsWalk f m.num_fine (coarse_in f m) k r.walk
  pub entry_is : row_of r.entry ≡ entry_in f m k

-- where the run ends that begins at row k, and a walk that is right for what is behind
pub record IsEnd (f : List ℕ) (m : MapBody) (k : ℕ) (r : RunEnd) : Type 0 where
  pub row_is : r.row ≡ end_from k (entries_left f m k)
  pub walk_is : IsWalk f m.num_fine (coarse_in f m) r.row r.walk

-- an output of so many bytes has room for the coarse rows from `at`
pub record CoarseRoom (f : List ℕ) (m : MapBody) (size at : ℕ) : Type 0 where
  pub rows : RowsIn f m
  pub room : at + 8 * runs (entries_in f m) ≤ size

-- it has room for the body
pub record BodyRoom (f : List ℕ) (m : MapBody) (size at : ℕ) : Type 0 where
  pub rows : RowsIn f m
  pub room : at + length (body_bytes (entries_in f m)) ≤ size

-- up to row k the run that begins at row `from` goes on, and the walk is right for row k
pub record Along (f : List ℕ) (m : MapBody) (from : ℕ) (walk : Walk) (k : ℕ) : Type 0 where
  pub past : from < k
  pub within : k ≤ m.num_fine
  pub walk_is : IsWalk f m.num_fine (coarse_in f m) k walk
  pub rest : run_end (entry_in f m from) k (entries_left f m k) ≡ end_from from (entries_left f m from)

-- fine row k's entry under the walk's coarse row
abbrev pub under : List ℕ → MapBody → ℕ → Walk → EntryRow
under f m k w = joined m.kind w.time w.packet (unpacked fine_widths (be_at f (m.fine + 4 * k) 4))

-- fine rows `from` up to `end`, one at least, of a map that is in the file use the walk's coarse row
pub record Under (f : List ℕ) (m : MapBody) (from end : ℕ) (w : Walk) : Type 0 where
  pub rows : RowsIn f m
  pub some : from < end
  pub within : end ≤ m.num_fine
  pub before : end ≤ w.end
  pub walk_is : IsWalk f m.num_fine (coarse_in f m) from w

-- the run of an entry that goes on to the first of them ends at the row that is told, or goes on past them all
abbrev pub OutsideIs : (f : List ℕ) (m : MapBody) (from end : ℕ) (w : Walk) (first : Met) → Option ℕ → Type 0
OutsideIs f m from end w first (Some r) = (from ≤ r) × (r < end) × ((start : ℕ) → IsMet f m start first → Along f m start w from → IsEnd f m start (record { row = r; walk = w }))
OutsideIs f m from end w first None = (start : ℕ) → IsMet f m start first → Along f m start w from → Along f m start w end
