-- The loops that store the coarse rows and the fine rows of a map from the file.
use Prim.Native.Nat.{ℕ, ◌+◌, ◌*◌, ◌^◌, ◌<◌, ◌≤◌}
use mathlib.Core.Path.{◌≡◌, refl, ap, ◌∙◌}
use mathlib.Core.List.{List}
use native.Mathlib.Omega.{arith}
use lib.ListN.{length}
use lib.Seq.{sets, length-sets}
use Rattle.format.specs.Bytes.{packed, flat}
use Rattle.format.specs.EntryPoints.{coarse_widths, fine_at, fine_time, coarse_time, coarse_for, join_time}
use Rattle.format.specs.Rewriting.{coarse_row, coarse_rows, runs, coarse_bytes, coarse_by}
use Rattle.format.proofs.Fields.{time_cells}
use Rattle.format.proofs.Loops.{put_more}
use Rattle.format.proofs.Numbers.{bytes_length}
use Rattle.format.proofs.Read.{time_facts}
use Rattle.ep_entries.specs.Body.{coarse_in, entries_in, entries_left, entry_in}
use Rattle.entry_rows.specs.Reads.{row_of}
use Rattle.ep_entries.specs.Walks.{IsWalk}
use Rattle.ep_entries.specs.declared.body.MapBody.{MapBody}
use Rattle.ep_entries.specs.declared.walk.Walk.{Walk}
use Rattle.ep_entries.proofs.Joined.{left_all}
use Rattle.runs.specs.Runs.{end_from, coarse_from}
use Rattle.runs.proofs.Runs.{coarse_all}
use Rattle.encode_map.proofs.Bodies.{Narrow}
use Rattle.map_runs.specs.Entries.{IsMet, IsEnd}
use Rattle.map_runs.specs.declared.walked.Met.{Met}
use Rattle.map_runs.specs.declared.walked.RunEnd.{RunEnd}
use Rattle.map_runs.proofs.Entries.{next_run}
use Rattle.map_runs.proofs.Turns.{met_time, met_packet}

-- angle, I-end and time of an entry that was read are as narrow as the rows that are stored want them
pub met_narrow : (f : List ℕ) (m : MapBody) (k : ℕ) (r : Met) → IsMet f m k r → Narrow (row_of r.entry)
met_narrow f m k r i =
    let coarse = coarse_time (coarse_for (coarse_in f m) k) in
    let fine = fine_time (fine_at f (m.fine + 4 * k)) in
    let below = (time_facts coarse fine (omega arith)).0 in
    rw i.entry_is (record { angle_fits = omega arith; end_fits = omega arith; time_fits = rw (time_cells (join_time coarse fine)) (omega (arith, below)) })

-- so with its time by itself
pub met_below : (f : List ℕ) (m : MapBody) (k : ℕ) (r : Met) → IsMet f m k r → r.entry.time < 2 ^ 33
met_below f m k r i = rw (time_cells r.entry.time) at (met_narrow f m k r i).time_fits

module _ (f : List ℕ) (m : MapBody) (o₀ : List ℕ) (at : ℕ) where
  -- ---- coarse rows

  -- those up to row k are stored, and those from there on go to `to`
  pub record Coarse (o : List ℕ) (walk : Walk) (to k : ℕ) : Type 0 where
    pub within : k ≤ m.num_fine
    pub walk_is : IsWalk f m.num_fine (coarse_in f m) k walk
    pub long : length o ≡ length o₀
    pub place : to + 8 * length (coarse_from k (entries_left f m k)) ≡ at + 8 * runs (entries_in f m)
    pub rest : sets o to (flat coarse_bytes (coarse_from k (entries_left f m k))) ≡ sets o₀ at (flat coarse_bytes (coarse_rows (entries_in f m)))

  -- before the first turn
  pub coarse_first : (walk : Walk) → IsWalk f m.num_fine (coarse_in f m) 0 walk → Coarse o₀ walk at 0
  unfolding runs
  coarse_first walk w = record {
    within = omega arith;
    walk_is = w;
    long = refl;
    place = rw (left_all f m, coarse_all (entries_in f m));
    rest = rw (left_all f m, coarse_all (entries_in f m));
  }

  module _ (o : List ℕ) (walk : Walk) (to k : ℕ) (i : Coarse o walk to k) (h : k < m.num_fine) where
    -- there is room for the row
    pub coarse_room : at + 8 * runs (entries_in f m) ≤ length o₀ → to + 8 ≤ length o
    coarse_room room =
        let next = next_run f m k (end_from k (entries_left f m k)) h refl in
        let place = rw next.rows at i.place in
        omega (arith, place, room, i.long)

    -- it is stored
    pub coarse_turn : (first : Met) (r : RunEnd) {o' : List ℕ} → IsMet f m k first → IsEnd f m k r
        → o' ≡ sets o to (coarse_bytes (coarse_by k first.entry.time first.entry.packet)) → Coarse o' r.walk (to + 8) r.row
    coarse_turn first r {o' = o'} known e put =
        let next = next_run f m k r.row h e.row_is in
        let x = entry_in f m k in
        let rest = flat coarse_bytes (coarse_from r.row (entries_left f m r.row)) in
        let put' : o' ≡ sets o to (coarse_bytes (coarse_row k x)) = put ∙ rw (met_time f m k first known, met_packet f m k first known) in
        record {
          within = next.within;
          walk_is = e.walk_is;
          long = ap length put' ∙ length-sets o to (coarse_bytes (coarse_row k x)) ∙ i.long;
          place = let place = rw next.rows at i.place in omega arith;
          rest = put_more o to 8 (coarse_bytes (coarse_row k x)) rest (bytes_length 8 (packed coarse_widths (coarse_row k x))) put' (rw next.rows at i.rest);
        }
