-- Entries met one by one: what a turn shows, up to the end of a run and from run to run.
use Prim.Native.Nat.{ℕ, ◌+◌, ◌*◌, ◌<◌, ◌≤◌}
use mathlib.Core.Path.{◌≡◌, sym, ap, ◌∙◌}
use mathlib.Core.List.{List}
use mathlib.Core.Bool.{Bool, true, false}
use native.Mathlib.Numerals.{add-one}
use native.Mathlib.Omega.{arith}
use lib.ListN.{length}
use Rattle.format.specs.Bytes.{be_at, unpacked}
use Rattle.format.specs.ClipRecord.{time, packet}
use Rattle.format.specs.EntryPoints.{fine_widths}
use Rattle.format.specs.Rewriting.{same_run, runs, same_keys}
use Rattle.format.proofs.Fields.{time_cells}
use Rattle.ep_entries.specs.Body.{coarse_in, entries_in, entries_left, entry_in}
use Rattle.ep_entries.specs.Entries.{joined}
use Rattle.ep_entries.specs.Walks.{IsWalk, Reached}
use Rattle.ep_entries.specs.declared.body.MapBody.{MapBody}
use Rattle.entry_rows.specs.declared.EntryRow.{EntryRow}
use Rattle.ep_entries.specs.declared.walk.Walk.{Walk}
use Rattle.ep_entries.proofs.Walks.{walk_stop, walk_later}
use Rattle.ep_entries.proofs.Joined.{left_all, left_turn, left_done}
use Rattle.runs.specs.Runs.{run_end, coarse_from}
use Rattle.runs.proofs.Runs.{coarse_all}
use Rattle.map_runs.specs.Entries.{AtRow, IsMet, IsEnd, Along, Under, under}
use Rattle.map_runs.specs.declared.walked.Met.{Met}
use Rattle.map_runs.specs.declared.walked.RunEnd.{RunEnd}
use Rattle.map_runs.proofs.Entries.{next_run}

module _ (f : List ℕ) (m : MapBody) where
  -- the walk reached row k, and its word was joined there
  pub met_is : (k : ℕ) (from : Walk) (x : ℕ) (walk : Walk) (entry : EntryRow) → AtRow f m k from → Reached f m.num_fine k from walk
      → x ≡ be_at f (m.fine + 4 * k) 4 → entry ≡ joined m.kind walk.time walk.packet (unpacked fine_widths x)
      → IsMet f m k (record { walk = walk; entry = entry })
  met_is k from x walk entry a r w e =
      let is = r.reached (coarse_in f m) a.walk_is in
      let at = walk_stop f m.num_fine (coarse_in f m) k walk is r.beyond in
      record { walk_is = is; entry_is = rw (e, w, at.0, at.1) }

  -- its time is that of the entry
  pub met_time : (k : ℕ) (r : Met) → IsMet f m k r → r.entry.time ≡ time (entry_in f m k)
  met_time k r i = sym (time_cells r.entry.time) ∙ ap time i.entry_is

  -- so is its packet
  pub met_packet : (k : ℕ) (r : Met) → IsMet f m k r → r.entry.packet ≡ packet (entry_in f m k)
  met_packet k r i = ap packet i.entry_is

  -- a walk that is right for row k is right for those behind it
  pub later : (k r : ℕ) (w : Walk) → k ≤ r → IsWalk f m.num_fine (coarse_in f m) k w → IsWalk f m.num_fine (coarse_in f m) r w
  later k r w h i = walk_later f m.num_fine (coarse_in f m) k r w h i

  -- ---- the search for the end of the run that begins at row `from`

  module _ (from : ℕ) where
    -- before the first turn
    pub along_first : (first : Met) → IsMet f m from first → from < m.num_fine → Along f m from first.walk (from + 1)
    along_first first known h = record {
      past = omega arith;
      within = omega arith;
      walk_is = later from (from + 1) first.walk (omega arith) known.walk_is;
      rest = rw (left_turn f m from h, add-one);
    }

    module _ (first : Met) (known : IsMet f m from first) (walk : Walk) (k : ℕ) (i : Along f m from walk k) (h : k < m.num_fine) (met : Met) (here : IsMet f m k met) where
      -- row k is compared with the run's first
      same_as : {s : Bool} → s ≡ same_keys first.entry.time first.entry.packet met.entry.time met.entry.packet
          → s ≡ same_run (entry_in f m from) (entry_in f m k)
      same_as e = e ∙ rw (met_time from first known, met_packet from first known, met_time k met here, met_packet k met here)

      -- it is in the run
      pub along_turn : {s : Bool} → s ≡ same_keys first.entry.time first.entry.packet met.entry.time met.entry.packet
          → s ≡ true → Along f m from met.walk (k + 1)
      unfolding run_end
      along_turn {s = s} e y =
          let same : same_run (entry_in f m from) (entry_in f m k) ≡ true = sym (same_as e) ∙ y in
          record {
            past = omega (arith, i.past);
            within = omega arith;
            walk_is = later k (k + 1) met.walk (omega arith) here.walk_is;
            rest = rw add-one (rw (left_turn f m k h, same, add-one) at i.rest);
          }

      -- it is the first behind the run
      pub along_stop : {s : Bool} → s ≡ same_keys first.entry.time first.entry.packet met.entry.time met.entry.packet
          → s ≡ false → IsEnd f m from (record { row = k; walk = met.walk })
      unfolding run_end
      along_stop {s = s} e y =
          let other : same_run (entry_in f m from) (entry_in f m k) ≡ false = sym (same_as e) ∙ y in
          record { row_is = rw (left_turn f m k h, other) at i.rest; walk_is = here.walk_is }

    -- the run ends with the entries
    pub along_done : (walk : Walk) (k : ℕ) → Along f m from walk k → m.num_fine ≤ k → IsEnd f m from (record { row = m.num_fine; walk = walk })
    unfolding run_end
    along_done walk k i h =
        let last : m.num_fine ≡ k = omega (arith, i.within) in
        record { row_is = last ∙ rw (left_done f m k h) at i.rest; walk_is = later k m.num_fine walk i.within i.walk_is }

  -- ---- the fine rows under one coarse row

  module _ (from end : ℕ) (w : Walk) (u : Under f m from end w) where
    -- row k of them uses the walk's coarse row
    under_met : (k : ℕ) → from ≤ k → k < end → IsMet f m k (record { walk = w; entry = under f m k w })
    under_met k h g =
        let is = later from k w h u.walk_is in
        let at = walk_stop f m.num_fine (coarse_in f m) k w is (omega (arith, u.before)) in
        record { walk_is = is; entry_is = rw (at.0, at.1) }

    module _ (first : Met) where
      -- up to row k each is in the run of the entry
      abbrev pub Going : ℕ → Type 0
      Going k = (start : ℕ) → IsMet f m start first → Along f m start w from → Along f m start w k

      -- before any is looked at
      pub going_first : Going from
      going_first start known a = a

      module _ (k : ℕ) (h : from ≤ k) (g : k < end) (i : Going k) {s : Bool} (is : s ≡ same_keys first.entry.time first.entry.packet (under f m k w).time (under f m k w).packet) where
        -- row k is too
        pub going_on : s ≡ true → Going (k + 1)
        going_on y start known a =
            along_turn start first known w k (i start known a) (omega (arith, g, u.within)) (record { walk = w; entry = under f m k w }) (under_met k h g) is y

        -- row k is not
        pub going_stop : s ≡ false → (from ≤ k) × (k < end) × ((start : ℕ) → IsMet f m start first → Along f m start w from → IsEnd f m start (record { row = k; walk = w }))
        going_stop y = (
          h,
          g,
          λ start known a.
              along_stop start first known w k (i start known a) (omega (arith, g, u.within)) (record { walk = w; entry = under f m k w }) (under_met k h g) is y,
        )

      -- all are
      pub going_done : (k : ℕ) → k ≡ end → Going k → (start : ℕ) → IsMet f m start first → Along f m start w from → Along f m start w end
      going_done k z i = rw z at i

  -- ---- from run to run

  -- the runs that were counted up to row k, and those from there on
  pub record Counted (walk : Walk) (count k : ℕ) : Type 0 where
    pub within : k ≤ m.num_fine
    pub small : count ≤ k
    pub walk_is : IsWalk f m.num_fine (coarse_in f m) k walk
    pub rest : count + length (coarse_from k (entries_left f m k)) ≡ runs (entries_in f m)

  -- before the first turn
  pub counted_first : (walk : Walk) → IsWalk f m.num_fine (coarse_in f m) 0 walk → Counted walk 0 0
  unfolding runs
  counted_first walk w =
      record { within = omega arith; small = omega arith; walk_is = w; rest = rw (left_all f m, coarse_all (entries_in f m)) (omega arith) }

  -- one more run is counted
  pub counted_turn : (walk : Walk) (count k : ℕ) (r : RunEnd) → Counted walk count k → k < m.num_fine → IsEnd f m k r → Counted r.walk (count + 1) r.row
  counted_turn walk count k r i h e =
      let next = next_run f m k r.row h e.row_is in
      let rest = rw next.rows at i.rest in
      record { within = next.within; small = omega (arith, next.past, i.small); walk_is = e.walk_is; rest = omega arith }

  -- all are counted
  pub counted_done : (walk : Walk) (count k : ℕ) → Counted walk count k → m.num_fine ≤ k → count ≡ runs (entries_in f m)
  counted_done walk count k i h = let rest = rw (left_done f m k h) at i.rest in omega arith

  -- the next run begins behind this one
  pub end_past : (k : ℕ) (r : RunEnd) → k < m.num_fine → IsEnd f m k r → k < r.row
  end_past k r h e = (next_run f m k r.row h e.row_is).past
