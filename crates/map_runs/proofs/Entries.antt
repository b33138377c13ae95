-- The entries of a map from row k on: how many, and the run that begins there.
use Prim.Native.Nat.{ℕ, zero, suc, ◌+◌, ◌*◌, ◌-◌, ◌<◌, ◌≤◌}
use mathlib.Core.Path.{◌≡◌, ap, ◌∙◌}
use mathlib.Core.List.{List, ◌∷◌}
use native.Mathlib.Omega.{arith}
use lib.ListN.{length, drop}
use Rattle.format.specs.Bytes.{rows_at}
use Rattle.format.specs.ClipRecord.{Row}
use Rattle.format.specs.EntryPoints.{fine_at, next_fine}
use Rattle.format.specs.Rewriting.{coarse_row, coarse_after, runs, body_bytes}
use Rattle.format.proofs.Cpi.{body_length}
use Rattle.format.proofs.Read.{entries_length}
use Rattle.format.proofs.Rows.{rows_length}
use Rattle.runs.specs.Runs.{run_end, end_from, coarse_from}
use Rattle.format.proofs.Read.{runs_few}
use Rattle.runs.proofs.Runs.{run_ends, after_run}
use Rattle.ep_entries.specs.Body.{coarse_in, entries_in, entries_left, entry_in}
use Rattle.ep_entries.specs.declared.body.MapBody.{MapBody}
use Rattle.ep_entries.proofs.Joined.{left_turn}

module _ (f : List ℕ) (m : MapBody) where
  -- how many fine rows there are
  abbrev n : ℕ
  n = m.num_fine

  -- how many they are
  pub left_length : (k : ℕ) → length (entries_left f m k) ≡ n - k
  left_length k =
      entries_length m.kind (coarse_in f m) k (rows_at (fine_at f) next_fine (m.fine + 4 * k) (n - k))
      ∙ rows_length (fine_at f) next_fine (m.fine + 4 * k) (n - k)

  -- all are as many as the fine rows
  pub all_length : length (entries_in f m) ≡ n
  all_length =
      entries_length m.kind (coarse_in f m) 0 (rows_at (fine_at f) next_fine m.fine n)
      ∙ rows_length (fine_at f) next_fine m.fine n

  -- there are not more runs
  pub runs_within : runs (entries_in f m) ≤ n
  runs_within = omega (arith, runs_few (entries_in f m), all_length)

  -- how long the body is
  pub body_size : length (body_bytes (entries_in f m)) ≡ 4 + 8 * runs (entries_in f m) + 4 * n
  body_size = omega (arith, body_length (entries_in f m), all_length)

  -- those behind d of them
  drop_left : (d k : ℕ) → k + d ≤ n → drop d (entries_left f m k) ≡ entries_left f m (k + d)
  drop_left zero k h = let e : k + 0 ≡ k = omega arith in rw e
  drop_left (suc d) k h =
      let e : k + 1 + d ≡ k + suc d = omega arith in
      rw (left_turn f m k (omega arith), ← e) (drop_left d (k + 1) (omega arith))

  -- those from row r on
  pub left_drop : (k r : ℕ) → k ≤ r → r ≤ n → drop (r - k) (entries_left f m k) ≡ entries_left f m r
  left_drop k r h g = let e : k + (r - k) ≡ r = omega arith in rw e at (drop_left (r - k) k (omega arith))

  -- row r lies behind a run that begins at row k: the coarse rows from row k on are its own and those from row r on
  pub record NextRun (k r : ℕ) : Type 0 where
    pub past : k < r
    pub within : r ≤ n
    pub rows : coarse_from k (entries_left f m k) ≡ coarse_row k (entry_in f m k) ∷ coarse_from r (entries_left f m r)

  -- where the run ends that begins at row k
  pub next_run : (k r : ℕ) → k < n → r ≡ end_from k (entries_left f m k) → NextRun k r
  next_run k r h e =
      let x = entry_in f m k in
      let xs = entries_left f m (k + 1) in
      let is : r ≡ run_end x (suc k) xs = rw (left_turn f m k h) at e in
      let ends = run_ends x (suc k) xs in
      let size = left_length (k + 1) in
      let past : k < r = omega (arith, is, ends.past) in
      let within : r ≤ n = omega (arith, is, ends.within, size) in
      let left : r - suc k ≡ r - (k + 1) = omega arith in
      let behind : coarse_after x (suc k) xs ≡ coarse_from r (entries_left f m r) =
      after_run x (suc k) xs ∙ rw (← is, left, left_drop (k + 1) r (omega arith) within) in
      record { past = past; within = within; rows = rw (left_turn f m k h) (ap (λ (l : List Row). coarse_row k x ∷ l) behind) }
