-- The entries of a map, met one by one: a turn, and the end of the loop that joins coarse and fine rows.
use Prim.Native.Nat.{ℕ, zero, suc, ◌+◌, ◌*◌, ◌-◌, ◌<◌, ◌≤◌}
use mathlib.Core.Path.{◌≡◌, sym, ap, ap₂, ◌∙◌}
use mathlib.Core.List.{List, [], ◌∷◌, ◌++◌, append_assoc}
use native.Mathlib.Numerals.{add-one}
use native.Mathlib.Omega.{arith}
use lib.ListN.{length}
use lib.Seq.{sets}
use Rattle.format.specs.Bytes.{flat, be_at, unpacked, rows_at}
use Rattle.format.specs.ClipRecord.{Row}
use Rattle.format.specs.EntryPoints.{fine_widths, fine_at, next_fine}
use Rattle.format.proofs.Loops.{one_left, put_more}
use Rattle.format.proofs.Rows as Rows
use Rattle.format.proofs.Rows.{rows_all, rows_length, flat_length}
use Rattle.ep_entries.specs.Body.{coarse_in, entries_in, entries_left, entry_in}
use Rattle.ep_entries.specs.Entries.{entry_by, stretch_bytes}
use Rattle.ep_entries.specs.Walks.{walk_at, IsWalk}
use Rattle.ep_entries.proofs.Walks.{walk_step, walk_stop, walk_later}
use Rattle.ep_entries.specs.declared.body.MapBody.{MapBody}
use Rattle.ep_entries.specs.declared.walk.Walk.{Walk}

-- ---- the entries of a map from fine row k on

module _ (f : List ℕ) (m : MapBody) where
  -- before the first turn all are left
  pub left_all : entries_left f m 0 ≡ entries_in f m
  left_all = rw (Rows.left_all (fine_at f) 4 m.fine m.num_fine)

  -- with a turn to go, row k and those behind it
  pub left_turn : (k : ℕ) → k < m.num_fine → entries_left f m k ≡ entry_in f m k ∷ entries_left f m (k + 1)
  left_turn k h = rw (Rows.left_turn (fine_at f) 4 m.fine m.num_fine k h, add-one k)

  -- at the end none
  pub left_done : (k : ℕ) → m.num_fine ≤ k → entries_left f m k ≡ []
  left_done k h = rw (Rows.left_done (fine_at f) 4 m.fine m.num_fine k h)

  module _ (bytes : Row → List ℕ) (size : ℕ) (w : Walk) where
    -- an entry under the walk's coarse row
    abbrev row : ℕ → Row
    row q = entry_by m.kind w.time w.packet (fine_at f q)

    -- where the walk is right and its next row is not reached before `end`: a stretch under its coarse row, and those behind it
    stretch_left : (d k : ℕ) → k + d ≤ m.num_fine → k + d ≤ w.end → IsWalk f m.num_fine (coarse_in f m) k w
        → flat bytes (entries_left f m k) ≡ flat bytes (rows_at row next_fine (m.fine + 4 * k) d) ++ flat bytes (entries_left f m (k + d))
    stretch_left zero k h g i = let e : k + 0 ≡ k = omega arith in rw e
    stretch_left (suc d) k h g i =
        let q = m.fine + 4 * k in
        let at = walk_stop f m.num_fine (coarse_in f m) k w i (omega arith) in
        let here : entry_in f m k ≡ row q = rw (at.0, at.1) in
        let b : m.fine + 4 * (k + 1) ≡ q + 4 = omega arith in
        let e : k + 1 + d ≡ k + suc d = omega arith in
        let later = rw (b, e) at (stretch_left d (k + 1) (omega arith) (omega arith) (walk_later f m.num_fine (coarse_in f m) k (k + 1) w (omega arith) i)) in
        rw b at (ap (flat bytes) (left_turn k (omega arith))) ∙ ap₂ (λ (x y : List ℕ). x ++ y) (ap bytes here) later
        ∙ sym (append_assoc (bytes (row q)) (flat bytes (rows_at row next_fine (q + 4) d)) (flat bytes (entries_left f m (k + suc d))))

    module _ (long : (kind time packet : ℕ) (fine : Row) → length (bytes (entry_by kind time packet fine)) ≡ size) where
      -- how many bytes a stretch has
      stretch_length : (p d : ℕ) → length (flat bytes (rows_at row next_fine p d)) ≡ size * d
      stretch_length p d =
          flat_length size bytes (rows_all row next_fine (λ q. long m.kind w.time w.packet (fine_at f q)) p d)
          ∙ ap (λ (n : ℕ). size * n) (rows_length row next_fine p d)

      -- a stretch is stored; what is left goes behind it
      stretch_put : (k end : ℕ) (t : List ℕ) (at : ℕ) {t' whole : List ℕ} → k ≤ end → end ≤ w.end → end ≤ m.num_fine → IsWalk f m.num_fine (coarse_in f m) k w
          → t' ≡ sets t (at + size * k) (stretch_bytes bytes f m.kind w.time w.packet m.fine k end)
          → sets t (at + size * k) (flat bytes (entries_left f m k)) ≡ whole → sets t' (at + size * end) (flat bytes (entries_left f m end)) ≡ whole
      stretch_put k end t at h b n i p whole =
          let d = end - k in
          let back : k + d ≡ end = omega arith in
          let split = rw back at (stretch_left d k (omega arith) (omega arith) i) in
          let place : at + size * k + size * d ≡ at + size * (k + d) = omega arith in
          rw (place, back) at (put_more t (at + size * k) (size * d) (stretch_bytes bytes f m.kind w.time w.packet m.fine k end) (flat bytes (entries_left f m end)) (stretch_length (m.fine + 4 * k) d) p (rw split at whole))

-- ---- the loop over coarse rows

module _ (bytes : Row → List ℕ) (size : ℕ) (f : List ℕ) (m : MapBody) (t₀ : List ℕ) (at : ℕ) where
  -- what holds before each turn: the entries before fine row k are stored, and the walk is right for it
  pub record Filled (t : List ℕ) (w : Walk) (k : ℕ) : Type 0 where
    pub within : k ≤ m.num_fine
    pub walk : IsWalk f m.num_fine (coarse_in f m) k w
    pub same : length t ≡ length t₀
    pub rest : sets t (at + size * k) (flat bytes (entries_left f m k)) ≡ sets t₀ at (flat bytes (entries_in f m))

  module _ (t : List ℕ) (w : Walk) (k : ℕ) (g : Filled t w k) where
    -- a stretch up to fine row `end`, before which the next coarse row is not reached, is stored
    pub filled_stretch : ((kind time packet : ℕ) (fine : Row) → length (bytes (entry_by kind time packet fine)) ≡ size)
        → (end : ℕ) {t' : List ℕ} → k ≤ end → end ≤ w.end → end ≤ m.num_fine → length t' ≡ length t
        → t' ≡ sets t (at + size * k) (stretch_bytes bytes f m.kind w.time w.packet m.fine k end) → Filled t' w end
    filled_stretch long end h b n same p = record {
      within = n;
      walk = walk_later f m.num_fine (coarse_in f m) k end w h g.walk;
      same = same ∙ g.same;
      rest = stretch_put f m bytes size w long k end t at h b n g.walk p g.rest;
    }

    -- a step to a coarse row that is reached
    pub filled_step : {w' : Walk} → w.end ≤ k → w.end < m.num_fine → w' ≡ walk_at f w.behind w.left m.num_fine → Filled t w' k
    filled_step h b e = record {
      within = g.within;
      walk = rw e (walk_step f m.num_fine (coarse_in f m) k w g.walk h b);
      same = g.same;
      rest = g.rest;
    }

  -- with no fine row left all is stored
  pub filled_done : (t : List ℕ) (w : Walk) → Filled t w m.num_fine → t ≡ sets t₀ at (flat bytes (entries_in f m))
  filled_done t w g = rw (left_done f m m.num_fine (omega arith)) at g.rest

-- ---- one stretch

module _ (bytes : Row → List ℕ) (size : ℕ) (long : (kind time packet : ℕ) (fine : Row) → length (bytes (entry_by kind time packet fine)) ≡ size)
    (f : List ℕ) (type time packet fine end k : ℕ) where
  -- a turn stores the entry of fine row k
  pub stretch_turn : (t : List ℕ) (at x : ℕ) {t' whole : List ℕ} → k < end → x ≡ be_at f (fine + 4 * k) 4
      → t' ≡ sets t (at + size * k) (bytes (entry_by type time packet (unpacked fine_widths x)))
      → sets t (at + size * k) (stretch_bytes bytes f type time packet fine k end) ≡ whole → sets t' (at + size * (k + 1)) (stretch_bytes bytes f type time packet fine (k + 1) end) ≡ whole
  stretch_turn t at x h e p i =
      let q = fine + 4 * k in
      let rest = flat bytes (rows_at (λ q. entry_by type time packet (fine_at f q)) next_fine (q + 4) (end - (k + 1))) in
      let p' = rw e at p in
      let i' = rw (one_left end k h) at i in
      let done = put_more t (at + size * k) size (bytes (entry_by type time packet (fine_at f q))) rest (long type time packet (fine_at f q)) p' i' in
      let a : at + size * (k + 1) ≡ at + size * k + size = omega arith in
      let b : fine + 4 * (k + 1) ≡ fine + 4 * k + 4 = omega arith in
      rw (a, b) done
