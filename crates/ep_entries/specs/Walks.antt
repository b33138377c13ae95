-- The walk over coarse rows.
use Rattle.std.specs.Prelude.{ℕ, ◌+◌, ◌*◌, ◌-◌, ◌≤◌, ◌<◌, ◌≡◌, List, length, eqb}
use Rattle.format.specs.Bytes.{pick, rows_at}
use Rattle.format.specs.ClipRecord.{Row}
use Rattle.format.specs.EntryPoints.{coarse_at, next_coarse, first_fine_of, coarse_time, coarse_packet, step_on, coarse_for}
use Rattle.ep_entries.specs.declared.walk.Walk.{Walk}

-- the first fine row of the first of n coarse rows at p; with none, the fine row `last`
unfoldable pub next_first : List ℕ → ℕ → ℕ → ℕ → ℕ
next_first f p n last = pick (eqb n 0) last (first_fine_of (coarse_at f p))

-- the walk at the first of n coarse rows at p
unfoldable pub walk_at : List ℕ → ℕ → ℕ → ℕ → Walk
walk_at f p n last = record {
  time = coarse_time (coarse_at f p);
  packet = coarse_packet (coarse_at f p);
  end = next_first f (p + 8) (n - 1) last;
  behind = p + 8;
  left = n - 1;
}

-- the rows behind are there, and where the next one begins is known
pub record Steps (f : List ℕ) (last : ℕ) (w : Walk) : Type 0 where
  pub room : w.behind + 8 * w.left ≤ length f
  pub end_is : w.end ≡ next_first f w.behind w.left last

-- a walk over these coarse rows that is right for fine row k and all behind it: from its row, the stepping rule reaches what it reaches from row 0
pub record IsWalk (f : List ℕ) (last : ℕ) (coarse : List Row) (k : ℕ) (w : Walk) : Type 0 where
  pub row : Row
  pub same_time : w.time ≡ coarse_time row
  pub same_packet : w.packet ≡ coarse_packet row
  pub steps : Steps f last w
  pub reaches : (m : ℕ) → k ≤ m → coarse_for coarse m ≡ step_on row (rows_at (coarse_at f) next_coarse w.behind w.left) m

-- a walk that was right for fine row k, over whatever coarse rows, is right for it, and the next row is not reached yet
pub record Reached (f : List ℕ) (last k : ℕ) (from to : Walk) : Type 0 where
  pub reached : (coarse : List Row) → IsWalk f last coarse k from → IsWalk f last coarse k to
  pub beyond : k < to.end
