-- The walk over coarse rows: where it starts, its step, and where it stops.
use Prim.Native.Nat.{ℕ, zero, suc, ◌+◌, ◌*◌, ◌-◌, ◌<◌, ◌≤◌}
use mathlib.Core.Path.{◌≡◌, refl, sym, ap, ◌∙◌}
use mathlib.Core.List.{List, [], ◌∷◌}
use native.Mathlib.Omega.{arith}
use lib.ListN.{length}
use borrow.Author.Tests.{eq-eqb, ne_eqb, le-leb, lt-leb}
use Rattle.format.specs.Bytes.{be_at, unpacked, rows_at}
use Rattle.format.specs.ClipRecord.{Row}
use Rattle.format.specs.EntryPoints.{coarse_widths, coarse_at, next_coarse, first_fine_of, coarse_time, coarse_packet, step_on, coarse_for}
use Rattle.ep_rows.specs.Rows.{coarse_of}
use Rattle.ep_rows.specs.declared.CoarseRow.{CoarseRow}
use Rattle.ep_entries.specs.Walks.{next_first, walk_at, Steps, IsWalk}
use Rattle.ep_entries.specs.declared.walk.Walk.{Walk}

-- with rows left, the next one's first fine row
pub next_some : (f : List ℕ) (p n last : ℕ) → (n ≡ 0 → ⊥) → first_fine_of (coarse_at f p) ≡ next_first f p n last
unfolding next_first
next_some f p n last h = rw (ne_eqb n 0 h)

-- with no row left, the last
pub next_none : (f : List ℕ) (p n last : ℕ) → n ≡ 0 → last ≡ next_first f p n last
unfolding next_first
next_none f p n last h = rw (eq-eqb n 0 h)

-- a next row that begins before the last is there
some_left : (f : List ℕ) (p n last : ℕ) → next_first f p n last < last → 0 < n
some_left f p zero last h = let e = next_none f p 0 last refl in absurd (omega arith)
some_left f p (suc n) last h = omega arith

-- rows, where there are some, are one and the rest behind it
one_more : (n : ℕ) → 0 < n → n ≡ suc (n - 1)
one_more n h = omega arith

-- a row that is stepped to is there, and the rows behind it
pub steps_on : (f : List ℕ) (last : ℕ) (w : Walk) → Steps f last w → w.end < last → (0 < w.left) × Steps f last (walk_at f w.behind w.left last)
unfolding walk_at
steps_on f last w s h =
    let some : 0 < w.left = some_left f w.behind w.left last (rw s.end_is at h) in
    let room = s.room in
    (some, record { room = omega arith; end_is = refl })

module _ (f : List ℕ) (last : ℕ) (coarse : List Row) where
  -- the walk at a row that is stepped to
  pub walk_step : (k : ℕ) (w : Walk) → IsWalk f last coarse k w → w.end ≤ k → w.end < last → IsWalk f last coarse k (walk_at f w.behind w.left last)
  unfolding walk_at
  walk_step k w i h b =
      let n = w.left in
      let p = w.behind in
      let e = i.steps.end_is in
      let on = steps_on f last w i.steps b in
      let some : 0 < n = on.0 in
      let z : n ≡ suc (n - 1) = one_more n some in
      let ne : n ≡ 0 → ⊥ = λ q. omega arith in
      let reached : first_fine_of (coarse_at f p) ≤ k = omega (arith, next_some f p n last ne) in
      record {
        row = coarse_at f p;
        same_time = refl;
        same_packet = refl;
        steps = on.1;
        reaches = λ m l. i.reaches m l ∙ ap (λ (x : ℕ). step_on i.row (rows_at (coarse_at f) next_coarse p x) m) z ∙ stepped i.row p (n - 1) m (omega arith);
      }
    where
      stepped : (c : Row) (p n m : ℕ) → first_fine_of (coarse_at f p) ≤ m
          → step_on c (rows_at (coarse_at f) next_coarse p (suc n)) m ≡ step_on (coarse_at f p) (rows_at (coarse_at f) next_coarse (p + 8) n) m
      stepped c p n m h = rw (step_on, le-leb (first_fine_of (coarse_at f p)) m h)

  -- a walk whose next row is not reached is at the row that fine row k uses
  pub walk_stop : (k : ℕ) (w : Walk) → IsWalk f last coarse k w → k < w.end → (w.time ≡ coarse_time (coarse_for coarse k)) × (w.packet ≡ coarse_packet (coarse_for coarse k))
  walk_stop k w i h =
      let e : coarse_for coarse k ≡ i.row = i.reaches k (omega arith) ∙ stays i.row w.behind w.left (rw i.steps.end_is at h) in
      (i.same_time ∙ ap coarse_time (sym e), i.same_packet ∙ ap coarse_packet (sym e))
    where
      stays : (c : Row) (p n : ℕ) → k < next_first f p n last → step_on c (rows_at (coarse_at f) next_coarse p n) k ≡ c
      stays c p zero h = refl
      stays c p (suc n) h =
          let ne : suc n ≡ 0 → ⊥ = λ q. omega arith in
          rw (step_on, lt-leb (first_fine_of (coarse_at f p)) k (omega (arith, next_some f p (suc n) last ne)))

  -- right for row k, right for those behind it
  pub walk_later : (k end : ℕ) (w : Walk) → k ≤ end → IsWalk f last coarse k w → IsWalk f last coarse end w
  walk_later k end w h i = record {
    row = i.row;
    same_time = i.same_time;
    same_packet = i.same_packet;
    steps = i.steps;
    reaches = λ m l. i.reaches m (omega arith);
  }

-- the walk at the first of n rows
pub walk_first : (f : List ℕ) (p n last : ℕ) → 0 < n → p + 8 * n ≤ length f → IsWalk f last (rows_at (coarse_at f) next_coarse p n) 0 (walk_at f p n last)
unfolding walk_at
walk_first f p n last h r =
    let z = one_more n h in
    record {
      row = coarse_at f p;
      same_time = refl;
      same_packet = refl;
      steps = record { room = omega arith; end_is = refl };
      reaches = λ m l. ap (λ (x : ℕ). coarse_for (rows_at (coarse_at f) next_coarse p x) m) z;
    }

-- the walk with no rows
pub walk_none : (f : List ℕ) (p n last : ℕ) (w : Walk) → n ≡ 0 → p ≤ length f
    → w ≡ record { time = 0; packet = 0; end = last; behind = p; left = 0 } → IsWalk f last (rows_at (coarse_at f) next_coarse p n) 0 w
walk_none f p n last w z r e =
    rw (e, z) (record {
      row = 0 ∷ 0 ∷ 0 ∷ [];
      same_time = refl;
      same_packet = refl;
      steps = record { room = omega arith; end_is = next_none f p 0 last refl };
      reaches = λ m l. refl;
    })

-- ---- a coarse row that was read

-- fields unpacked from the eight bytes at p are those of the coarse row there
pub coarse_read : (f : List ℕ) (p w : ℕ) (r : CoarseRow) → w ≡ be_at f p 8 → r ≡ coarse_of (unpacked coarse_widths w) → r ≡ coarse_of (coarse_at f p)
coarse_read f p w r e h = h ∙ rw e

-- its time and packet, and the first fine row of the next one, make the walk at that row
pub walk_is : (f : List ℕ) (p n last end : ℕ) (r : CoarseRow) → r ≡ coarse_of (coarse_at f p) → end ≡ next_first f (p + 8) (n - 1) last
    → record { time = r.time; packet = r.packet; end = end; behind = p + 8; left = n - 1 } ≡ walk_at f p n last
unfolding walk_at
walk_is f p n last end r e h = rw (e, h)

-- ---- the loop that steps on

-- what holds before each turn
pub record Walking (f : List ℕ) (last k : ℕ) (from w : Walk) : Type 0 where
  pub steps : Steps f last w
  pub still : (coarse : List Row) → IsWalk f last coarse k from → IsWalk f last coarse k w

-- a step to a row that is reached keeps what holds
pub walking_on : (f : List ℕ) (last k : ℕ) (from w : Walk) {w' : Walk} → Walking f last k from w → w.end ≤ k → w.end < last
    → w' ≡ walk_at f w.behind w.left last → Walking f last k from w'
walking_on f last k from w g h b e =
    rw e (record { steps = (steps_on f last w g.steps b).1; still = λ coarse i. walk_step f last coarse k w (g.still coarse i) h b })

-- a turn leaves a row less
pub walking_less : (f : List ℕ) (last : ℕ) (w : Walk) {w' : Walk} → Steps f last w → w.end < last
    → w' ≡ walk_at f w.behind w.left last → w'.left < w.left
unfolding walk_at
walking_less f last w s h e = let on = steps_on f last w s h in rw e (omega arith)
