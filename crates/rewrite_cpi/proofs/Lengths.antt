-- The pass that measures the section.
use Prim.Native.Nat.{ℕ, ◌+◌, ◌*◌, ◌<◌, ◌≤◌}
use mathlib.Core.Path.{◌≡◌, sym, ap, ◌∙◌}
use mathlib.Core.List.{List, [], ◌∷◌}
use mathlib.Core.Bool.{true}
use native.Mathlib.Omega.{arith}
use borrow.Author.Tests.{le-leb, lt-leb}
use lib.ListN.{length, length-append}
use Rattle.format.specs.ClipRecord.{Row}
use Rattle.format.specs.EntryPoints.{entries_of, maps_from, entries_from}
use Rattle.format.specs.Refusals.{every_map}
use Rattle.format.specs.Rewriting.{runs, body_bytes, bodies, cpi_bytes_by}
use Rattle.format.proofs.Cpi.{body_length}
use Rattle.format.proofs.Numbers.{bytes_length}
use Rattle.format.proofs.Read.{own_length}
use Rattle.ep_rows.proofs.Headers.{counts_small}
use Rattle.ep_entries.specs.Body.{CpiSection, body_of, entries_in}
use Rattle.ep_entries.specs.declared.body.MapBody.{MapBody}
use Rattle.ep_entries.proofs.Bodies.{own_count, Left, left_first, left_next}
use Rattle.encode_cpi.specs.Cpi.{few_runs, cpi_length_of}
use Rattle.refusals.specs.declared.Refusal.{Refusal}
use Rattle.std.specs.Prelude.{Ok, Err}
use Rattle.encode_cpi.proofs.Lengths.{cpi_size}
use Rattle.rewrite_cpi.proofs.Maps.{head_at, maps_left, entries_left, maps_all, entries_all, maps_count, maps_done, every_turn, bodies_turn}

-- ---- one map, of which the runs were counted

module _ (f : List ℕ) (c p : ℕ) {r : ℕ} (m : MapBody) (e : m ≡ body_of f c p) (is : r ≡ runs (entries_in f m)) where
  -- they are the runs of its entries
  pub own_runs : r ≡ runs (entries_of f c p)
  own_runs = is ∙ ap (λ (x : MapBody). runs (entries_in f x)) e

  -- how long its body is
  pub own_size : length (body_bytes (entries_of f c p)) ≡ 4 + 8 * r + 4 * m.num_fine
  own_size = omega (arith, body_length (entries_of f c p), own_length f c p, own_runs, own_count f c p m e)

-- without maps the section has four bytes
pub none_size : (ms es : List Row) → length ms ≡ 0 → length (cpi_bytes_by ms es) ≡ 4
none_size [] es z = bytes_length 4 0
none_size (m ∷ ms) es z = absurd (omega arith)

-- ---- the pass

module _ (f : List ℕ) (c count : ℕ) where
  -- no map before map k has too many runs, and they are measured
  pub record MeasuredBefore (len k : ℕ) : Type 0 where
    pub left : Left f c count k
    pub small : len ≤ 8 + 12 * count + 1572856 * k
    pub fits : every_map few_runs (maps_left f c count k) (entries_left f c count k) ≡ every_map few_runs (maps_from f c) (entries_from f c)
    pub rest : len + length (bodies (maps_left f c count k) (entries_left f c count k)) ≡ 8 + 12 * count + length (bodies (maps_from f c) (entries_from f c))

  -- before the first turn
  pub measured_first : CpiSection f c count → MeasuredBefore (8 + 12 * count) 0
  measured_first s = record {
    left = left_first f c count s;
    small = omega arith;
    fits = rw (maps_all f c count s.counted, entries_all f c count s.counted);
    rest = rw (maps_all f c count s.counted, entries_all f c count s.counted);
  }

  module _ (len k : ℕ) (i : MeasuredBefore len k) (h : k < count) {r : ℕ} (m : MapBody) (e : m ≡ body_of f c (head_at f c count k)) (is : r ≡ runs (entries_in f m)) where
    -- its runs
    runs_are : r ≡ runs (entries_of f c (head_at f c count k))
    runs_are = own_runs f c (head_at f c count k) m e is

    -- the map has not too many runs
    pub measured_turn : r ≤ 65535 → MeasuredBefore (len + (4 + 8 * r + 4 * m.num_fine)) (k + 1)
    measured_turn few =
        let own = entries_of f c (head_at f c count k) in
        let later = bodies (maps_left f c count (k + 1)) (entries_left f c count (k + 1)) in
        let passes = le-leb (runs own) 65535 (rw (← runs_are) few) in
        let sizes = ap length (bodies_turn f c count k h) ∙ length-append (body_bytes own) later in
        record {
          left = left_next f c count k h i.left;
          small = omega (arith, i.small, few, own_count f c (head_at f c count k) m e, (counts_small f (head_at f c count k)).1);
          fits = rw (every_turn f c count k h few_runs, passes) at i.fits;
          rest = omega (arith, i.rest, sizes, own_size f c (head_at f c count k) m e is);
        }

    -- it has
    pub measured_refused : 65535 < r → Err Refusal.Runs ≡ cpi_length_of (maps_from f c) (entries_from f c)
    unfolding cpi_length_of
    measured_refused many =
        let fails = lt-leb (runs (entries_of f c (head_at f c count k))) 65535 (rw (← runs_are) many) in
        rw (← i.fits, every_turn f c count k h few_runs, fails)

  -- all are measured
  pub measured_done : (len k : ℕ) → CpiSection f c count → MeasuredBefore len k → count ≤ k → (count ≡ 0 → ⊥) → Ok len ≡ cpi_length_of (maps_from f c) (entries_from f c)
  unfolding cpi_length_of
  measured_done len k s i h some =
      let passes : every_map few_runs (maps_from f c) (entries_from f c) ≡ true = sym i.fits ∙ rw (maps_done f c count k h) in
      let rest = rw (maps_done f c count k h) at i.rest in
      let n = maps_count f c count s.counted in
      let size = cpi_size (maps_from f c) (entries_from f c) (omega arith) in
      let long : len ≡ length (cpi_bytes_by (maps_from f c) (entries_from f c)) = omega arith in
      rw (passes, long)

  -- without maps there are four bytes
  pub measured_none : CpiSection f c count → count ≡ 0 → Ok 4 ≡ cpi_length_of (maps_from f c) (entries_from f c)
  unfolding cpi_length_of
  measured_none s z =
      let first = measured_first s in
      let passes : every_map few_runs (maps_from f c) (entries_from f c) ≡ true = sym first.fits ∙ rw (maps_done f c count 0 (omega arith)) in
      let n = maps_count f c count s.counted in
      let long = none_size (maps_from f c) (entries_from f c) (omega arith) in
      rw (passes, long)
