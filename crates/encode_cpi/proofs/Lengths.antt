-- How long the section is, and the pass that measures it and tests the entries.
use Rattle.std.proofs.Common.{Option, Some, None, Ok, Err}
use Prim.Native.Nat.{ℕ, ◌+◌, ◌*◌, ◌<◌, ◌≤◌}
use mathlib.Core.Path.{◌≡◌, refl, sym, ap, ◌∙◌}
use mathlib.Core.List.{List, [], ◌∷◌, ◌++◌}
use mathlib.Core.Bool.{Bool, true, false, ◌&&◌}
use native.Mathlib.Omega.{arith}
use lib.Dec.{leb}
use lib.ListN.{length, length-append}
use Rattle.format.specs.Bytes.{both, every, field_bytes}
use Rattle.format.specs.ClipRecord.{Row, map_type_of, entry_cells, entry_size}
use Rattle.format.specs.Refusals.{entry_fits, every_map}
use Rattle.format.specs.Rewriting.{body_bytes, bodies, headers, cpi_bytes_by}
use Rattle.format.specs.Tables.{table_rows_of, map_cells}
use Rattle.format.proofs.Cpi.{headers_length}
use Rattle.format.proofs.Numbers.{bytes_length}
use Rattle.format.proofs.Tests.{both_assoc, picked, not_picked}
use Rattle.cells.specs.Reads.{CellIs}
use Rattle.table_rows.proofs.Scans.{left_all, left_done}
use Rattle.format.proofs.Cell.{row_cell}
use Rattle.entry_rows.specs.Entries.{entries_at}
use Rattle.entry_runs.specs.Fitting.{count_fit}
use Rattle.entry_runs.proofs.Choices.{runs_told, unfit_told}
use Rattle.encode_map.proofs.Bodies.{body_size, runs_within}
use Rattle.encode_cpi.specs.Cpi.{Counted, few_runs, entries_fit, map_rows_of, entry_rows_of, cpi_length_of, tested_of}
use Rattle.refusals.specs.declared.Refusal.{Refusal}
use Rattle.encode_cpi.proofs.Maps.{maps_left, entries_left, map_row, maps_count, Walk, walk_first, walk_turn, count_few, every_turn, bodies_turn}

-- ---- lists

-- the section's first eight bytes
abbrev pub top_bytes : ℕ → ℕ → List ℕ
top_bytes n size = field_bytes (4 ∷ 2 ∷ 1 ∷ 1 ∷ []) ((4 + 12 * n + size) ∷ 1 ∷ 0 ∷ n ∷ [])

-- there are eight
pub top_length : (n size : ℕ) → length (top_bytes n size) ≡ 8
top_length n size = simp (length-append, bytes_length)

-- where there are maps, the section is these, the headers and the bodies
pub cpi_parts : (ms es : List Row) → 0 < length ms
    → cpi_bytes_by ms es ≡ top_bytes (length ms) (length (bodies ms es)) ++ (headers ms es (2 + 12 * length ms) ++ bodies ms es)
cpi_parts [] es h = absurd (omega arith)
cpi_parts (m ∷ ms) es h = refl

-- so its length is theirs
pub cpi_size : (ms es : List Row) → 0 < length ms → length (cpi_bytes_by ms es) ≡ 8 + 12 * length ms + length (bodies ms es)
cpi_size ms es h =
    let n = length ms in
    let rows = bodies ms es in
    let heads = headers ms es (2 + 12 * n) in
    ap length (cpi_parts ms es h)
    ∙ rw (length-append (top_bytes n (length rows)) (heads ++ rows), top_length n (length rows), length-append heads rows, headers_length ms es (2 + 12 * n)) (omega arith)

-- ---- the pass

-- a test before one that passes
before_true : (a : Bool) → both a true ≡ a
before_true true = refl
before_true false = refl

-- both of two tests
pub and_both : (a b : Bool) → a && b ≡ both a b
and_both true b = refl
and_both false b = refl

module _ (maps : List ℕ) (n : ℕ) (entries : List ℕ) (m : ℕ) where
  -- the entries of the first k maps fit, whether one of these has too many runs is told, and they are measured
  pub record MeasuredTo (len : ℕ) (few : Bool) (j k : ℕ) : Type 0 where
    pub walk : Walk maps n entries m j k
    pub small : len ≤ 8 + 12 * n + 3145720 * k
    pub fit : every_map entries_fit (maps_left maps n entries m k) (entries_left maps n entries m j) ≡ every_map entries_fit (map_rows_of maps n) (entry_rows_of entries m)
    pub runs_few : both few (every_map few_runs (maps_left maps n entries m k) (entries_left maps n entries m j)) ≡ every_map few_runs (map_rows_of maps n) (entry_rows_of entries m)
    pub rest : len + length (bodies (maps_left maps n entries m k) (entries_left maps n entries m j)) ≡ 8 + 12 * n + length (bodies (map_rows_of maps n) (entry_rows_of entries m))

  -- before the first map the top and the headers are
  pub measured_first : Counted (map_rows_of maps n) (entry_rows_of entries m) → MeasuredTo (8 + 12 * n) true 0 0
  measured_first c = record {
    walk = walk_first maps n entries m c;
    small = omega arith;
    fit = rw (left_all map_cells maps n, left_all entry_cells entries m);
    runs_few = rw (left_all map_cells maps n, left_all entry_cells entries m);
    rest = rw (left_all map_cells maps n, left_all entry_cells entries m);
  }

  module _ (len : ℕ) (few : Bool) (j k : ℕ) (i : MeasuredTo len few j k) (h : k < n) {type c : ℕ} (kind : CellIs maps (12 * k + 4) type) (cell : CellIs maps (12 * k + 8) c)
      {told : Option ℕ} (is : told ≡ count_fit type (entries_at entries (entry_size * j) c)) where
    -- the map's own entries
    abbrev own : List Row
    own = entries_at entries (entry_size * j) c

    -- its type
    type_is : type ≡ map_type_of (map_row maps n entries m k)
    type_is = row_cell maps 3 (12 * k) 1 (omega arith) refl kind.same

    -- the entries left: its own, and those of the maps behind it
    fit_turn : both (every (entry_fits type) own) (every_map entries_fit (maps_left maps n entries m (k + 1)) (entries_left maps n entries m (j + c)))
        ≡ every_map entries_fit (map_rows_of maps n) (entry_rows_of entries m)
    fit_turn = rw type_is (rw (every_turn maps n entries m j k i.walk h cell entries_fit) at i.fit)

    -- an entry does not fit
    pub measured_unfit : told ≡ None → Err Refusal.Cells ≡ tested_of (map_rows_of maps n) (entry_rows_of entries m)
    unfolding tested_of
    measured_unfit u =
        let fails = unfit_told type own is u in
        rw (← fit_turn, fails)

    module _ {r : ℕ} (counted : told ≡ Some r) where
      -- there are not more runs than entries
      pub runs_within_count : r ≤ c
      runs_within_count = omega (arith, (runs_told type own is counted).1, runs_within entries (entry_size * j) c)

      -- they fit
      pub measured_turn : {few' : Bool} → few' ≡ both few (leb r 65535) → MeasuredTo (len + (4 + 8 * r + 4 * c)) few' (j + c) (k + 1)
      measured_turn still =
          let all = runs_told type own is counted in
          let later = bodies (maps_left maps n entries m (k + 1)) (entries_left maps n entries m (j + c)) in
          let behind = every_map few_runs (maps_left maps n entries m (k + 1)) (entries_left maps n entries m (j + c)) in
          let size = body_size entries (entry_size * j) c in
          let rest = rw (bodies_turn maps n entries m j k i.walk h cell, length-append (body_bytes own) later, size, ← all.1) at i.rest in
          record {
            walk = walk_turn maps n entries m j k i.walk h cell;
            small = omega (arith, i.small, runs_within_count, count_few maps n entries m j k i.walk h cell);
            fit = rw all.0 at fit_turn;
            runs_few = rw (still, both_assoc few (leb r 65535) behind, all.1) (rw (every_turn maps n entries m j k i.walk h cell few_runs) at i.runs_few);
            rest = omega arith;
          }

  -- all are measured
  module _ (len : ℕ) (few : Bool) (j k : ℕ) (i : MeasuredTo len few j k) (h : n ≤ k) where
    -- every entry fits
    all_fit : every_map entries_fit (map_rows_of maps n) (entry_rows_of entries m) ≡ true
    all_fit = sym i.fit ∙ rw (left_done map_cells maps n k h)

    -- whether a map has too many runs
    few_is : few ≡ every_map few_runs (map_rows_of maps n) (entry_rows_of entries m)
    few_is = sym (before_true few) ∙ rw (left_done map_cells maps n k h) at i.runs_few

    -- one has
    pub measured_many : few ≡ false → Err Refusal.Runs ≡ tested_of (map_rows_of maps n) (entry_rows_of entries m)
    unfolding tested_of cpi_length_of
    measured_many y = rw (all_fit, ← few_is, y)

    -- none has
    pub measured_done : few ≡ true → (n ≡ 0 → ⊥) → Ok len ≡ tested_of (map_rows_of maps n) (entry_rows_of entries m)
    unfolding tested_of cpi_length_of
    measured_done y some =
        let rest = rw (left_done map_cells maps n k h) at i.rest in
        let count = maps_count maps n entries m in
        let size = cpi_size (map_rows_of maps n) (entry_rows_of entries m) (omega arith) in
        let long : len ≡ length (cpi_bytes_by (map_rows_of maps n) (entry_rows_of entries m)) = omega arith in
        rw (all_fit, ← few_is, y, long)

  -- without maps there are four bytes
  pub measured_none : n ≡ 0 → Ok 4 ≡ tested_of (map_rows_of maps n) (entry_rows_of entries m)
  unfolding tested_of cpi_length_of table_rows_of
  measured_none z = rw (z, bytes_length 4 0)

-- ---- what an answer says

-- a length: no map has too many runs, and the section is so long
pub length_said : (ms es : List Row) {n : ℕ} → cpi_length_of ms es ≡ Ok n → (every_map few_runs ms es ≡ true) × (n ≡ length (cpi_bytes_by ms es))
unfolding cpi_length_of
length_said ms es is =
    let p = picked (every_map few_runs ms es) (λ e. let z : ◌≡◌ {A = ℕ} 0 1 = cc in omega arith) is in
    (p.0, cc p.1)

-- none: a map has too many, and that is what is told
pub length_refused : (ms es : List Row) {r : Refusal} → cpi_length_of ms es ≡ Err r → (every_map few_runs ms es ≡ false) × (r ≡ Refusal.Runs)
unfolding cpi_length_of
length_refused ms es is =
    let p = not_picked (every_map few_runs ms es) (λ e. let z : ◌≡◌ {A = ℕ} 0 1 = cc in omega arith) is in
    (p.0, cc p.1)
