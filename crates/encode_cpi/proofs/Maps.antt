-- The walk over maps, each with its own entries: what is left of both tables after k maps and j entries.
use Prim.Native.Nat.{ℕ, ◌+◌, ◌*◌, ◌-◌, ◌^◌, ◌<◌, ◌≤◌}
use mathlib.Core.Path.{◌≡◌, refl}
use mathlib.Core.List.{List, [], ◌∷◌, ◌++◌}
use mathlib.Core.Bool.{Bool, true}
use native.Mathlib.Omega.{arith}
use borrow.Author.Tests.{eqb-true, leb-true}
use lib.ListN.{length, take, drop, length-append, length-take}
use Rattle.format.specs.Bytes.{both, every, total}
use Rattle.format.specs.ClipRecord.{Row, map_type_of, entry_count, entry_cells, entry_size}
use Rattle.format.specs.Refusals.{map_fits, every_map}
use Rattle.format.specs.Rewriting.{runs, body_bytes, bodies, header_bytes, headers}
use Rattle.format.specs.Tables.{cells_at, table_rows_of, map_cells}
use Rattle.format.proofs.Cpi.{body_length}
use Rattle.format.proofs.Fields.{Fit, one, fits_fit}
use Rattle.format.proofs.Lists.{All, more, every_all, all_map}
use Rattle.format.proofs.Rows.{rows_length, take_rows, drop_rows}
use Rattle.format.proofs.Tests.{both_true}
use Rattle.cells.specs.Reads.{CellIs}
use Rattle.table_rows.proofs.Scans.{rows_left, left_all, left_turn}
use Rattle.format.proofs.Cell.{row_cell, rows_room}
use Rattle.entry_rows.specs.Entries.{entries_at}
use Rattle.encode_cpi.specs.Cpi.{BothThere, Counted, few_runs, map_rows_of, entry_rows_of}

-- ---- one map

-- the type and the count of a map that fits
pub record MapFits (m : Row) : Type 0 where
  pub kind_fits : map_type_of m < 2 ^ 4
  pub count_fits : entry_count m < 2 ^ 18

-- by the fields' widths
map_fits_by : (m : Row) → Fit (16 ∷ 4 ∷ 18 ∷ []) m → MapFits m
map_fits_by m (one a (one b (one c f))) = record { kind_fits = b; count_fits = c }

-- by the test of a map
map_fits_lem : (m : Row) → map_fits m ≡ true → MapFits m
map_fits_lem m h = map_fits_by m (fits_fit (16 ∷ 4 ∷ 18 ∷ []) m h)

-- ---- all maps are not longer than their counts can tell

-- a map's count fits its field
abbrev pub FewEntries : Row → Type 0
FewEntries m = entry_count m < 2 ^ 18

-- where the maps fit, their counts do
pub counts_few : (ms : List Row) → every map_fits ms ≡ true → All FewEntries ms
counts_few ms f = all_map (λ m h. (map_fits_lem m h).count_fits) (every_all map_fits ms f)

-- a body has at most 65,535 coarse rows and 262,143 fine rows
pub bodies_most : (ms es : List Row) → All FewEntries ms → every_map few_runs ms es ≡ true → length (bodies ms es) ≤ 1572856 * length ms
bodies_most [] es counts r = omega arith
bodies_most (m ∷ ms) es (more c later) r =
    let own = take (entry_count m) es in
    let few = both_true r in
    let rest = bodies_most ms (drop (entry_count m) es) later few.1 in
    let most = leb-true (runs own) 65535 few.0 in
    let size = body_length own in
    let count = length-take (entry_count m) es in
    rw (length-append (body_bytes own) (bodies ms (drop (entry_count m) es))) (omega arith)

-- ---- two tables

module _ (maps : List ℕ) (n : ℕ) (entries : List ℕ) (m : ℕ) where
  -- the maps from row k on
  abbrev pub maps_left : ℕ → List Row
  maps_left k = rows_left map_cells maps n k

  -- the entries from row j on
  abbrev pub entries_left : ℕ → List Row
  entries_left j = rows_left entry_cells entries m j

  -- row k of the maps
  abbrev pub map_row : ℕ → Row
  map_row k = cells_at maps map_cells (12 * k)

  -- there are as many maps as stated
  pub maps_count : length (map_rows_of maps n) ≡ n
  unfolding table_rows_of
  maps_count = rows_length (cells_at maps map_cells) (λ p. p + 4 * map_cells) 0 n

  -- there are as many entries as stated
  pub entries_count : length (entry_rows_of entries m) ≡ m
  unfolding table_rows_of
  entries_count = rows_length (cells_at entries entry_cells) (λ p. p + 4 * entry_cells) 0 m

  -- not more than 255 maps
  pub maps_few : Counted (map_rows_of maps n) (entry_rows_of entries m) → n ≤ 255
  maps_few c = omega (arith, leb-true (length (map_rows_of maps n)) 255 c.few, maps_count)

  -- the rows lie inside the tables
  pub map_room : BothThere maps n entries m → (k : ℕ) → k < n → 12 * k + 12 ≤ length maps
  map_room l k h = omega (arith, rows_room map_cells maps l.maps_there)

  -- and so do all entries
  pub entries_room : BothThere maps n entries m → entry_size * m ≤ length entries
  entries_room l = omega (arith, rows_room entry_cells entries l.entries_there)

  -- after k maps and j entries the counts that are left add up to the entries that are left, and each map fits
  pub record Walk (j k : ℕ) : Type 0 where
    pub turns : k ≤ n
    pub within : j ≤ m
    pub add : total entry_count (maps_left k) ≡ m - j
    pub fit : every map_fits (maps_left k) ≡ true

  -- before the first map all are left
  pub walk_first : Counted (map_rows_of maps n) (entry_rows_of entries m) → Walk 0 0
  walk_first c =
      let adds = eqb-true (total entry_count (map_rows_of maps n)) (length (entry_rows_of entries m)) c.add in
      record {
        turns = omega arith;
        within = omega arith;
        add = rw (left_all map_cells maps n) (omega (arith, adds, entries_count));
        fit = rw (left_all map_cells maps n) c.fit;
      }

  module _ (j k : ℕ) (w : Walk j k) (h : k < n) where
    -- the map fits
    pub row_fits : MapFits (map_row k)
    row_fits = map_fits_lem (map_row k) (both_true (rw (left_turn map_cells maps n k h) at w.fit)).0

    module _ {c : ℕ} (cell : CellIs maps (12 * k + 8) c) where
      -- its count
      count_is : c ≡ entry_count (map_row k)
      count_is = row_cell maps 3 (12 * k) 2 (omega arith) refl cell.same

      -- and what the maps behind it count
      counts : c + total entry_count (maps_left (k + 1)) ≡ m - j
      counts = rw (← count_is) at (rw (left_turn map_cells maps n k h) at w.add)

      -- it has few entries
      pub count_few : c ≤ 262143
      count_few = omega (arith, row_fits.count_fits, count_is)

      -- they are among those left
      pub own_within : j + c ≤ m
      own_within = omega (arith, counts, w.within)

      -- its entries
      pub own_rows_lem : take (entry_count (map_row k)) (entries_left j) ≡ entries_at entries (entry_size * j) c
      own_rows_lem =
          rw (← count_is) (take_rows (cells_at entries entry_cells) (λ p. p + 4 * entry_cells) (entry_size * j) (m - j) c (omega (arith, own_within)))

      -- those behind them
      pub later_rows : drop (entry_count (map_row k)) (entries_left j) ≡ entries_left (j + c)
      later_rows =
          let e : entry_size * j + c * entry_size ≡ entry_size * (j + c) = omega arith in
          let f : m - j - c ≡ m - (j + c) = omega arith in
          rw (← count_is, ← e, ← f) (drop_rows (cells_at entries entry_cells) entry_size (entry_size * j) (m - j) c (omega (arith, own_within)))

      -- the walk goes on behind the map
      pub walk_turn : Walk (j + c) (k + 1)
      walk_turn = record {
        turns = omega arith;
        within = own_within;
        add = omega (arith, counts);
        fit = (both_true {a = map_fits (map_row k)} (rw (left_turn map_cells maps n k h) at w.fit)).1;
      }

      -- a test of each map: of this one with its own entries, and of those behind it
      pub every_turn : (test : Row → List Row → Bool)
          → every_map test (maps_left k) (entries_left j) ≡ both (test (map_row k) (entries_at entries (entry_size * j) c)) (every_map test (maps_left (k + 1)) (entries_left (j + c)))
      every_turn test = rw (left_turn map_cells maps n k h, own_rows_lem, later_rows)

      -- its body, and those behind it
      pub bodies_turn : bodies (maps_left k) (entries_left j) ≡ body_bytes (entries_at entries (entry_size * j) c) ++ bodies (maps_left (k + 1)) (entries_left (j + c))
      bodies_turn = rw (left_turn map_cells maps n k h, own_rows_lem, later_rows)

      -- its header, and those behind it, whose addresses are behind its body
      pub headers_turn : (address : ℕ) → headers (maps_left k) (entries_left j) address
          ≡ header_bytes (map_row k) (entries_at entries (entry_size * j) c) address
          ++ headers (maps_left (k + 1)) (entries_left (j + c)) (address + length (body_bytes (entries_at entries (entry_size * j) c)))
      headers_turn address = rw (left_turn map_cells maps n k h, own_rows_lem, later_rows)
