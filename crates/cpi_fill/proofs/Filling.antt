-- Both tables filled map by map: a turn, and the end.
use Prim.Native.Nat.{ℕ, suc, ◌+◌, ◌*◌, ◌<◌, ◌≤◌}
use mathlib.Core.Path.{◌≡◌, refl, sym, ap, ◌∙◌}
use mathlib.Core.List.{List, [], ◌∷◌}
use native.Mathlib.Omega.{arith}
use lib.ListN.{length}
use lib.Seq.{sets}
use Rattle.format.specs.Bytes.{be_at, rows_at, gather}
use Rattle.format.specs.ClipRecord.{Row, entry_cells, entry_size}
use Rattle.format.specs.EntryPoints.{coarse_at, fine_at, next_coarse, next_fine, map_type_at, coarse_count_at, fine_count_at, map_at, next_map, body_at, fine_start, entries_for, entries_of, map_count, maps_from, entries_from}
use Rattle.format.specs.Tables.{row_bytes_of, table_bytes, overwritten}
use Rattle.format.proofs.Lists.{none, more}
use Rattle.format.proofs.Rows.{rows_all, gather_all}
use Rattle.format.proofs.Read.{own_length}
use Rattle.format.proofs.Sweep as Sweep
use Rattle.format.proofs.Sweep.{HaveCells, table_bytes_lem, filling_front, filled, row_room_lem, row_put, group_room, group_put}
use Rattle.ep_entries.proofs.Bodies.{Left, left_first, left_next}
use Rattle.cpi_fill.specs.Fill.{Fill}

-- ---- how many bytes rows take

-- entries have as many cells as the rows of their table
entries_cells : (type : ℕ) (cs : List Row) (k : ℕ) (xs : List Row) → HaveCells entry_cells (entries_for type cs k xs)
entries_cells type cs k [] = none
entries_cells type cs k (x ∷ xs) = more refl (entries_cells type cs (suc k) xs)

-- so do a map's own
own_cells_lem : (f : List ℕ) (c p : ℕ) → HaveCells entry_cells (entries_of f c p)
own_cells_lem f c p =
    entries_cells (map_type_at f p) (rows_at (coarse_at f) next_coarse (body_at f c p + 4) (coarse_count_at f p)) 0 (rows_at (fine_at f) next_fine (fine_start f c p) (fine_count_at f p))

-- the bytes of a map's entries
pub own_bytes : (f : List ℕ) (c p : ℕ) → length (table_bytes (entries_of f c p)) ≡ entry_size * fine_count_at f p
own_bytes f c p = table_bytes_lem entry_cells (own_cells_lem f c p) ∙ ap (λ (n : ℕ). entry_size * n) (own_length f c p)

-- ---- one map's row

-- a row stored from the numbers that were read is the map's
pub map_stored : (f t : List ℕ) (p at pid type n : ℕ) {t' : List ℕ} → pid ≡ be_at f p 2 → type ≡ map_type_at f p → n ≡ fine_count_at f p
    → t' ≡ sets t at (row_bytes_of (pid ∷ type ∷ n ∷ [])) → t' ≡ sets t at (row_bytes_of (map_at f p))
map_stored f t p at pid type n a b d e = e ∙ rw (a, b, d)

-- ---- the loop

-- what holds before each turn: the maps that are left are in the file, and both tables are filled up to here
pub record Filling (f : List ℕ) (c count : ℕ) (maps₀ entries₀ maps entries : List ℕ) (at k : ℕ) : Type 0 where
  pub left : Left f c count k
  pub maps_left_lem : Sweep.Filling (rows_at (map_at f) next_map) maps₀ (overwritten (table_bytes (maps_from f c)) maps₀) maps (12 * k) (c + 8 + 12 * k) count k
  pub entries_left_lem : Sweep.Filling (gather (entries_of f c) next_map) entries₀ (overwritten (table_bytes (entries_from f c)) entries₀) entries at (c + 8 + 12 * k) count k

-- before the first turn
pub filling_first : (f : List ℕ) (c count : ℕ) (maps₀ entries₀ : List ℕ) → Fill f c count maps₀ entries₀
    → Filling f c count maps₀ entries₀ maps₀ entries₀ 0 0
unfolding maps_from entries_from
filling_first f c count maps₀ entries₀ fill =
    let p : c + 8 + 12 * 0 ≡ c + 8 = omega arith in
    let counted = fill.section.counted in
    let have = rows_all (map_at f) next_map (λ q. refl) (c + 8) (map_count f c) in
    let own = gather_all (entries_of f c) next_map (own_cells_lem f c) (c + 8) (map_count f c) in
    record {
      left = left_first f c count fill.section;
      maps_left_lem = rw p (filling_front 3 (rows_at (map_at f) next_map) maps₀ have fill.maps_room (ap (rows_at (map_at f) next_map (c + 8)) counted));
      entries_left_lem = rw p (filling_front entry_cells (gather (entries_of f c) next_map) entries₀ own fill.entries_room (ap (gather (entries_of f c) next_map (c + 8)) counted));
    }

module _ {f : List ℕ} {c count : ℕ} {maps₀ entries₀ maps entries : List ℕ} {at k : ℕ} (i : Filling f c count maps₀ entries₀ maps entries at k) where
  -- where the header of map k stands
  abbrev q : ℕ
  q = c + 8 + 12 * k

  -- the next one stands 12 bytes on
  next_at : q + 12 ≡ c + 8 + 12 * (k + 1)
  next_at = omega arith

  module _ (h : k < count) where
    -- there is room for its row
    pub map_room : 12 * k + 12 ≤ length maps
    map_room = row_room_lem (map_at f) next_map i.maps_left_lem h

    -- and for its entries
    pub entries_room : at + entry_size * fine_count_at f q ≤ length entries
    entries_room = group_room (entries_of f c) next_map i.entries_left_lem h (own_bytes f c q)

    -- a turn
    pub filling_next : (n : ℕ) {maps' entries' : List ℕ} → n ≡ fine_count_at f q
        → maps' ≡ sets maps (12 * k) (row_bytes_of (map_at f q)) → entries' ≡ sets entries at (table_bytes (entries_of f c q))
        → Filling f c count maps₀ entries₀ maps' entries' (at + entry_size * n) (k + 1)
    filling_next n e em ee =
        let a : 12 * (k + 1) ≡ 12 * k + 12 = omega arith in
        let w : length (table_bytes (entries_of f c q)) ≡ entry_size * n = own_bytes f c q ∙ ap (λ (x : ℕ). entry_size * x) (sym e) in
        record {
          left = left_next f c count k h i.left;
          maps_left_lem = rw a (row_put (map_at f) next_map i.maps_left_lem h em (omega arith));
          entries_left_lem = group_put (entries_of f c) next_map i.entries_left_lem h w ee (sym next_at);
        }

  -- after the last turn
  pub filling_done : count ≤ k → (maps ≡ overwritten (table_bytes (maps_from f c)) maps₀) × (entries ≡ overwritten (table_bytes (entries_from f c)) entries₀)
  filling_done h = (filled (λ p. refl) i.maps_left_lem h, filled (λ p. refl) i.entries_left_lem h)
