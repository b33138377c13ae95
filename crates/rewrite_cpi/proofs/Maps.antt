-- The maps of a file from map k on, and their entries: this map's own, and those behind it.
use Prim.Native.Nat.{ℕ, ◌+◌, ◌*◌, ◌-◌, ◌<◌, ◌≤◌}
use mathlib.Core.Path.{◌≡◌, sym, ap₂, ◌∙◌}
use mathlib.Core.List.{List, [], ◌∷◌, ◌++◌}
use mathlib.Core.Bool.{Bool}
use native.Mathlib.Omega.{arith}
use lib.ListN.{length, take, drop}
use lib.Seq.{take_at, drop_at}
use Rattle.format.specs.Bytes.{both, rows_at, gather}
use Rattle.format.specs.ClipRecord.{Row}
use Rattle.format.specs.EntryPoints.{fine_count_at, map_at, next_map, entries_of, map_count, maps_from, entries_from}
use Rattle.format.specs.Refusals.{every_map}
use Rattle.format.specs.Rewriting.{body_bytes, bodies, header_bytes, headers}
use Rattle.format.proofs.Loops.{one_left}
use Rattle.format.proofs.Read.{own_length}
use Rattle.format.proofs.Rows.{rows_length, left_turn, left_done}

module _ (f : List ℕ) (c count : ℕ) where
  -- where map k's header stands
  abbrev pub head_at : ℕ → ℕ
  head_at k = c + 8 + 12 * k

  -- the maps from map k on
  abbrev pub maps_left : ℕ → List Row
  maps_left k = rows_at (map_at f) next_map (head_at k) (count - k)

  -- their entries
  abbrev pub entries_left : ℕ → List Row
  entries_left k = gather (entries_of f c) next_map (head_at k) (count - k)

  -- before the first turn
  module _ (counted : count ≡ map_count f c) where
    -- the first header
    all_at : head_at 0 ≡ c + 8
    all_at = omega arith

    -- all are to come
    all_of : count - 0 ≡ map_count f c
    all_of = omega (arith, counted)

    -- all maps are left
    pub maps_all : maps_left 0 ≡ maps_from f c
    unfolding maps_from
    maps_all = rw (all_at, all_of)

    -- so are all entries
    pub entries_all : entries_left 0 ≡ entries_from f c
    unfolding entries_from
    entries_all = rw (all_at, all_of)

    -- how many maps there are
    pub maps_count : length (maps_from f c) ≡ count
    unfolding maps_from
    maps_count = rows_length (map_at f) next_map (c + 8) (map_count f c) ∙ sym counted

  -- after the last none is left
  pub maps_done : (k : ℕ) → count ≤ k → maps_left k ≡ []
  maps_done k h = left_done (map_at f) 12 (c + 8) count k h

  -- how many are left
  pub left_count : (k : ℕ) → length (maps_left k) ≡ count - k
  left_count k = rows_length (map_at f) next_map (head_at k) (count - k)

  module _ (k : ℕ) (h : k < count) where
    -- this map and those behind it
    maps_turn : maps_left k ≡ map_at f (head_at k) ∷ maps_left (k + 1)
    maps_turn = left_turn (map_at f) 12 (c + 8) count k h

    -- its entries and theirs
    entries_turn : entries_left k ≡ entries_of f c (head_at k) ++ entries_left (k + 1)
    entries_turn =
        let next : head_at (k + 1) ≡ head_at k + 12 = omega arith in
        rw (one_left count k h, next)

    -- its own entries
    abbrev own : List Row
    own = entries_of f c (head_at k)

    -- the first of those that are left
    own_rows_lem : take (fine_count_at f (head_at k)) (own ++ entries_left (k + 1)) ≡ own
    own_rows_lem = take_at own (entries_left (k + 1)) (fine_count_at f (head_at k)) (own_length f c (head_at k))

    -- the others are behind them
    later_rows : drop (fine_count_at f (head_at k)) (own ++ entries_left (k + 1)) ≡ entries_left (k + 1)
    later_rows = drop_at own (entries_left (k + 1)) (fine_count_at f (head_at k)) (own_length f c (head_at k))

    -- a test of each map: of this one, and of those behind it
    pub every_turn : (test : Row → List Row → Bool)
        → every_map test (maps_left k) (entries_left k) ≡ both (test (map_at f (head_at k)) own) (every_map test (maps_left (k + 1)) (entries_left (k + 1)))
    every_turn test =
        ap₂ (every_map test) maps_turn entries_turn
        ∙ ap₂ (λ (x y : List Row). both (test (map_at f (head_at k)) x) (every_map test (maps_left (k + 1)) y)) own_rows_lem later_rows

    -- the bodies: its own, and those of the maps behind it
    pub bodies_turn : bodies (maps_left k) (entries_left k) ≡ body_bytes own ++ bodies (maps_left (k + 1)) (entries_left (k + 1))
    bodies_turn =
        ap₂ bodies maps_turn entries_turn
        ∙ ap₂ (λ (x y : List Row). body_bytes x ++ bodies (maps_left (k + 1)) y) own_rows_lem later_rows

    -- the headers
    pub headers_turn : (address : ℕ) → headers (maps_left k) (entries_left k) address
        ≡ header_bytes (map_at f (head_at k)) own address ++ headers (maps_left (k + 1)) (entries_left (k + 1)) (address + length (body_bytes own))
    headers_turn address =
        ap₂ (λ (ms es : List Row). headers ms es address) maps_turn entries_turn
        ∙ ap₂ (λ (x y : List Row). header_bytes (map_at f (head_at k)) x address ++ headers (maps_left (k + 1)) y (address + length (body_bytes x))) own_rows_lem later_rows
