-- The pass that stores headers and bodies, and the section around them.
use Prim.Native.Nat.{ℕ, zero, suc, ◌+◌, ◌*◌, ◌-◌, ◌^◌, ◌<◌, ◌≤◌}
use mathlib.Core.Path.{◌≡◌, refl, sym, ap, subst, ◌∙◌}
use mathlib.Core.List.{List, [], ◌∷◌, ◌++◌}
use mathlib.Core.Bool.{Bool, true}
use native.Mathlib.Numerals.{add-one}
use native.Mathlib.Omega.{arith}
use borrow.Author.Tests.{leb-true}
use lib.ListN.{length, length-append}
use lib.Seq.{sets, length-sets}
use Rattle.format.specs.Bytes.{bytes_of, field_bytes, total}
use Rattle.format.specs.ClipRecord.{Row, map_type_of, entry_count, entry_cells, entry_size}
use Rattle.format.specs.Refusals.{every_map}
use Rattle.format.specs.Rewriting.{runs, body_bytes, bodies, header_bytes, headers, cpi_bytes_by}
use Rattle.format.specs.Tables.{cell_at, table_rows_of, map_cells}
use Rattle.format.proofs.Cell.{row_cell}
use Rattle.format.proofs.Cpi.{header_length, headers_length}
use Rattle.format.proofs.Numbers.{bytes_length}
use Rattle.format.proofs.Stores.{sets_append, part_then, field_then, field_last}
use Rattle.format.proofs.Tests.{both_true}
use Rattle.cells.specs.Reads.{CellIs}
use Rattle.table_rows.proofs.Scans.{left_all, left_done}
use Rattle.entry_rows.specs.Entries.{entries_at}
use Rattle.map_rows.proofs.Puts.{sets_before, put_below}
use Rattle.encode_map.specs.Bodies.{MapRoom}
use Rattle.encode_cpi.specs.Cpi.{Writable, MapsRoom, CpiRoom, few_runs, entries_fit, map_rows_of, entry_rows_of}
use Rattle.encode_cpi.proofs.Lengths.{top_bytes, top_length, cpi_parts, cpi_size}
use Rattle.encode_cpi.proofs.Maps.{counts_few, bodies_most, maps_left, entries_left, map_row, maps_count, maps_few, map_room, entries_room, row_fits, count_few, Walk, walk_first, walk_turn, every_turn, bodies_turn, headers_turn}

-- ---- one turn

-- a body was stored, and then a header before it; the headers and the bodies that are left go behind them
pub pair_more : (o : List ℕ) (head body w : ℕ) (H Hs B Bs : List ℕ) {o' whole : List ℕ} → length H ≡ 12 → length B ≡ w → head + (12 + length Hs) ≤ body
    → o' ≡ sets (sets o body B) head H → sets (sets o head (H ++ Hs)) body (B ++ Bs) ≡ whole
    → sets (sets o' (head + 12) Hs) (body + w) Bs ≡ whole
pair_more o head body w H Hs B Bs {o'} hl bl apart put i =
    let joined : sets o' (head + 12) Hs ≡ sets (sets o body B) head (H ++ Hs) = part_then (sets o body B) head 12 H Hs hl refl put refl in
    let room : head + length (H ++ Hs) ≤ body = rw (length-append H Hs, hl) apart in
    let moved : sets o' (head + 12) Hs ≡ sets (sets o head (H ++ Hs)) body B = joined ∙ sets_before o head (H ++ Hs) body B room in
    rw (moved, ← bl) (sym (sets_append (sets o head (H ++ Hs)) body B Bs) ∙ i)

-- bodies and headers were stored, then a body below them and a header below these
pair_below : (o : List ℕ) (head body w : ℕ) (H Hs B Bs : List ℕ) {head' body' : ℕ} {t t' : List ℕ} → length H ≡ 12 → length B ≡ w → head' ≡ head + 12 → body' ≡ body + w
    → head + 12 ≤ body → t ≡ sets (sets o head' Hs) body' Bs → t' ≡ sets (sets t body B) head H → t' ≡ sets (sets o head (H ++ Hs)) body (B ++ Bs)
pair_below o head body w H Hs B Bs {head'} {t = t} hl bl he be apart i put =
    let X = sets o head' Hs in
    let one : sets t body B ≡ sets X body (B ++ Bs) = put_below X body w B Bs bl be i refl in
    let two : sets X head H ≡ sets o head (H ++ Hs) = put_below o head 12 H Hs hl he refl refl in
    let three : sets (sets t body B) head H ≡ sets (sets o head (H ++ Hs)) body (B ++ Bs) =
    rw one (sets_before X head H body (B ++ Bs) (omega arith) ∙ ap (λ (l : List ℕ). sets l body (B ++ Bs)) two) in
    put ∙ three

-- ---- where the walk is after some maps

module _ (maps : List ℕ) (n : ℕ) (entries : List ℕ) (m : ℕ) where
  -- after k maps and j entries those left can be written, and their bodies are not longer than all
  pub record Reached (j k : ℕ) : Type 0 where
    pub walk : Walk maps n entries m j k
    pub entries_fit_lem : every_map entries_fit (maps_left maps n entries m k) (entries_left maps n entries m j) ≡ true
    pub runs_few : every_map few_runs (maps_left maps n entries m k) (entries_left maps n entries m j) ≡ true
    pub short : length (bodies (maps_left maps n entries m k) (entries_left maps n entries m j)) ≤ length (bodies (map_rows_of maps n) (entry_rows_of entries m))

  -- before the first map all are left
  reached_first : Writable (map_rows_of maps n) (entry_rows_of entries m) → Reached 0 0
  reached_first w = record {
    walk = walk_first maps n entries m w.counted;
    entries_fit_lem = rw (left_all map_cells maps n, left_all entry_cells entries m) w.entries_fit_lem;
    runs_few = rw (left_all map_cells maps n, left_all entry_cells entries m) w.runs_few;
    short = rw (left_all map_cells maps n, left_all entry_cells entries m) (omega arith);
  }

  module _ (j k : ℕ) (i : Reached j k) (h : k < n) {c : ℕ} (cell : CellIs maps (12 * k + 8) c) where
    -- what a test of each map says of this one
    pub here : (test : Row → List Row → Bool) → every_map test (maps_left maps n entries m k) (entries_left maps n entries m j) ≡ true
        → (test (map_row maps n entries m k) (entries_at entries (entry_size * j) c) ≡ true) × (every_map test (maps_left maps n entries m (k + 1)) (entries_left maps n entries m (j + c)) ≡ true)
    here test t = both_true (rw (every_turn maps n entries m j k i.walk h cell test) at t)

    -- the body and those behind it
    pub sizes : length (bodies (maps_left maps n entries m k) (entries_left maps n entries m j))
        ≡ length (body_bytes (entries_at entries (entry_size * j) c)) + length (bodies (maps_left maps n entries m (k + 1)) (entries_left maps n entries m (j + c)))
    sizes = ap length (bodies_turn maps n entries m j k i.walk h cell) ∙ length-append (body_bytes (entries_at entries (entry_size * j) c)) (bodies (maps_left maps n entries m (k + 1)) (entries_left maps n entries m (j + c)))

    -- behind this map
    reached_turn : Reached (j + c) (k + 1)
    reached_turn = record {
      walk = walk_turn maps n entries m j k i.walk h cell;
      entries_fit_lem = (here entries_fit i.entries_fit_lem).1;
      runs_few = (here few_runs i.runs_few).1;
      short = omega (arith, sizes, i.short);
    }

  -- the cell of a map's count
  count_cell : (j k : ℕ) → Walk maps n entries m j k → k < n → CellIs maps (12 * k + 8) (cell_at maps (12 * k + 8))
  count_cell j k w h =
      let is : cell_at maps (12 * k + 8) ≡ entry_count (map_row maps n entries m k) = row_cell maps 3 (12 * k) 2 (omega arith) refl refl in
      record { same = refl; below = omega (arith, is, (row_fits maps n entries m j k w h).count_fits) }

  -- the counts from map k on
  abbrev counts_left : ℕ → ℕ
  counts_left k = total entry_count (maps_left maps n entries m k)

  -- wherever the walk is, the entries that are left are those counted
  reached_at : Writable (map_rows_of maps n) (entry_rows_of entries m) → (k : ℕ) → k ≤ n → Reached (m - counts_left k) k
  reached_at w zero h =
      let first = reached_first w in
      let e : 0 ≡ m - counts_left 0 = omega (arith, first.walk.add) in
      subst (λ (j : ℕ). Reached j 0) e first
  reached_at w (suc k) h =
      let j = m - counts_left k in
      let i = reached_at w k (omega arith) in
      let next = reached_turn j k i h (count_cell j k i.walk h) in
      let up : k + 1 ≡ suc k = add-one k in
      let same : counts_left (k + 1) ≡ counts_left (suc k) = ap counts_left up in
      let e : j + cell_at maps (12 * k + 8) ≡ m - counts_left (suc k) = omega (arith, next.walk.add, next.walk.within, same) in
      subst (λ (x : ℕ). Reached x (suc k)) e (subst (λ (x : ℕ). Reached (j + cell_at maps (12 * k + 8)) x) up next)

  -- before map k, which has c entries, as many fewer are passed as after it
  pub reached_back : Writable (map_rows_of maps n) (entry_rows_of entries m) → (j k : ℕ) → Walk maps n entries m j (k + 1) → k < n → {c : ℕ} → CellIs maps (12 * k + 8) c
      → (c ≤ j) × Reached (j - c) k
  reached_back w j k i h {c} cell =
      let b = reached_at w k (omega arith) in
      let after = walk_turn maps n entries m (m - counts_left k) k b.walk h cell in
      let e : m - counts_left k ≡ j - c = omega (arith, after.add, after.within, i.add, i.within) in
      (omega (arith, after.add, after.within, i.add, i.within), subst (λ (x : ℕ). Reached x k) e b)

-- ---- the pass, from the last map to the first

module _ (maps : List ℕ) (n : ℕ) (entries : List ℕ) (m : ℕ) (o₀ : List ℕ) (at : ℕ) where
  -- the maps from map k on are stored, with the entries from row j on; their bodies start at `body`
  pub record Putting (end : ℕ) (o : List ℕ) (body j k : ℕ) : Type 0 where
    pub reached : Reached maps n entries m j k
    pub long : length o ≡ length o₀
    pub place : body + length (bodies (maps_left maps n entries m k) (entries_left maps n entries m j)) ≡ end
    pub rest : o ≡ sets (sets o₀ (at + 8 + 12 * k) (headers (maps_left maps n entries m k) (entries_left maps n entries m j) (body - (at + 6)))) body
        (bodies (maps_left maps n entries m k) (entries_left maps n entries m j))

  -- before the first turn none is
  pub putting_first : (end : ℕ) → Writable (map_rows_of maps n) (entry_rows_of entries m) → Putting end o₀ end m n
  putting_first end w =
      let none = left_done map_cells maps n n (omega arith) in
      let all : m - counts_left maps n entries m n ≡ m = rw none (omega arith) in
      record {
        reached = subst (λ (j : ℕ). Reached maps n entries m j n) all (reached_at maps n entries m w n (omega arith));
        long = refl;
        place = rw none (omega arith);
        rest = rw none;
      }

  -- a turn to go
  pub putting_before : (end : ℕ) (o : List ℕ) (body j k : ℕ) → Putting end o body j k → 0 < k → Putting end o body j (k - 1 + 1)
  putting_before end o body j k i h = let e : k ≡ k - 1 + 1 = omega arith in subst (λ (x : ℕ). Putting end o body j x) e i

  -- the section is short enough for its addresses
  pub bodies_small : Writable (map_rows_of maps n) (entry_rows_of entries m) → 8 + 12 * n + length (bodies (map_rows_of maps n) (entry_rows_of entries m)) < 2 ^ 32
  bodies_small w =
      let most = bodies_most (map_rows_of maps n) (entry_rows_of entries m) (counts_few (map_rows_of maps n) w.counted.fit) w.runs_few in
      omega (arith, most, maps_count maps n entries m, maps_few maps n entries m w.counted)

  module _ (end : ℕ) (room : MapsRoom maps n entries m (length o₀) at end) (o : List ℕ) (body j k : ℕ) (i : Putting end o body j (k + 1)) (h : k < n) {c : ℕ} (cell : CellIs maps (12 * k + 8) c) where
    -- where the walk is before the map
    back : (c ≤ j) × Reached maps n entries m (j - c) k
    back = reached_back maps n entries m room.writable j k i.reached.walk h cell

    -- its entries are the last of those passed
    pub row_within : c ≤ j
    row_within = back.0

    -- they lie inside their table
    pub own_there : entry_size * (j - c) + entry_size * c ≤ length entries
    own_there = omega (arith, entries_room maps n entries m room.rows_there, i.reached.walk.within, row_within)

    -- behind them are those that were there before
    again : j - c + c ≡ j
    again = omega (arith, row_within)

    -- the bodies from this map on
    parts : length (bodies (maps_left maps n entries m k) (entries_left maps n entries m (j - c)))
        ≡ length (body_bytes (entries_at entries (entry_size * (j - c)) c)) + length (bodies (maps_left maps n entries m (k + 1)) (entries_left maps n entries m j))
    parts = sizes maps n entries m (j - c) k back.1 h cell ∙ rw again

    -- the map can be stored
    pub putting_room : MapRoom maps k entries (entry_size * (j - c)) c (length o) at body
    putting_room = record {
      row_there = map_room maps n entries m room.rows_there k h;
      kind_fits = (row_fits maps n entries m (j - c) k back.1.walk h).kind_fits;
      runs_fit_lem = omega (arith, leb-true (runs (entries_at entries (entry_size * (j - c)) c)) 65535 (here maps n entries m (j - c) k back.1 h cell few_runs back.1.runs_few).0);
      body_room = record {
        few = count_few maps n entries m (j - c) k back.1.walk h cell;
        fit = record { type = map_type_of (map_row maps n entries m k); fit = (here maps n entries m (j - c) k back.1 h cell entries_fit back.1.entries_fit_lem).0 };
        below = omega (arith, parts, back.1.short, i.place, room.long);
        room = omega (arith, i.place, i.long, room.room);
      };
      header_room = omega (arith, parts, back.1.short, i.place, room.long);
      address_fits = omega (arith, bodies_small room.writable, i.place, room.long);
    }

    -- it is stored
    pub putting_turn : {body' : ℕ} {o' : List ℕ} → body' + length (body_bytes (entries_at entries (entry_size * (j - c)) c)) ≡ body
        → o' ≡ sets (sets o body' (body_bytes (entries_at entries (entry_size * (j - c)) c))) (at + 8 + 12 * k) (header_bytes (map_row maps n entries m k) (entries_at entries (entry_size * (j - c)) c) (body' - (at + 6)))
        → Putting end o' body' (j - c) k
    putting_turn {body'} {o'} e put =
        let own = entries_at entries (entry_size * (j - c)) c in
        let ms = maps_left maps n entries m (k + 1) in
        let es = entries_left maps n entries m j in
        let address = body' - (at + 6) in
        let apart : at + 8 + 12 * n ≤ body' = omega (arith, parts, back.1.short, i.place, room.long, e) in
        let next : address + length (body_bytes own) ≡ body - (at + 6) = omega (arith, e, apart) in
        let H = header_bytes (map_row maps n entries m k) own address in
        let Hs = headers ms es (body - (at + 6)) in
        let hs : headers (maps_left maps n entries m k) (entries_left maps n entries m (j - c)) address ≡ H ++ Hs =
        headers_turn maps n entries m (j - c) k back.1.walk h cell address ∙ rw (next, again) in
        let bs : bodies (maps_left maps n entries m k) (entries_left maps n entries m (j - c)) ≡ body_bytes own ++ bodies ms es =
        bodies_turn maps n entries m (j - c) k back.1.walk h cell ∙ rw again in
        let step = pair_below o₀ (at + 8 + 12 * k) body' (length (body_bytes own)) H Hs (body_bytes own) (bodies ms es) (header_length (map_row maps n entries m k) own address) refl
        (omega arith) (sym e) (omega (arith, apart)) i.rest put in
        record {
          reached = back.1;
          long = ap length put ∙ length-sets (sets o body' (body_bytes own)) (at + 8 + 12 * k) H ∙ length-sets o body' (body_bytes own) ∙ i.long;
          place = omega (arith, parts, i.place, e);
          rest = step ∙ rw (hs, bs);
        }

  -- all are stored
  pub putting_done : (end : ℕ) → MapsRoom maps n entries m (length o₀) at end → (o : List ℕ) (body j k : ℕ) → Putting end o body j k → k ≡ 0
      → o ≡ sets o₀ (at + 8) (headers (map_rows_of maps n) (entry_rows_of entries m) (2 + 12 * n) ++ bodies (map_rows_of maps n) (entry_rows_of entries m))
  putting_done end room o body j k i z =
      let counted = room.writable.counted in
      let w : Walk maps n entries m j 0 = rw z at i.reached.walk in
      let none : j ≡ 0 = omega (arith, w.add, w.within, (walk_first maps n entries m counted).add) in
      let place = rw (z, none, left_all map_cells maps n, left_all entry_cells entries m) at i.place in
      let start : body ≡ at + 8 + 12 * n = omega (arith, place, room.long) in
      let address : at + 8 + 12 * n - (at + 6) ≡ 2 + 12 * n = omega arith in
      let head : at + 8 + 12 * 0 ≡ at + 8 = omega arith in
      let rest = rw (z, none, left_all map_cells maps n, left_all entry_cells entries m, start, address, head) at i.rest in
      let heads = headers (map_rows_of maps n) (entry_rows_of entries m) (2 + 12 * n) in
      let size : length heads ≡ 12 * n = headers_length (map_rows_of maps n) (entry_rows_of entries m) (2 + 12 * n) ∙ ap (λ (x : ℕ). 12 * x) (maps_count maps n entries m) in
      part_then o₀ (at + 8) (12 * n) heads (bodies (map_rows_of maps n) (entry_rows_of entries m)) size refl refl rest

  -- ---- the section

  -- without maps it has four bytes
  pub none_long : (len : ℕ) → n ≡ 0 → len ≡ length (cpi_bytes_by (map_rows_of maps n) (entry_rows_of entries m)) → len ≡ 4
  unfolding table_rows_of
  none_long len z l = rw (z, bytes_length 4 0) at l

  -- a length of 0 alone
  pub cpi_none : (len : ℕ) {o : List ℕ} → n ≡ 0 → len ≡ length (cpi_bytes_by (map_rows_of maps n) (entry_rows_of entries m)) → o ≡ sets o₀ at (bytes_of 4 0)
      → (at + 4 ≡ at + len) × (o ≡ sets o₀ at (cpi_bytes_by (map_rows_of maps n) (entry_rows_of entries m)))
  unfolding table_rows_of
  cpi_none len z l p = (omega (arith, none_long len z l), p ∙ rw z)

  module _ (len : ℕ) (room : CpiRoom maps n entries m len (length o₀) at) (some : n ≡ 0 → ⊥) where
    -- how long the section is
    pub cpi_long : len ≡ 8 + 12 * n + length (bodies (map_rows_of maps n) (entry_rows_of entries m))
    cpi_long =
        let count = maps_count maps n entries m in
        room.long ∙ cpi_size (map_rows_of maps n) (entry_rows_of entries m) (omega arith) ∙ rw count

    -- its length fits 32 bits
    pub cpi_small : len < 2 ^ 32
    cpi_small = omega (arith, cpi_long, bodies_small room.writable)

    -- the top was stored, and then headers and bodies behind it
    pub cpi_put : {o o' : List ℕ} → o ≡ sets o₀ at (field_bytes (4 ∷ 2 ∷ 1 ∷ 1 ∷ []) ((len - 4) ∷ 1 ∷ 0 ∷ n ∷ []))
        → o' ≡ sets o (at + 8) (headers (map_rows_of maps n) (entry_rows_of entries m) (2 + 12 * n) ++ bodies (map_rows_of maps n) (entry_rows_of entries m))
        → o' ≡ sets o₀ at (cpi_bytes_by (map_rows_of maps n) (entry_rows_of entries m))
    cpi_put {o = o} top p =
        let ms = map_rows_of maps n in
        let es = entry_rows_of entries m in
        let size = length (bodies ms es) in
        let count = maps_count maps n entries m in
        let word : len - 4 ≡ 4 + 12 * n + size = omega (arith, cpi_long) in
        let top' : o ≡ sets o₀ at (top_bytes n size) = top ∙ rw word in
        let parts = rw count at (cpi_parts ms es (omega arith)) in
        part_then o₀ at 8 (top_bytes n size) (headers ms es (2 + 12 * n) ++ bodies ms es) (top_length n size) refl top' p ∙ ap (sets o₀ at) (sym parts)

-- the four fields of the top, stored one behind the other
pub top_stored : (o : List ℕ) (at behind n : ℕ) {o₁ o₂ o₃ o₄ : List ℕ} → o₁ ≡ sets o at (bytes_of 4 behind) → o₂ ≡ sets o₁ (at + 4) (bytes_of 2 1)
    → o₃ ≡ sets o₂ (at + 6) (bytes_of 1 0) → o₄ ≡ sets o₃ (at + 7) (bytes_of 1 n)
    → o₄ ≡ sets o at (field_bytes (4 ∷ 2 ∷ 1 ∷ 1 ∷ []) (behind ∷ 1 ∷ 0 ∷ n ∷ []))
top_stored o at behind n {o₁} {o₂} {o₃} p q r s =
    field_then o at 4 behind (field_bytes (2 ∷ 1 ∷ 1 ∷ []) (1 ∷ 0 ∷ n ∷ [])) refl p
    (field_then o₁ (at + 4) 2 1 (field_bytes (1 ∷ 1 ∷ []) (0 ∷ n ∷ [])) (omega arith) q
    (field_then o₂ (at + 6) 1 0 (field_bytes (1 ∷ []) (n ∷ [])) (omega arith) r
    (field_last o₃ (at + 7) 1 n s)))
