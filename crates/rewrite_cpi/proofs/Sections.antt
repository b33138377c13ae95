-- The pass that stores headers and bodies, and the section around them.
use Prim.Native.Nat.{ℕ, ◌+◌, ◌*◌, ◌-◌, ◌^◌, ◌<◌, ◌≤◌}
use mathlib.Core.Path.{◌≡◌, refl, sym, ap, ap₂, ◌∙◌}
use mathlib.Core.List.{List, [], ◌∷◌, ◌++◌}
use mathlib.Core.Bool.{Bool, true, false}
use native.Mathlib.Omega.{arith}
use borrow.Author.Tests.{leb-true}
use lib.ListN.{length, length-append}
use lib.Seq.{sets, length-sets}
use Rattle.format.specs.Bytes.{IsBytes, pick, be_at, bytes_of, field_bytes, packed}
use Rattle.format.specs.ClipRecord.{Row}
use Rattle.format.specs.EntryPoints.{header_widths, map_type_at, map_at, next_map, entries_of, has_maps, map_count, maps_from, entries_from}
use Rattle.format.specs.Refusals.{every_map}
use Rattle.format.specs.Rewriting.{runs, body_bytes, bodies, header_bytes, headers, cpi_bytes_by}
use Rattle.format.proofs.Cpi.{header_length, headers_length}
use Rattle.format.proofs.Counts.{byte_few}
use Rattle.format.proofs.Lists.{All}
use Rattle.format.proofs.Read.{own_length}
use Rattle.format.proofs.Rows.{rows_all}
use Rattle.format.proofs.Tests.{both_true}
use Rattle.format.proofs.Stores.{part_then}
use Rattle.ep_rows.proofs.Headers.{counts_small}
use Rattle.ep_entries.specs.Body.{MapAt, body_of, entries_in}
use Rattle.ep_entries.specs.declared.body.MapBody.{MapBody}
use Rattle.ep_entries.proofs.Bodies.{rows_in_lem, own_count, Left, left_first, left_map, left_next}
use Rattle.encode_cpi.specs.Cpi.{few_runs}
use Rattle.encode_cpi.proofs.Maps.{FewEntries, bodies_most}
use Rattle.encode_cpi.proofs.Lengths.{top_bytes, top_length, cpi_parts, cpi_size}
use Rattle.encode_cpi.proofs.Section.{pair_more}
use Rattle.map_runs.specs.Entries.{BodyRoom}
use Rattle.rewrite_cpi.specs.Cpi.{MapsRoom, MapRoom, CpiRoom}
use Rattle.rewrite_cpi.proofs.Maps.{head_at, maps_left, entries_left, maps_all, entries_all, maps_count, maps_done, left_count, every_turn, bodies_turn, headers_turn}
use Rattle.rewrite_cpi.proofs.Lengths.{own_runs, own_size, none_size}

-- ---- one map

-- there is room for its body
pub body_room : (f : List ℕ) (c p size body : ℕ) (m : MapBody) → m ≡ body_of f c p → MapAt f c p → body + length (body_bytes (entries_of f c p)) ≤ size → BodyRoom f m size body
body_room f c p size body m e i room = record { rows = rows_in_lem f c p m e i; room = rw e room }

module _ (f : List ℕ) (c p : ℕ) {r : ℕ} (m : MapBody) (e : m ≡ body_of f c p) (is : r ≡ runs (entries_in f m)) where
  -- its type fits its field
  pub kind_fits : m.kind < 2 ^ 4
  kind_fits = let k = ap (λ (x : MapBody). x.kind) e in rw k (omega arith)

  -- so does the number of its fine rows
  pub count_fits : m.num_fine < 2 ^ 18
  count_fits = omega (arith, own_count f c p m e, (counts_small f p).1)

  -- the place behind the body
  pub place_is : (body : ℕ) → body + 4 + 8 * r + 4 * m.num_fine ≡ body + length (body_bytes (entries_of f c p))
  place_is body = omega (arith, own_size f c p m e is)

  -- its body was stored, and then its header
  pub map_put : (o : List ℕ) (body head address pid : ℕ) {o₁ o₂ : List ℕ} → pid ≡ be_at f p 2 → o₁ ≡ sets o body (body_bytes (entries_in f m))
      → o₂ ≡ sets o₁ head (field_bytes (2 ∷ 6 ∷ 4 ∷ []) (pid ∷ packed header_widths (0 ∷ m.kind ∷ r ∷ m.num_fine ∷ []) ∷ address ∷ []))
      → o₂ ≡ sets (sets o body (body_bytes (entries_of f c p))) head (header_bytes (map_at f p) (entries_of f c p) address)
  map_put o body head address pid {o₁} w b h =
      let own = entries_of f c p in
      let kind : m.kind ≡ map_type_at f p = ap (λ (x : MapBody). x.kind) e in
      let count : m.num_fine ≡ length own = own_count f c p m e ∙ sym (own_length f c p) in
      let fields : 0 ∷ m.kind ∷ r ∷ m.num_fine ∷ [] ≡ 0 ∷ map_type_at f p ∷ runs own ∷ length own ∷ [] =
      ap (λ (x : ℕ). 0 ∷ x ∷ r ∷ m.num_fine ∷ []) kind ∙ ap₂ (λ (x y : ℕ). 0 ∷ map_type_at f p ∷ x ∷ y ∷ []) (own_runs f c p m e is) count in
      let head-is : field_bytes (2 ∷ 6 ∷ 4 ∷ []) (pid ∷ packed header_widths (0 ∷ m.kind ∷ r ∷ m.num_fine ∷ []) ∷ address ∷ []) ≡ header_bytes (map_at f p) own address =
      ap₂ (λ (x y : ℕ). field_bytes (2 ∷ 6 ∷ 4 ∷ []) (x ∷ y ∷ address ∷ [])) w (ap (packed header_widths) fields) in
      let body_is : o₁ ≡ sets o body (body_bytes own) = b ∙ ap (λ (x : MapBody). sets o body (body_bytes (entries_in f x))) e in
      h ∙ ap₂ (λ (x y : List ℕ). sets x head y) body_is head-is

-- ---- the pass

-- the counts of a file's maps fit their fields
counts_few : (f : List ℕ) (c : ℕ) → All FewEntries (maps_from f c)
unfolding maps_from
counts_few f c = rows_all (map_at f) next_map (λ p. omega (arith, (counts_small f p).1)) (c + 8) (map_count f c)

module _ (f : List ℕ) (c count : ℕ) (o₀ : List ℕ) (at : ℕ) where
  -- before map k, of which the body goes to `body`
  pub record Putting (o : List ℕ) (body k : ℕ) : Type 0 where
    pub left : Left f c count k
    pub long : length o ≡ length o₀
    pub apart : at + 8 + 12 * count ≤ body
    pub place : body + length (bodies (maps_left f c count k) (entries_left f c count k)) ≡ at + 8 + 12 * count + length (bodies (maps_from f c) (entries_from f c))
    pub runs_few : every_map few_runs (maps_left f c count k) (entries_left f c count k) ≡ true
    pub rest : sets (sets o (at + 8 + 12 * k) (headers (maps_left f c count k) (entries_left f c count k) (body - (at + 6)))) body (bodies (maps_left f c count k) (entries_left f c count k))
        ≡ sets (sets o₀ (at + 8) (headers (maps_from f c) (entries_from f c) (2 + 12 * count))) (at + 8 + 12 * count) (bodies (maps_from f c) (entries_from f c))

  module _ (room : MapsRoom f c count (length o₀) at) where
    -- how many maps there are
    abbrev counted : count ≡ map_count f c
    counted = room.section.counted

    -- before the first turn
    pub putting_first : Putting o₀ (at + 8 + 12 * count) 0
    putting_first =
        let head : at + 8 + 12 * 0 ≡ at + 8 = omega arith in
        let address : at + 8 + 12 * count - (at + 6) ≡ 2 + 12 * count = omega arith in
        record {
          left = left_first f c count room.section;
          long = refl;
          apart = omega arith;
          place = rw (maps_all f c count counted, entries_all f c count counted);
          runs_few = rw (maps_all f c count counted, entries_all f c count counted) room.runs_few;
          rest = rw (maps_all f c count counted, entries_all f c count counted, head, address);
        }

    -- the section is short enough for its addresses
    bodies_small : 8 + 12 * count + length (bodies (maps_from f c) (entries_from f c)) < 2 ^ 32
    bodies_small = omega (arith, room.few, counted, maps_count f c count counted, bodies_most (maps_from f c) (entries_from f c) (counts_few f c) room.runs_few)

    module _ (o : List ℕ) (body k : ℕ) (i : Putting o body k) (h : k < count) where
      -- this map's entries
      abbrev own : List Row
      own = entries_of f c (head_at f c count k)

      -- the maps behind it
      abbrev ms : List Row
      ms = maps_left f c count (k + 1)

      -- their entries
      abbrev es : List Row
      es = entries_left f c count (k + 1)

      -- it has not too many runs, and they have not
      here : (few_runs (map_at f (head_at f c count k)) own ≡ true) × (every_map few_runs ms es ≡ true)
      here = both_true (rw (every_turn f c count k h few_runs) at i.runs_few)

      -- the body and those behind it
      sizes : length (bodies (maps_left f c count k) (entries_left f c count k)) ≡ length (body_bytes own) + length (bodies ms es)
      sizes = ap length (bodies_turn f c count k h) ∙ length-append (body_bytes own) (bodies ms es)

      -- the map can be stored
      pub putting_room : MapRoom f c k (length o) at body
      putting_room = record {
        map_in_lem = left_map f c count k h room.section i.left;
        runs_fit_lem = omega (arith, leb-true (runs own) 65535 here.0);
        room = omega (arith, room.room, i.place, i.long, sizes);
        header_room = omega (arith, i.apart);
        address_fits = omega (arith, bodies_small, i.place);
      }

      -- it is stored
      pub putting_turn : {body' : ℕ} {o' : List ℕ} → body' ≡ body + length (body_bytes own)
          → o' ≡ sets (sets o body (body_bytes own)) (at + 8 + 12 * k) (header_bytes (map_at f (head_at f c count k)) own (body - (at + 6)))
          → Putting o' body' (k + 1)
      putting_turn {body'} {o'} e put =
          let address = body - (at + 6) in
          let next : address + length (body_bytes own) ≡ body' - (at + 6) = omega (arith, e, i.apart) in
          let H = header_bytes (map_at f (head_at f c count k)) own address in
          let Hs = headers ms es (body' - (at + 6)) in
          let hs : headers (maps_left f c count k) (entries_left f c count k) address ≡ H ++ Hs = headers_turn f c count k h address ∙ rw next in
          let rest = rw (hs, bodies_turn f c count k h) at i.rest in
          let place : at + 8 + 12 * (k + 1) ≡ at + 8 + 12 * k + 12 = omega arith in
          let heads : length Hs ≡ 12 * length ms = headers_length ms es (body' - (at + 6)) in
          let step = pair_more o (at + 8 + 12 * k) body (length (body_bytes own)) H Hs (body_bytes own) (bodies ms es) (header_length (map_at f (head_at f c count k)) own address) refl
          (omega (arith, heads, left_count f c count (k + 1), i.apart)) put rest in
          record {
            left = left_next f c count k h i.left;
            long = ap length put ∙ length-sets (sets o body (body_bytes own)) (at + 8 + 12 * k) H ∙ length-sets o body (body_bytes own) ∙ i.long;
            apart = omega (arith, e, i.apart);
            place = omega (arith, e, i.place, sizes);
            runs_few = here.1;
            rest = ap₂ (λ (p b : ℕ). sets (sets o' p Hs) b (bodies ms es)) place e ∙ step;
          }

    -- all are stored
    pub putting_done : (o : List ℕ) (body k : ℕ) → Putting o body k → count ≤ k
        → (body ≡ at + 8 + 12 * count + length (bodies (maps_from f c) (entries_from f c)))
        × (o ≡ sets o₀ (at + 8) (headers (maps_from f c) (entries_from f c) (2 + 12 * count) ++ bodies (maps_from f c) (entries_from f c)))
    putting_done o body k i h =
        let place = rw (maps_done f c count k h) at i.place in
        let rest = rw (maps_done f c count k h) at i.rest in
        let heads = headers (maps_from f c) (entries_from f c) (2 + 12 * count) in
        let size : length heads ≡ 12 * count = headers_length (maps_from f c) (entries_from f c) (2 + 12 * count) ∙ ap (λ (x : ℕ). 12 * x) (maps_count f c count counted) in
        (omega arith, part_then o₀ (at + 8) (12 * count) heads (bodies (maps_from f c) (entries_from f c)) size refl refl rest)

-- ---- the section

-- without maps, a length of 0 alone
none_bytes : (ms es : List Row) → length ms ≡ 0 → cpi_bytes_by ms es ≡ bytes_of 4 0
none_bytes [] es z = refl
none_bytes (m ∷ ms) es z = absurd (omega arith)

-- where there are maps, their number is the byte that says it
count_by : (f : List ℕ) (c : ℕ) → (map_count f c ≡ 0 → ⊥) → map_count f c ≡ be_at f (c + 7) 1
unfolding map_count
count_by f c some = go (has_maps f c) some
  where
    go : (b : Bool) → (pick b (be_at f (c + 7) 1) 0 ≡ 0 → ⊥) → pick b (be_at f (c + 7) 1) 0 ≡ be_at f (c + 7) 1
    go true h = refl
    go false h = absurd (h refl)

module _ (f : List ℕ) (c count len : ℕ) (o₀ : List ℕ) (at : ℕ) (room : CpiRoom f c count len (length o₀) at) where
  -- all bodies
  abbrev bodies_of : List ℕ
  bodies_of = bodies (maps_from f c) (entries_from f c)

  -- all headers
  abbrev headers_of : List ℕ
  headers_of = headers (maps_from f c) (entries_from f c) (2 + 12 * count)

  -- how many maps there are
  all_count : length (maps_from f c) ≡ count
  all_count = maps_count f c count room.section.counted

  -- without maps it has four bytes
  pub none_long : count ≡ 0 → len ≡ 4
  none_long z = room.long ∙ none_size (maps_from f c) (entries_from f c) (omega (arith, all_count))

  -- they are stored
  pub cpi_none : {o : List ℕ} → count ≡ 0 → o ≡ sets o₀ at (bytes_of 4 0) → (at + 4 ≡ at + len) × (o ≡ sets o₀ at (cpi_bytes_by (maps_from f c) (entries_from f c)))
  cpi_none z p = (omega (arith, none_long z), p ∙ ap (sets o₀ at) (sym (none_bytes (maps_from f c) (entries_from f c) (omega (arith, all_count)))))

  module _ (some : count ≡ 0 → ⊥) where
    -- their number is a byte
    pub few : IsBytes f → count ≤ 255
    few bytes = rw (room.section.counted ∙ count_by f c (λ z. some (room.section.counted ∙ z))) (byte_few f bytes (c + 7))

    -- how long the section is
    pub cpi_long : len ≡ 8 + 12 * count + length bodies_of
    cpi_long = room.long ∙ cpi_size (maps_from f c) (entries_from f c) (omega (arith, all_count)) ∙ rw all_count

    -- there is room for the maps
    pub maps_room : {size : ℕ} → IsBytes f → size ≡ length o₀ → MapsRoom f c count size at
    maps_room bytes e = record { section = room.section; few = few bytes; runs_few = room.runs_few; room = omega (arith, room.room, cpi_long, e) }

    -- the length fits 32 bits
    pub cpi_small : IsBytes f → len < 2 ^ 32
    cpi_small bytes = omega (arith, cpi_long, bodies_small f c count o₀ at (maps_room bytes refl))

    -- the top was stored, and then headers and bodies behind it
    pub cpi_put : {end : ℕ} {o o' : List ℕ} → o ≡ sets o₀ at (field_bytes (4 ∷ 2 ∷ 1 ∷ 1 ∷ []) ((len - 4) ∷ 1 ∷ 0 ∷ count ∷ []))
        → end ≡ at + 8 + 12 * count + length bodies_of → o' ≡ sets o (at + 8) (headers_of ++ bodies_of)
        → (end ≡ at + len) × (o' ≡ sets o₀ at (cpi_bytes_by (maps_from f c) (entries_from f c)))
    cpi_put {o = o} top e p =
        let size = length bodies_of in
        let word : len - 4 ≡ 4 + 12 * count + size = omega (arith, cpi_long) in
        let top' : o ≡ sets o₀ at (top_bytes count size) = top ∙ rw word in
        let parts = rw all_count at (cpi_parts (maps_from f c) (entries_from f c) (omega (arith, all_count))) in
        (omega (arith, e, cpi_long), part_then o₀ at 8 (top_bytes count size) (headers_of ++ bodies_of) (top_length count size) refl top' p ∙ ap (sets o₀ at) (sym parts))
