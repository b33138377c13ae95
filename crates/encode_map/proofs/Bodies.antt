-- The loops that store the coarse rows and the fine rows of a map, and its body.
use Prim.Native.Nat.{ℕ, suc, ◌+◌, ◌*◌, ◌-◌, ◌^◌, ◌<◌, ◌≤◌}
use mathlib.Core.Path.{◌≡◌, refl, sym, ap, ap₂, subst, ◌∙◌}
use mathlib.Core.List.{List, [], ◌∷◌, ◌++◌, append-nil}
use mathlib.Core.Bool.{Bool, true, false}
use native.Mathlib.Numerals.{add-one}
use native.Mathlib.Omega.{arith}
use lib.ListN.{length, length-append}
use lib.Seq.{sets, length-sets}
use Rattle.format.specs.Bytes.{bytes_of, field_bytes, packed, flat}
use Rattle.format.specs.ClipRecord.{Row, map_pid, map_type_of, angle, i_end_of, time, entry_cells, entry_size}
use Rattle.format.specs.EntryPoints.{header_widths, coarse_widths, fine_widths}
use Rattle.format.specs.Refusals.{entry_bits, entry_fits}
use Rattle.format.specs.Rewriting.{same_run, unless_same, coarse_row, coarse_rows, runs, coarse_bytes, fine_bytes, body_bytes, header_bytes, same_keys, coarse_by, fine_by}
use Rattle.format.specs.Tables.{cells_at}
use Rattle.format.proofs.Cpi.{body_length}
use Rattle.format.proofs.Fields.{Fit, one, fits_fit}
use Rattle.format.proofs.Lists.{every_all, all_at}
use Rattle.format.proofs.Loops.{flat_append}
use Rattle.format.proofs.Numbers.{bytes_length}
use Rattle.format.proofs.Read.{runs_few}
use Rattle.format.proofs.Stores.{part_then}
use Rattle.format.proofs.Rows.{all_rows, rows_length, left_all, left_turn, left_done, flat_length}
use Rattle.format.proofs.Tests.{both_true}
use Rattle.cells.specs.Reads.{CellIs}
use Rattle.entry_rows.specs.Entries.{entries_at}
use Rattle.runs.specs.Runs.{entries_from, begun}
use Rattle.entry_rows.specs.declared.EntryRow.{EntryRow}
use Rattle.entry_rows.specs.Reads.{EntryIs}
use Rattle.format.proofs.Cell.{row_cell, item_at}
use Rattle.runs.proofs.Runs.{begun_none, begun_first, begun_later, begun_few}
use Rattle.encode_map.specs.Bodies.{EntriesFit, own_coarse, own_by}
use Rattle.map_rows.proofs.Puts.{sets_before, put_below}

-- ---- an entry that fits

-- the angle, the I-end and the time of an entry that fits are as narrow as its rows want them
pub record Narrow (e : Row) : Type 0 where
  pub angle_fits : angle e < 2 ^ 1
  pub end_fits : i_end_of e < 2 ^ 3
  pub time_fits : time e < 2 ^ 33

-- by the fields' widths
narrow_by : (e : Row) → Fit entry_bits e → Narrow e
narrow_by e (one a (one i (one t (one u f)))) = record { angle_fits = a; end_fits = i; time_fits = omega arith }

-- by the test of an entry
narrow : (type : ℕ) (e : Row) → entry_fits type e ≡ true → Narrow e
narrow type e h = narrow_by e (fits_fit entry_bits e (both_true h).0)

module _ (t : List ℕ) (q type : ℕ) (f : entry_fits type (cells_at t entry_cells q) ≡ true) where
  -- so are those of one that was read
  pub entry_narrow : {e : EntryRow} → EntryIs t q e → (e.angle < 2 ^ 1) × (e.i_end < 2 ^ 3) × (e.time < 2 ^ 33)
  entry_narrow is = let fits = narrow type (cells_at t entry_cells q) f in (rw is.angle_is.same fits.angle_fits, rw is.end_is.same fits.end_fits, rw is.time_is.same fits.time_fits)

-- each of n entries that fit does
pub row_fits : (t : List ℕ) (p n k : ℕ) (f : EntriesFit (entries_at t p n)) → k < n → entry_fits f.type (cells_at t entry_cells (p + entry_size * k)) ≡ true
row_fits t p n k f h =
    rw (item_at (cells_at t entry_cells) [] entry_size p n k h) at
    (all_at [] (every_all (entry_fits f.type) (entries_at t p n) f.fit) k (rw (rows_length (cells_at t entry_cells) (λ q. q + entry_size) p n) h))

-- ---- the rows of one entry

-- a fine row stored by its numbers is the entry's
pub fine_put : (t : List ℕ) (q : ℕ) (e : EntryRow) (o : List ℕ) (at : ℕ) {o' : List ℕ} → EntryIs t q e
    → o' ≡ sets o at (bytes_of 4 (packed fine_widths (fine_by e.angle e.i_end e.time e.packet))) → o' ≡ sets o at (fine_bytes (cells_at t entry_cells q))
fine_put t q e o at is put = put ∙ rw (is.angle_is.same, is.end_is.same, is.time_is.same, is.packet_is.same)

-- an entry by its numbers has the entry's coarse row
pub own_pairs : (t : List ℕ) (q q' k : ℕ) {before e : EntryRow} → EntryIs t q before → EntryIs t q' e → own_by k before e ≡ own_coarse k (cells_at t entry_cells q) (cells_at t entry_cells q')
own_pairs t q q' k b w = rw (b.time_is.same, b.packet_is.same, w.time_is.same, w.packet_is.same)

-- a coarse row stored by its numbers is that of the entry
pub coarse_put : (t : List ℕ) (q k : ℕ) (e : EntryRow) (o : List ℕ) (at : ℕ) {o' : List ℕ} → EntryIs t q e
    → o' ≡ sets o at (coarse_bytes (coarse_by k e.time e.packet)) → o' ≡ sets o at (coarse_bytes (coarse_row k (cells_at t entry_cells q)))
coarse_put t q k e o at is put = put ∙ rw (is.time_is.same, is.packet_is.same)

-- in the run of the entry before it an entry has no coarse row
pub own_none : (k : ℕ) (before e : EntryRow) {s : Bool} → s ≡ same_keys before.time before.packet e.time e.packet → s ≡ true → own_by k before e ≡ []
own_none k before e is h = rw (← is, h)

-- else it has one
pub own_one : (k : ℕ) (before e : EntryRow) {s : Bool} → s ≡ same_keys before.time before.packet e.time e.packet → s ≡ false
    → own_by k before e ≡ coarse_by k e.time e.packet ∷ []
own_one k before e is h = rw (← is, h)

-- none is stored
pub own_kept : (rows : List Row) (o : List ℕ) (to : ℕ) → rows ≡ [] → (to + 8 * length rows ≡ to) × (o ≡ sets o to (flat coarse_bytes rows))
own_kept rows o to e = (rw e (omega arith), rw e)

-- one is stored
pub own_stored : (rows : List Row) (row : Row) (o : List ℕ) (to : ℕ) {o' : List ℕ} → rows ≡ row ∷ [] → 8 ≤ to → o' ≡ sets o (to - 8) (coarse_bytes row)
    → (to - 8 + 8 * length rows ≡ to) × (o' ≡ sets o (to - 8) (flat coarse_bytes rows))
own_stored rows row o to e h put = (rw e (omega arith), put ∙ rw (e, append-nil (coarse_bytes row)))

-- a coarse row has eight bytes
coarse_size : (rows : List Row) → length (flat coarse_bytes rows) ≡ 8 * length rows
coarse_size rows = flat_length 8 coarse_bytes (all_rows (λ row. bytes_length 8 (packed coarse_widths row)) rows)

-- ---- the rows of all entries

module _ (t : List ℕ) (p n : ℕ) (o₀ : List ℕ) (fine : ℕ) where
  -- the rows from entry k on are stored: their fine rows, and the coarse rows of the runs that begin there or later
  pub record Stored (o : List ℕ) (to k : ℕ) : Type 0 where
    pub within : k ≤ n
    pub long : length o ≡ length o₀
    pub place : to + 8 * length (begun t p n k) ≡ fine
    pub rest : o ≡ sets (sets o₀ to (flat coarse_bytes (begun t p n k))) (fine + 4 * k) (flat fine_bytes (entries_from t p n k))

  -- before the first turn none
  pub stored_none : Stored o₀ fine n
  stored_none = record {
    within = omega arith;
    long = refl;
    place = rw (begun_none t p n) (omega arith);
    rest = rw (begun_none t p n, left_done (cells_at t entry_cells) entry_size p n n (omega arith));
  }

  -- a later entry adds its own coarse row to those of the entries behind it
  pub own_later : (k : ℕ) → 0 < k → k < n → begun t p n k ≡ own_coarse k (cells_at t entry_cells (p + entry_size * k - entry_size)) (cells_at t entry_cells (p + entry_size * k)) ++ begun t p n (suc k)
  own_later k h g = begun_later t p n k h g ∙ go (same_run (cells_at t entry_cells (p + entry_size * k - entry_size)) (cells_at t entry_cells (p + entry_size * k)))
    where
      go : (b : Bool) → unless_same b (coarse_row k (cells_at t entry_cells (p + entry_size * k))) (begun t p n (suc k)) ≡ unless_same b (coarse_row k (cells_at t entry_cells (p + entry_size * k))) [] ++ begun t p n (suc k)
      go true = refl
      go false = refl

  module _ (o : List ℕ) (to k : ℕ) (i : Stored o to (suc k)) (own : List Row) (more : begun t p n k ≡ own ++ begun t p n (suc k)) where
    -- how many coarse rows there are then
    counts : length (begun t p n k) ≡ length own + length (begun t p n (suc k))
    counts = ap length more ∙ length-append own (begun t p n (suc k))

    -- there is room for the entry's own
    pub stored_room : 8 * runs (entries_at t p n) ≤ fine → 8 * length own ≤ to
    stored_room room =
        let few = begun_few t p n k (omega (arith, i.within)) in
        omega (arith, counts, few, room, i.place)

    -- they are stored
    pub stored_turn : {r : ℕ} {o₁ o₂ : List ℕ} → o₁ ≡ sets o (fine + 4 * k) (fine_bytes (cells_at t entry_cells (p + entry_size * k))) → r + 8 * length own ≡ to
        → o₂ ≡ sets o₁ r (flat coarse_bytes own) → Stored o₂ r k
    stored_turn {r} {o₁} {o₂} x e y =
        let f = fine_bytes (cells_at t entry_cells (p + entry_size * k)) in
        let F = flat fine_bytes (entries_from t p n (suc k)) in
        let c = flat coarse_bytes own in
        let C = flat coarse_bytes (begun t p n (suc k)) in
        let size = coarse_size own in
        let up : k + 1 ≡ suc k = add-one k in
        let rows : flat fine_bytes (entries_from t p n k) ≡ f ++ F = rw (left_turn (cells_at t entry_cells) entry_size p n k i.within, up) in
        let coarse : flat coarse_bytes (begun t p n k) ≡ c ++ C = rw more (flat_append coarse_bytes own (begun t p n (suc k))) in
        let next : fine + 4 * suc k ≡ fine + 4 * k + 4 = omega arith in
        let one : o₁ ≡ sets (sets o₀ to C) (fine + 4 * k) (f ++ F) = put_below (sets o₀ to C) (fine + 4 * k) 4 f F (bytes_length 4 _) next i.rest x in
        let two : o₂ ≡ sets (sets (sets o₀ to C) r c) (fine + 4 * k) (f ++ F) =
        y ∙ rw one (sets_before (sets o₀ to C) r c (fine + 4 * k) (f ++ F) (omega (arith, size, e, i.place))) in
        let below : sets (sets o₀ to C) r c ≡ sets o₀ r (c ++ C) = put_below o₀ r (8 * length own) c C size (sym e) refl refl in
        record {
          within = omega (arith, i.within);
          long = ap length y ∙ length-sets o₁ r c ∙ ap length x ∙ length-sets o (fine + 4 * k) f ∙ i.long;
          place = omega (arith, counts, e, i.place);
          rest = two ∙ rw (below, rows, coarse);
        }

  -- all are stored
  pub stored_all : (o : List ℕ) (to : ℕ) → Stored o to 0
      → (to + 8 * runs (entries_at t p n) ≡ fine) × (o ≡ sets o₀ to (flat coarse_bytes (coarse_rows (entries_at t p n)) ++ flat fine_bytes (entries_at t p n)))
  unfolding runs
  stored_all o to i =
      let C = flat coarse_bytes (coarse_rows (entries_at t p n)) in
      let e : fine + 4 * 0 ≡ fine = omega arith in
      let rest : o ≡ sets (sets o₀ to C) fine (flat fine_bytes (entries_at t p n)) = i.rest ∙ rw (e, left_all (cells_at t entry_cells) entry_size p n) in
      (i.place, part_then o₀ to (8 * length (coarse_rows (entries_at t p n))) C (flat fine_bytes (entries_at t p n)) (coarse_size (coarse_rows (entries_at t p n))) (sym i.place) refl rest)

  -- without entries nothing is
  pub stored_empty : n ≡ 0 → (fine + 8 * runs (entries_at t p n) ≡ fine) × (o₀ ≡ sets o₀ fine (flat coarse_bytes (coarse_rows (entries_at t p n)) ++ flat fine_bytes (entries_at t p n)))
  stored_empty z = stored_all o₀ fine (subst (λ (k : ℕ). Stored o₀ fine k) z stored_none)

  -- ---- the entries that are not the first

  -- the rows behind entry k are stored, and its numbers are at hand
  pub record Turning (o : List ℕ) (to k : ℕ) (e : EntryRow) : Type 0 where
    pub stored : Stored o to (suc k)
    pub is : EntryIs t (p + entry_size * k) e

  -- before the first turn none is
  pub turning_first : (k : ℕ) {e : EntryRow} → 0 < n → k ≡ n - 1 → EntryIs t (p + entry_size * k) e → Turning o₀ fine k e
  turning_first k h e is = let up : n ≡ suc k = omega arith in record { stored = subst (λ (x : ℕ). Stored o₀ fine x) up stored_none; is = is }

  module _ (o : List ℕ) (to k : ℕ) (e : EntryRow) (i : Turning o to k e) (h : 0 < k) {before : EntryRow} (b : EntryIs t (p + entry_size * (k - 1)) before) where
    -- the entry before it is one row below
    below_it : EntryIs t (p + entry_size * k - entry_size) before
    below_it = let place : p + entry_size * (k - 1) ≡ p + entry_size * k - entry_size = omega arith in subst (λ (q : ℕ). EntryIs t q before) place b

    -- what the entry adds, by the numbers
    adds : begun t p n k ≡ own_by k before e ++ begun t p n (suc k)
    adds = own_later k h i.stored.within ∙ ap (λ (l : List Row). l ++ begun t p n (suc k)) (sym (own_pairs t (p + entry_size * k - entry_size) (p + entry_size * k) k below_it i.is))

    -- there is room for it
    pub turning_room : 8 * runs (entries_at t p n) ≤ fine → 8 * length (own_by k before e) ≤ to
    turning_room room = stored_room o to k i.stored (own_by k before e) adds room

    -- its rows are stored
    pub turning_next : {r : ℕ} {o₁ o₂ : List ℕ} → o₁ ≡ sets o (fine + 4 * k) (fine_bytes (cells_at t entry_cells (p + entry_size * k))) → r + 8 * length (own_by k before e) ≡ to
        → o₂ ≡ sets o₁ r (flat coarse_bytes (own_by k before e)) → Turning o₂ r (k - 1) before
    turning_next {r} {o₂ = o₂} x size y =
        let up : k ≡ suc (k - 1) = omega arith in
        let next = stored_turn o to k i.stored (own_by k before e) adds x size y in
        record { stored = subst (λ (j : ℕ). Stored o₂ r j) up next; is = b }

  -- ---- the first entry, which begins a run

  module _ (some : 0 < n) (o : List ℕ) (to k : ℕ) (e : EntryRow) (i : Turning o to k e) (last : k ≡ 0) where
    -- the rows behind the first entry are stored
    one_left : Stored o to 1
    one_left = subst (λ (x : ℕ). Stored o to (suc x)) last i.stored

    -- its numbers are at hand
    pub first_is : EntryIs t p e
    first_is = let place : p + entry_size * k ≡ p = omega arith in subst (λ (q : ℕ). EntryIs t q e) place i.is

    -- there is room for its coarse row
    pub first_room : 8 * runs (entries_at t p n) ≤ fine → 8 ≤ to
    first_room room = stored_room o to 0 one_left (coarse_row 0 (cells_at t entry_cells (p + entry_size * 0)) ∷ []) (begun_first t p n some) room

    -- with its rows all are stored
    pub first_stored : {o₁ o₂ : List ℕ} → 8 * runs (entries_at t p n) ≤ fine → o₁ ≡ sets o fine (fine_bytes (cells_at t entry_cells p))
        → o₂ ≡ sets o₁ (to - 8) (coarse_bytes (coarse_by 0 e.time e.packet))
        → (to - 8 + 8 * runs (entries_at t p n) ≡ fine) × (o₂ ≡ sets o₀ (to - 8) (flat coarse_bytes (coarse_rows (entries_at t p n)) ++ flat fine_bytes (entries_at t p n)))
    first_stored {o₁ = o₁} {o₂ = o₂} room x y =
        let row = coarse_row 0 (cells_at t entry_cells (p + entry_size * 0)) in
        let start : p + entry_size * 0 ≡ p = omega arith in
        let place : fine + 4 * 0 ≡ fine = omega arith in
        let x' : o₁ ≡ sets o (fine + 4 * 0) (fine_bytes (cells_at t entry_cells (p + entry_size * 0))) = rw (start, place) x in
        let y' : o₂ ≡ sets o₁ (to - 8) (coarse_bytes row) = rw start (coarse_put t p 0 e o₁ (to - 8) first_is y) in
        let own = own_stored (row ∷ []) row o₁ to refl (first_room room) y' in
        stored_all o₂ (to - 8) (stored_turn o to 0 one_left (row ∷ []) (begun_first t p n some) x' own.0 own.1)

-- ---- the body

-- how long it is
pub body_size : (t : List ℕ) (p n : ℕ) → length (body_bytes (entries_at t p n)) ≡ 4 + 8 * runs (entries_at t p n) + 4 * n
body_size t p n = body_length (entries_at t p n) ∙ ap (λ (m : ℕ). 4 + 8 * runs (entries_at t p n) + 4 * m) (rows_length (cells_at t entry_cells) (λ q. q + entry_size) p n)

-- there are not more runs than entries
pub runs_within : (t : List ℕ) (p n : ℕ) → runs (entries_at t p n) ≤ n
runs_within t p n = omega (arith, runs_few (entries_at t p n), rows_length (cells_at t entry_cells) (λ q. q + entry_size) p n)

-- the coarse rows were stored, then the fine address before them, then the fine rows behind them
pub body_stored : (es : List Row) (o : List ℕ) (at fine v : ℕ) {o₁ o₂ o₃ : List ℕ} → fine ≡ at + 4 + 8 * runs es → v ≡ fine - at
    → o₁ ≡ sets o (at + 4) (flat coarse_bytes (coarse_rows es)) → o₂ ≡ sets o₁ at (bytes_of 4 v) → o₃ ≡ sets o₂ fine (flat fine_bytes es)
    → o₃ ≡ sets o at (body_bytes es)
unfolding body_bytes runs
body_stored es o at fine v {o₂ = o₂} f e p q r =
    let address = bytes_of 4 (4 + 8 * length (coarse_rows es)) in
    let coarse = flat coarse_bytes (coarse_rows es) in
    let value : v ≡ 4 + 8 * length (coarse_rows es) = omega arith in
    let size = bytes_length 4 (4 + 8 * length (coarse_rows es)) in
    let rows : length coarse ≡ 8 * length (coarse_rows es) = flat_length 8 coarse_bytes (all_rows (λ row. bytes_length 8 (packed coarse_widths row)) (coarse_rows es)) in
    let swapped : o₂ ≡ sets (sets o at address) (at + 4) coarse = q ∙ rw (p, value) (sets_before o at address (at + 4) coarse (omega arith)) in
    part_then o at 4 address (coarse ++ flat fine_bytes es) size refl refl
    (part_then (sets o at address) (at + 4) (8 * length (coarse_rows es)) coarse (flat fine_bytes es) rows f swapped r)

-- the rows were stored, and then the fine address below them
pub body_below : (es : List Row) (o : List ℕ) (coarse fine : ℕ) {o₁ o₂ : List ℕ} → coarse + 8 * runs es ≡ fine → 4 ≤ coarse
    → o₁ ≡ sets o coarse (flat coarse_bytes (coarse_rows es) ++ flat fine_bytes es) → o₂ ≡ sets o₁ (coarse - 4) (bytes_of 4 (fine - coarse + 4))
    → o₂ ≡ sets o (coarse - 4) (body_bytes es)
unfolding body_bytes
body_below es o coarse fine {o₁} e h p q =
    let value : fine - coarse + 4 ≡ 4 + 8 * runs es = omega arith in
    put_below o (coarse - 4) 4 (bytes_of 4 (4 + 8 * runs es)) (flat coarse_bytes (coarse_rows es) ++ flat fine_bytes es) (bytes_length 4 (4 + 8 * runs es)) (omega arith) p
    (q ∙ ap (λ (v : ℕ). sets o₁ (coarse - 4) (bytes_of 4 v)) value)

-- ---- the header

-- a header stored by its numbers is the map's
pub header_is : (t : List ℕ) (p n : ℕ) (maps : List ℕ) (q address : ℕ) {pid kind count : ℕ} → CellIs maps q pid → CellIs maps (q + 4) kind → count ≡ runs (entries_at t p n)
    → field_bytes (2 ∷ 6 ∷ 4 ∷ []) (pid ∷ packed header_widths (0 ∷ kind ∷ count ∷ n ∷ []) ∷ address ∷ []) ≡ header_bytes (cells_at maps 3 q) (entries_at t p n) address
header_is t p n maps q address {pid} {kind} {count} a b e =
    let a' : pid ≡ map_pid (cells_at maps 3 q) = row_cell maps 3 q 0 (omega arith) (omega arith) a.same in
    let b' : kind ≡ map_type_of (cells_at maps 3 q) = row_cell maps 3 q 1 (omega arith) refl b.same in
    let row = cells_at maps 3 q in
    let es = entries_at t p n in
    let counts : 0 ∷ kind ∷ count ∷ n ∷ [] ≡ 0 ∷ map_type_of row ∷ runs es ∷ length es ∷ [] = rw (b', e, rows_length (cells_at t entry_cells) (λ q. q + entry_size) p n) in
    ap₂ (λ (x y : ℕ). field_bytes (2 ∷ 6 ∷ 4 ∷ []) (x ∷ y ∷ address ∷ [])) a' (ap (packed header_widths) counts)

-- the body was stored, and then the header
pub map_put : (t : List ℕ) (p n : ℕ) (maps : List ℕ) (k : ℕ) (o : List ℕ) (at body : ℕ) {pid kind count : ℕ} {o₁ o₂ : List ℕ}
    → CellIs maps (12 * k) pid → CellIs maps (12 * k + 4) kind → count ≡ runs (entries_at t p n) → o₁ ≡ sets o body (body_bytes (entries_at t p n))
    → o₂ ≡ sets o₁ (at + 8 + 12 * k) (field_bytes (2 ∷ 6 ∷ 4 ∷ []) (pid ∷ packed header_widths (0 ∷ kind ∷ count ∷ n ∷ []) ∷ (body - (at + 6)) ∷ []))
    → o₂ ≡ sets (sets o body (body_bytes (entries_at t p n))) (at + 8 + 12 * k) (header_bytes (cells_at maps 3 (12 * k)) (entries_at t p n) (body - (at + 6)))
map_put t p n maps k o at body a b e x y =
    y ∙ ap₂ (λ (l b : List ℕ). sets l (at + 8 + 12 * k) b) x (header_is t p n maps (12 * k) (body - (at + 6)) a b e)
