-- Lines of rows, and what a caller learns of the text.
use Prim.Native.Nat.{ℕ, zero, suc, ◌+◌, ◌*◌, ◌-◌, ◌<◌, ◌≤◌}
use mathlib.Core.Path.{◌≡◌, refl, sym, ap, ap₂, subst, ◌∙◌}
use mathlib.Core.List.{List, [], ◌∷◌, ◌++◌, append_assoc, append-nil}
use native.Mathlib.Nat.{zero-add, mul-suc}
use native.Mathlib.Numerals.{add-one}
use native.Mathlib.Omega.{arith}
use lib.ListN.{length, get_or, take, drop}
use lib.Seq.{drop-drop}
use lib.Dec.{lit<}
use Rattle.format.specs.Bytes.{flat, total, rows_at}
use Rattle.format.specs.ClipRecord.{Row, Record, entry_count, packet, entry_cells, entry_size}
use Rattle.format.specs.Tables.{cells_at, map_cells}
use Rattle.format.specs.Listing.{line, map_word, ep_word, ep_line, map_line, map_lines, record_lines}
use Rattle.format.proofs.Loops.{flat_append, sets_front}
use Rattle.format.proofs.Rows.{take_rows, drop_rows}
use Rattle.cells.specs.Reads.{CellIs}
use Rattle.format.proofs.Cell.{row_cell}
use Rattle.entry_rows.specs.Reads.{EntryHas, TimeIs}
use Rattle.text_lines.specs.declared.Text.{Text}
use Rattle.text_lines.specs.Stored.{PutsIn}
use Rattle.listing.specs.declared.Numbers.{Numbers}
use Rattle.listing.specs.Text.{Shows, maps_from, entries_from, TimesFit, record_room, numbers_of, record_text}

-- ---- rows of a table

-- the line of an entry from its time and its packet
pub entry_line : (t : List ℕ) (q : ℕ) {v w : ℕ} → TimeIs t q v → EntryHas packet 32 t q w → line ep_word (v ∷ w ∷ []) ≡ ep_line (cells_at t entry_cells q)
entry_line t q a b = ap₂ (λ (v w : ℕ). line ep_word (v ∷ w ∷ [])) a.same b.same

-- the line of a map from its three cells
pub map_line_lem : (t : List ℕ) (q : ℕ) {u v w : ℕ} → CellIs t q u → CellIs t (q + 4) v → CellIs t (q + 8) w
    → line map_word (u ∷ v ∷ w ∷ []) ≡ map_line (cells_at t map_cells q)
map_line_lem t q {u} {v} {w} a b c =
    ap₂ (λ (v w : ℕ). line map_word (u ∷ v ∷ w ∷ [])) (row_cell t map_cells q 1 (lit< tt) refl b.same) (row_cell t map_cells q 2 (lit< tt) refl c.same)
    ∙ ap (λ (u : ℕ). line map_word (u ∷ get_or (cells_at t map_cells q) 1 0 ∷ get_or (cells_at t map_cells q) 2 0 ∷ [])) a.same

-- the rows up to the next, which stands behind so many
rows_more : {A : Type 0} (row : ℕ → A) (w p n : ℕ) → rows_at row (λ q. q + w) p (n + 1) ≡ rows_at row (λ q. q + w) p n ++ (row (p + w * n) ∷ [])
rows_more row w p n = rw (add-one n) (go p n)
  where
    go : (p n : ℕ) → rows_at row (λ q. q + w) p (suc n) ≡ rows_at row (λ q. q + w) p n ++ (row (p + w * n) ∷ [])
    go p zero = let e : p + w * 0 ≡ p = omega arith in rw e
    go p (suc n) = let e : p + w + w * n ≡ p + w * suc n = rw mul-suc (omega arith) in ap (λ rows. row p ∷ rows) (go (p + w) n ∙ rw e)

-- the counts of two lists of rows
total_append : (count : Row → ℕ) (xs ys : List Row) → total count (xs ++ ys) ≡ total count xs + total count ys
total_append count [] ys = sym (zero-add (total count ys))
total_append count (x ∷ xs) ys = rw (total_append count xs ys) (omega arith)

-- the counts of the first rows are no more than those of all
total_less : (count : Row → ℕ) (row : ℕ → Row) (next : ℕ → ℕ) (p c n : ℕ) → c ≤ n → total count (rows_at row next p c) ≤ total count (rows_at row next p n)
total_less count row next p zero n h = omega arith
total_less count row next p (suc c) zero h = absurd (omega arith)
total_less count row next p (suc c) (suc n) h = omega (arith, total_less count row next (next p) c n (omega arith))

-- one more entry has its line behind those before it
pub entries_more : (t : List ℕ) (row k : ℕ) → flat ep_line (entries_from t row k) ++ ep_line (cells_at t entry_cells (row + entry_size * k)) ≡ flat ep_line (entries_from t row (k + 1))
entries_more t row k =
    let new = cells_at t entry_cells (row + entry_size * k) in
    sym (ap (flat ep_line) (rows_more (cells_at t entry_cells) entry_size row k)
    ∙ flat_append ep_line (entries_from t row k) (new ∷ [])
    ∙ ap (λ (s : List ℕ). flat ep_line (entries_from t row k) ++ s) (append-nil (ep_line new)))

-- ---- maps: the first i of n maps, with k entries

module _ (maps : List ℕ) (i : ℕ) where
  -- the map behind them
  abbrev next_map : Row
  next_map = cells_at maps map_cells (12 * i)

  -- with it there are so many entries
  pub counts_more : total entry_count (maps_from maps 0 i) + entry_count next_map ≡ total entry_count (maps_from maps 0 (i + 1))
  counts_more =
      let e : 0 + 12 * i ≡ 12 * i = omega arith in
      sym (ap (total entry_count) (rows_more (cells_at maps map_cells) 12 0 i)
      ∙ total_append entry_count (maps_from maps 0 i) (cells_at maps map_cells (0 + 12 * i) ∷ [])
      ∙ rw e (omega arith))

  -- the third cell of its row is its count
  pub count_is : {c : ℕ} → CellIs maps (12 * i + 8) c → c ≡ entry_count next_map
  count_is x = row_cell maps map_cells (12 * i) 2 (lit< tt) refl x.same

  -- its entries are among those of all maps
  pub own_within : (n m k : ℕ) {c : ℕ} → i < n → k ≡ total entry_count (maps_from maps 0 i) → total entry_count (maps_from maps 0 n) ≤ m → CellIs maps (12 * i + 8) c → k + c ≤ m
  own_within n m k h before all x =
      omega (arith, counts_more, count_is x, total_less entry_count (cells_at maps map_cells) (λ q. q + 12) 0 (i + 1) n (omega arith))

-- the lines of one more map
lines_more : (ms es : List Row) (m : Row) → map_lines (ms ++ (m ∷ [])) es ≡ map_lines ms es ++ (map_line m ++ flat ep_line (take (entry_count m) (drop (total entry_count ms) es)))
unfolding map_lines
lines_more [] es m = append-nil (map_line m ++ flat ep_line (take (entry_count m) es))
lines_more (x ∷ ms) es m =
    let first = map_line x ++ flat ep_line (take (entry_count x) es) in
    let later = drop (entry_count x) es in
    rw (lines_more ms later m, drop-drop (total entry_count ms) (entry_count x) es)
    (sym (append_assoc first (map_lines ms later) (map_line m ++ flat ep_line (take (entry_count m) (drop (entry_count x + total entry_count ms) es)))))

-- one more map has its line and those of its own entries behind those before it
pub maps_more : (maps entries : List ℕ) (i m k c : ℕ) → k ≡ total entry_count (maps_from maps 0 i) → c ≡ entry_count (cells_at maps map_cells (12 * i)) → k + c ≤ m
    → map_lines (maps_from maps 0 i) (entries_from entries 0 m) ++ (map_line (cells_at maps map_cells (12 * i)) ++ flat ep_line (entries_from entries (entry_size * k) c))
    ≡ map_lines (maps_from maps 0 (i + 1)) (entries_from entries 0 m)
maps_more maps entries i m k c e f h =
    let row = cells_at entries entry_cells in
    let next = λ (q : ℕ). q + entry_size in
    let place : 0 + k * entry_size ≡ entry_size * k = omega arith in
    let map-at : 0 + 12 * i ≡ 12 * i = omega arith in
    let own : take c (drop k (rows_at row next 0 m)) ≡ rows_at row next (entry_size * k) c =
    rw (drop_rows row entry_size 0 m k (omega arith), take_rows row next (0 + k * entry_size) (m - k) c (omega arith), place) in
    let more = ap (λ (ms : List Row). map_lines ms (rows_at row next 0 m)) (rows_more (cells_at maps map_cells) 12 0 i) in
    sym (more ∙ lines_more (maps_from maps 0 i) (rows_at row next 0 m) (cells_at maps map_cells (0 + 12 * i)) ∙ rw (map-at, ← e, ← f, own))

-- the entries of one map are some of all
pub times_turn : (t : List ℕ) (m k c : ℕ) → k + c ≤ m → TimesFit t 0 m → TimesFit t (entry_size * k) c
times_turn t m k c h fits = record {
  narrow = λ j l. let e : 0 + entry_size * (k + j) ≡ entry_size * k + entry_size * j = omega arith in rw e at (fits.narrow (k + j) (omega arith));
}

-- ---- what a caller learns

-- a text from the front of the output, which is what stands there in the end
pub shows : {old new : Text} {most : ℕ} {s out : List ℕ} → PutsIn most old s new → old.len ≡ 0 → most ≤ length old.out.now → out ≡ new.out.now → Shows old.out.now s new.len out
shows {old} {new} {most} {s} {out} w front h end =
    let text = w.text in record {
      count = omega (arith, text.place);
      within = rw end (omega (arith, w.short, text.size));
      bytes = rw end (sets_front old.out.now s (omega (arith, w.short, text.place)) (rw front at text.bytes));
    }

-- 262,144 bytes are enough for 4,096 rows in each table
pub room_4096 : (n m : ℕ) → n ≤ 4096 → m ≤ 4096 → record_room n m ≤ 262144
room_4096 n m h g = omega arith

-- the text in other words
pub shows_as : {d e : List ℕ} {r : ℕ} {s t : List ℕ} → s ≡ t → Shows d s r e → Shows d t r e
shows_as {d} {e} {r} q h = subst (λ (x : List ℕ). Shows d x r e) q h

-- the text is that of the record with these numbers, maps and entries
pub record_text_lem : (r : Record) {n : Numbers} {ms es : List Row} → n ≡ numbers_of r → ms ≡ r.clip.maps → es ≡ r.clip.entries → record_text n ms es ≡ record_lines r
unfolding record_text record_lines
record_text_lem r a b c = rw (a, b, c)
