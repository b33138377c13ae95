-- The head and an entry by their tests, and a turn of each pass over the entries.
use Prim.Native.Nat.{ℕ, ◌+◌, ◌*◌, ◌-◌, ◌<◌, ◌≤◌, min}
use mathlib.Core.Path.{◌≡◌, refl, sym, ap, ◌∙◌}
use mathlib.Core.List.{List, [], ◌∷◌, ◌++◌, append-nil}
use mathlib.Core.Bool.{Bool, true, false, not}
use native.Mathlib.Nat.{add-zero, sub-zero}
use native.Mathlib.Omega.{arith}
use lib.ListN.{length, length-append}
use lib.Seq.{sets}
use lib.Dec.{leb, ltb, eqb}
use borrow.Author.Tests.{eq-eqb, ne_eqb, le-leb, lt-leb, lt-ltb, le-ltb, leb-true}
use Rattle.format.specs.Bytes.{IsBytes, both, pick, gather}
use Rattle.format.specs.ClipRecord.{Row}
use Rattle.format.specs.Extensions.{block_length, block_end, extension_count, next_extension, extension_at, is_kept, kept_at, has_extensions, extension_rows, extensions_from, Found, nothing, found, list_data}
use Rattle.format.specs.Tables.{row_bytes_of, table_bytes, row_room, overwritten, extension_cells}
use Rattle.format.proofs.Tests.{both_true, left_fails, right_fails, ap_pick}
use Rattle.format.proofs.Lists.{none, more}
use Rattle.format.proofs.Stores.{be_below}
use Rattle.format.proofs.Rows.{gather_all}
use Rattle.format.proofs.Loops.{one_left, none_left, sets_front}
use Rattle.format.proofs.Sweep.{row_bytes_lem, HaveCells, table_bytes_lem, Filling, group_room, group_put}
use Rattle.std.specs.Prelude.{Option, Some, None}
use Rattle.std.specs.Option.{option_or}
use Rattle.extension.specs.Block.{block_head, Block, rows_in, extensions_in, entry_rows_of, entry_end, EntryIs, entry_list, found_in, list_end, MeasuredIs, PutIs}
use Rattle.extension.specs.declared.BlockHead.{BlockHead}
use Rattle.extension.specs.declared.ExtensionDataEntry.{ExtensionDataEntry}
use Rattle.extension.specs.declared.ListData.{ListData}
use Rattle.extension.specs.declared.MeasuredBlock.{MeasuredBlock}

-- ---- the head

-- seven bytes behind the length stands the count
pub seven : (start : ℕ) → start + 4 + 7 ≡ start + 11
seven start = omega arith

module _ (f : List ℕ) (start : ℕ) where
  -- the tests of the block: it is present, its length is not 0, its entries do not pass the end
  abbrev some : Bool
  some = not (eqb start 0)

  abbrev before : Bool
  before = ltb start (length f)

  abbrev long : Bool
  long = not (eqb (block_length f start) 0)

  abbrev whole : Bool
  whole = leb (start + 12 + 12 * extension_count f start) (length f)

  -- a test of the block that fails leaves no entries
  empty : has_extensions f start ≡ false → None ≡ block_head f start
  unfolding block_head
  empty h = rw h

  -- no block starts at 0
  pub at_zero : start ≡ 0 → None ≡ block_head f start
  at_zero h = empty (left_fails (both long whole) (left_fails before (ap not (eq-eqb start 0 h))))

  -- nor at or past the end
  pub at_end : length f ≤ start → None ≡ block_head f start
  at_end h = empty (left_fails (both long whole) (right_fails some (le-ltb start (length f) h)))

  -- a block of length 0 has no entries
  pub no_length : {v : ℕ} → v ≡ block_length f start → v ≡ 0 → None ≡ block_head f start
  no_length e h = empty (right_fails (both some before) (left_fails whole (ap not (eq-eqb (block_length f start) 0 (sym e ∙ h)))))

  -- nor has one whose entries pass the end
  pub too_short_lem : length f < start + 12 + 12 * extension_count f start → None ≡ block_head f start
  too_short_lem h = empty (right_fails (both some before) (right_fails long (lt-leb (start + 12 + 12 * extension_count f start) (length f) h)))

  -- else there are entries
  pub entries : {v n end : ℕ} → (start ≡ 0 → ⊥) → start < length f → v ≡ block_length f start → (v ≡ 0 → ⊥) → n ≡ extension_count f start
      → start + 12 + 12 * n ≤ length f → end ≡ min (start + 4 + v) (length f) → Some (record { n = n; end = end }) ≡ block_head f start
  unfolding block_head
  entries {v} {n} {end} not_zero inside length_is not-empty n-is room stop =
      let bl : eqb (block_length f start) 0 ≡ false = ne_eqb (block_length f start) 0 (λ h. not-empty (length_is ∙ h)) in
      let all : whole ≡ true = le-leb (start + 12 + 12 * extension_count f start) (length f) (rw n-is at room) in
      rw (ne_eqb start 0 not_zero, lt-ltb start (length f) inside, bl, all, stop, n-is, length_is)

  -- the rows of a block with no entries
  pub no_rows : None ≡ block_head f start → extension_rows f start ≡ []
  unfolding block_head extension_rows
  no_rows e = by_test (has_extensions f start) refl
    where
      by_test : (t : Bool) → has_extensions f start ≡ t → extension_rows f start ≡ []
      by_test true h = let is = rw h at e in let z : ◌≡◌ {A = ℕ} 0 1 = cc in absurd (omega arith)
      by_test false h = rw h

  -- what a head with entries says
  record Has (head : BlockHead) : Type 0 where
    is : has_extensions f start ≡ true
    count : head.n ≡ extension_count f start
    stop : head.end ≡ min (block_end f start) (length f)

  -- it says so
  has : {head : BlockHead} → Some head ≡ block_head f start → Has head
  unfolding block_head
  has {head} e = by_test (has_extensions f start) refl
    where
      by_test : (t : Bool) → has_extensions f start ≡ t → Has head
      by_test true h =
          let is = rw h at e in
          let read : BlockHead = record { n = extension_count f start; end = min (block_end f start) (length f) } in
          let same : head ≡ read = cc in
          record { is = h; count = ap (λ (x : BlockHead). x.n) same; stop = ap (λ (x : BlockHead). x.end) same }
      by_test false h = let is = rw h at e in let z : ◌≡◌ {A = ℕ} 0 1 = cc in absurd (omega arith)

  -- its rows are those of the n entries
  pub rows_are : {head : BlockHead} → Some head ≡ block_head f start → extension_rows f start ≡ rows_in f start head.n
  unfolding extension_rows
  rows_are e = let h = has e in rw (h.is, h.count)

  -- what the passes over the entries rely on holds
  pub block : {head : BlockHead} → IsBytes f → length f ≤ 536870912 → Some head ≡ block_head f start → Block f start head.n head.end
  block bytes small e =
      let h = has e in
      let t = (both_true {a = long} (both_true {a = both some before} h.is).1).1 in
      let room = leb-true (start + 12 + 12 * extension_count f start) (length f) t in
      record { short = small; room = rw h.count room; few = omega (arith, h.count, be_below f bytes (start + 11) 1); stop = h.stop }

-- ---- the list

-- the first of two finds
abbrev pub or_found : Found → Found → Found
or_found nothing later = later
or_found (found d) later = found d

-- the list of rows
abbrev pub list_from : List ℕ → List Row → Found
list_from f rows = list_data (extensions_in f rows)

-- nothing behind a find leaves it
or_nothing : (x : Found) → or_found x nothing ≡ x
or_nothing nothing = refl
or_nothing (found d) = refl

-- nothing behind a list leaves it
or_none : (x : Option ListData) → x ≡ option_or x None
or_none None = refl
or_none (Some list) = refl

-- an entry before the rows that are left
listed_first : (f : List ℕ) (list : Option ListData) (e : Option ExtensionDataEntry) (rest : List Row)
    → or_found (found_in f (option_or list (entry_list e))) (list_from f rest) ≡ or_found (found_in f list) (list_from f (entry_rows_of e ++ rest))
unfolding list_data
listed_first f (Some l) e rest = refl
listed_first f None None rest = refl
listed_first f None (Some e) rest =
    ap_pick (λ (l : Option ListData). or_found (found_in f l) (list_from f rest)) (both (eqb e.id1 2) (eqb e.id2 5)) (Some (record { start = e.start; len = e.len })) None

-- the place lies inside the file, as each entry's data does
listed_inside : (f : List ℕ) (list : Option ListData) (e : Option ExtensionDataEntry) → list_end list ≤ length f → entry_end e ≤ length f
    → list_end (option_or list (entry_list e)) ≤ length f
listed_inside f (Some l) e h k = h
listed_inside f None None h k = h
listed_inside f None (Some e) h k = by_test (both (eqb e.id1 2) (eqb e.id2 5))
  where
    by_test : (t : Bool) → list_end (pick t (Some (record { start = e.start; len = e.len })) None) ≤ length f
    by_test true = k
    by_test false = h

-- ---- the passes over n entries

-- an entry gives at most one row
pub one_row : (e : Option ExtensionDataEntry) → length (entry_rows_of e) ≤ 1
one_row None = omega arith
one_row (Some e) = omega arith

-- what an entry stores: nothing where it is left out
pub none_put : (at : ℕ) (t : List ℕ) → PutIs (entry_rows_of None) at t t at
none_put at t = record { next = omega arith; stored = refl }

-- else one row
module _ (e : ExtensionDataEntry) where
  -- its bytes
  abbrev row : List ℕ
  row = row_bytes_of (e.id1 ∷ e.id2 ∷ e.start ∷ e.len ∷ [])

  -- they are all that it stores
  entry_bytes : table_bytes (entry_rows_of (Some e)) ≡ row
  entry_bytes = append-nil row

  -- how many they are
  pub entry_size_lem : length (table_bytes (entry_rows_of (Some e))) ≡ 16
  entry_size_lem = rw entry_bytes (row_bytes_lem (e.id1 ∷ e.id2 ∷ e.start ∷ e.len ∷ []))

  -- they are stored
  pub one_put : (at : ℕ) (t : List ℕ) {t' : List ℕ} → t' ≡ sets t at row → PutIs (entry_rows_of (Some e)) at t t' (at + 16)
  one_put at t h = record { next = rw entry_size_lem; stored = rw entry_bytes h }

module _ (f : List ℕ) (start n : ℕ) where
  -- the rows that are left after k of n turns
  abbrev pub left : ℕ → ℕ → List Row
  left p k = gather (kept_at f start) next_extension p (n - k)

  -- of the measuring pass: what is counted and found, with what is left, is the whole
  pub record Counted (p k rows : ℕ) (list : Option ListData) : Type 0 where
    pub turns : k ≤ n
    pub few : rows ≤ k
    pub inside : list_end list ≤ length f
    pub count : rows + length (left p k) ≡ length (rows_in f start n)
    pub first : or_found (found_in f list) (list_from f (left p k)) ≡ list_from f (rows_in f start n)

  -- before the first turn
  pub none_counted : Counted (start + 12) 0 0 None
  none_counted = record {
    turns = omega arith;
    few = omega arith;
    inside = omega arith;
    count = rw sub-zero (omega arith);
    first = rw sub-zero;
  }

  -- a turn
  one_counted : {p k rows : ℕ} {list : Option ListData} (e : Option ExtensionDataEntry) {more : ℕ} {list' : Option ListData} → k < n → EntryIs f start p e
      → more ≡ length (entry_rows_of e) → list' ≡ option_or list (entry_list e) → Counted p k rows list → Counted (p + 12) (k + 1) (rows + more) list'
  one_counted {p} {k} {rows} {list} e {more} {list'} h is one two c =
      let rest = gather (kept_at f start) next_extension (p + 12) (n - (k + 1)) in
      let whole : left p k ≡ entry_rows_of e ++ rest = rw (one_left n k h, is.rows) in
      record {
        turns = omega arith;
        few = omega (arith, c.few, one_row e);
        inside = rw two (listed_inside f list e c.inside is.inside);
        count = omega (arith, rw (whole, length-append) at c.count);
        first = rw two (listed_first f list e rest ∙ rw whole at c.first);
      }

  -- a turn over an entry that is kept
  pub kept_counted : {p k rows : ℕ} {list : Option ListData} (e : ExtensionDataEntry) {list' : Option ListData} → k < n → EntryIs f start p (Some e)
      → list' ≡ option_or list (entry_list (Some e)) → Counted p k rows list → Counted (p + 12) (k + 1) (rows + 1) list'
  kept_counted e h is two c = one_counted (Some e) h is refl two c

  -- a turn over one that is left out
  pub left_counted : {p k rows : ℕ} {list : Option ListData} → k < n → EntryIs f start p None → Counted p k rows list → Counted (p + 12) (k + 1) rows list
  left_counted {rows = rows} {list = list} h is c = rw (add-zero rows) at (one_counted None h is refl (or_none list) c)

  -- after the last turn
  pub all_counted : {p k rows : ℕ} {list : Option ListData} → n ≤ k → n ≤ 255 → Counted p k rows list
      → MeasuredIs f (rows_in f start n) (extensions_in f (rows_in f start n)) (record { rows = rows; list = list })
  unfolding list_data
  all_counted {p} {k} {rows} {list} h small c =
      let all : left p k ≡ [] = rw (none_left n k h) in
      record {
        rows = omega (arith, rw all at c.count);
        few = omega (arith, c.few, c.turns);
        list = sym (or_nothing (found_in f list)) ∙ rw all at c.first;
        inside = c.inside;
      }

  -- of the storing pass: where it stands, and the table while it is filled
  pub record Stored (p k at : ℕ) (t₀ t : List ℕ) : Type 0 where
    pub turns : k ≤ n
    pub fills : Filling (gather (kept_at f start) next_extension) t₀ (sets t₀ 0 (table_bytes (rows_in f start n))) t at p n k

  module _ {p k at : ℕ} {t₀ t : List ℕ} (e : Option ExtensionDataEntry) (h : k < n) (is : EntryIs f start p e) (c : Stored p k at t₀ t) where
    -- the entry's bytes are those of the item that comes next
    size : length (table_bytes (kept_at f start p)) ≡ length (table_bytes (entry_rows_of e))
    size = ap (λ (rows : List Row). length (table_bytes rows)) (sym is.rows)

    -- the next row has room
    pub room_stored : at + length (table_bytes (entry_rows_of e)) ≤ length t
    room_stored = group_room (kept_at f start) next_extension c.fills h size

    -- a turn
    pub one_stored : {at' : ℕ} {t' : List ℕ} → PutIs (entry_rows_of e) at t t' at' → Stored (p + 12) (k + 1) at' t₀ t'
    one_stored put = record {
      turns = omega arith;
      fills = rw put.next (group_put (kept_at f start) next_extension c.fills h size (rw is.rows at put.stored) refl);
    }

-- ---- the measuring pass

module _ (f : List ℕ) (start : ℕ) where
  -- no rows
  pub nothing_measured : extension_rows f start ≡ []
      → MeasuredIs f (extension_rows f start) (extensions_from f start) (record { rows = 0; list = None })
  unfolding extensions_from list_data
  nothing_measured is = record { rows = rw is; few = omega arith; list = rw is; inside = omega arith }

  -- the rows of the entries
  pub all_measured : (n : ℕ) {r : MeasuredBlock} → extension_rows f start ≡ rows_in f start n → MeasuredIs f (rows_in f start n) (extensions_in f (rows_in f start n)) r
      → MeasuredIs f (extension_rows f start) (extensions_from f start) r
  unfolding extensions_from
  all_measured n is m = rw is m

-- ---- table 7

module _ (f : List ℕ) (start n : ℕ) where
  -- an entry's row has four cells
  kept_cells : (p : ℕ) → HaveCells 4 (kept_at f start p)
  kept_cells p = by_test (is_kept f start p)
    where
      by_test : (t : Bool) → HaveCells 4 (pick t (extension_at f start p ∷ []) [])
      by_test true = more refl none
      by_test false = none

  module _ (t : List ℕ) (is : extension_rows f start ≡ rows_in f start n) (h : length (extension_rows f start) ≤ row_room extension_cells t) where
    -- a table with room for the rows has room for their bytes
    pub table_room : length (table_bytes (rows_in f start n)) ≤ length t
    table_room = omega (arith, table_bytes_lem 4 (gather_all (kept_at f start) next_extension kept_cells (start + 12) n), rw is at h)

    -- stored from its front they leave what stands beyond them
    pub table_filled : {t' : List ℕ} → t' ≡ sets t 0 (table_bytes (rows_in f start n)) → t' ≡ overwritten (table_bytes (extension_rows f start)) t
    table_filled e = rw is (sets_front t (table_bytes (rows_in f start n)) table_room e)

-- a table that gets no rows
pub table_kept : (f : List ℕ) (start : ℕ) (t : List ℕ) → extension_rows f start ≡ [] → t ≡ overwritten (table_bytes (extension_rows f start)) t
table_kept f start t is = rw is
