-- A pass over items that stand one behind the other, of any kind: where it has come to, what it has counted, and the tables that it fills.
use Prim.Native.Nat.{ℕ, zero, suc, ◌+◌, ◌*◌, ◌-◌, ◌<◌, ◌≤◌}
use mathlib.Core.Path.{◌≡◌, refl, sym, ap, ◌∙◌}
use mathlib.Core.List.{List, [], ◌++◌}
use native.Mathlib.Nat.{sub-zero, le_trans, mul_comm}
use native.Mathlib.Omega.{arith}
use lib.ListN.{length, length-append}
use lib.Seq.{sets, length-sets}
use lib.Dec.{leb}
use borrow.Author.Tests.{le-leb, lt-leb}
use Rattle.format.specs.Bytes.{pick, be_at, rows_at, gather, end_of}
use Rattle.format.specs.ClipRecord.{Row}
use Rattle.format.specs.Tables.{cell_bytes, row_bytes_of, table_bytes, row_room, overwritten}
use Rattle.format.proofs.Lists.{All, all_map}
use Rattle.format.proofs.Cell.{rows_room}
use Rattle.format.proofs.Cells.{low_length}
use Rattle.format.proofs.Rows.{all_rows, rows_length, rows_all, flat_length}
use Rattle.format.proofs.Loops.{one_left, none_left, flat_append, put_more, sets_front, end_ge, end_turn, end_done, end_past}

-- ---- the place

-- where n items of w bytes each end
pub end_steps : (w p n : ℕ) → end_of (λ q. q + w) p n ≡ p + w * n
end_steps w p zero = omega arith
end_steps w p (suc n) = end_steps w (p + w) n ∙ omega arith

-- after k of n items from p₀ the pass stands at p, within len bytes
pub record Along (next : ℕ → ℕ) (len p₀ n p k : ℕ) : Type 0 where
  pub turns : k ≤ n
  pub inside : p ≤ len
  pub end : end_of next p (n - k) ≡ end_of next p₀ n

-- before the first item
pub along_first : (next : ℕ → ℕ) {len p n : ℕ} → p ≤ len → Along next len p n p 0
along_first next {n = n} h = record { turns = omega arith; inside = h; end = rw (sub-zero n) }

module _ {next : ℕ → ℕ} {len p₀ n p k : ℕ} (a : Along next len p₀ n p k) where
  -- past an item that ends within
  pub along_turn : {q : ℕ} → k < n → q ≡ next p → q ≤ len → Along next len p₀ n q (k + 1)
  along_turn h e i = record { turns = omega arith; inside = i; end = rw e (sym (end_turn next p n k h) ∙ a.end) }

  -- past the last item
  pub along_done : n ≤ k → p ≡ end_of next p₀ n
  along_done h = sym (end_done next p n k h) ∙ a.end

  -- where an item passes the end, so do all of them
  pub along_past : ((q : ℕ) → q ≤ next q) → k < n → len < next p → len < end_of next p₀ n
  along_past up h i = omega (arith, end_past next p n k up h, a.end)

  -- where all items end within, each does
  pub along_within : ((q : ℕ) → q ≤ next q) → k < n → end_of next p₀ n ≤ len → next p ≤ len
  along_within up h i = omega (arith, end_past next p n k up h, a.end)

-- ---- the count

-- after k of n items from p₀ the pass stands at p and has counted m rows behind them, at most 255 for each
pub record Counted (rows : ℕ → List Row) (next : ℕ → ℕ) (p₀ n p k m : ℕ) : Type 0 where
  pub small : m ≤ 255 * k
  pub rest : m + length (gather rows next p (n - k)) ≡ length (gather rows next p₀ n)

-- before the first item
pub counted_first : (rows : ℕ → List Row) (next : ℕ → ℕ) {p n : ℕ} → Counted rows next p n p 0 0
counted_first rows next {n = n} = record { small = omega arith; rest = rw (sub-zero n) (omega arith) }

module _ {rows : ℕ → List Row} {next : ℕ → ℕ} {p₀ n p k m : ℕ} (a : Counted rows next p₀ n p k m) where
  -- past an item with c rows
  pub counted_turn : {c q : ℕ} → k < n → q ≡ next p → c ≡ length (rows p) → c < 256 → Counted rows next p₀ n q (k + 1) (m + c)
  counted_turn h e is b = record {
    small = omega (arith, a.small);
    rest = rw e (omega (arith, rw (one_left n k h, length-append) at a.rest));
  }

  -- past the last item
  pub counted_done : n ≤ k → m ≡ length (gather rows next p₀ n)
  counted_done h = omega (arith, rw (none_left n k h) at a.rest)

-- ---- a section: six bytes, the last of them the count, and then items; C tells its heads and the rows behind them

module _ {A : Type 0} (C : ℕ → ℕ → A) (past : A) (head : ℕ → Row) (rows : ℕ → List Row) (next : ℕ → ℕ) (f : List ℕ) (start : ℕ) where
  -- the measure, where the section ends within the file
  abbrev pub section_of : A
  section_of =
      let n = be_at f (start + 5) 1 in
      pick (leb (end_of next (start + 6) n) (length f))
      (C (length (rows_at head next (start + 6) n)) (length (gather rows next (start + 6) n)))
      past

  module _ {p n : ℕ} (count : n ≡ be_at f (start + 5) 1) (place : p ≡ start + 6) where
    -- a pass that has come past the last item has measured it
    pub section_done : {e k m : ℕ} → Along next (length f) p n e k → Counted rows next p n e k m → n ≤ k → C n m ≡ section_of
    section_done {e} {k} {m} a b h =
        let here : end_of next (start + 6) (be_at f (start + 5) 1) ≡ e = rw (← count, ← place) (sym (along_done a h)) in
        let rest : length (gather rows next (start + 6) (be_at f (start + 5) 1)) ≡ m = rw (← count, ← place) (sym (counted_done b h)) in
        rw (here, le-leb e (length f) a.inside, rows_length head next (start + 6) (be_at f (start + 5) 1), rest, ← count)

    -- a pass that meets an item past the end tells that the section passes it
    pub section_past : {e k : ℕ} → Along next (length f) p n e k → ((q : ℕ) → q ≤ next q) → k < n → length f < next e → past ≡ section_of
    section_past a up h i =
        let beyond : length f < end_of next (start + 6) (be_at f (start + 5) 1) = rw (← count, ← place) (along_past a up h i) in
        rw (lt-leb (end_of next (start + 6) (be_at f (start + 5) 1)) (length f) beyond)

  -- a section whose six bytes pass the end
  pub section_short : ((q : ℕ) → q ≤ next q) → length f < start + 6 → past ≡ section_of
  section_short up h =
      let beyond : length f < end_of next (start + 6) (be_at f (start + 5) 1) = le_trans h (end_ge next up (start + 6) (be_at f (start + 5) 1)) in
      rw (lt-leb (end_of next (start + 6) (be_at f (start + 5) 1)) (length f) beyond)

-- ---- tables

-- the bytes of a row
pub row_bytes_lem : (row : Row) → length (row_bytes_of row) ≡ 4 * length row
row_bytes_lem row = flat_length 4 cell_bytes (all_rows (λ v. low_length 4 v) row)

-- rows of so many cells each, and the bytes of them all
abbrev pub HaveCells : ℕ → List Row → Type 0
HaveCells cells rows = All (λ row. length row ≡ cells) rows

-- a table has four bytes for each cell of each row
pub table_bytes_lem : (cells : ℕ) {rows : List Row} → HaveCells cells rows → length (table_bytes rows) ≡ 4 * cells * length rows
table_bytes_lem cells h = flat_length (4 * cells) row_bytes_of (all_map (λ row e. row_bytes_lem row ∙ ap (λ (n : ℕ). 4 * n) e) h)

-- n rows of so many cells
pub rows_bytes_lem : (cells : ℕ) (row : ℕ → Row) (next : ℕ → ℕ) → ((p : ℕ) → length (row p) ≡ cells) → (p n : ℕ)
    → length (table_bytes (rows_at row next p n)) ≡ 4 * cells * n
rows_bytes_lem cells row next h p n = table_bytes_lem cells (rows_all row next h p n) ∙ ap (λ (k : ℕ). 4 * cells * k) (rows_length row next p n)

-- a table while it is filled, after k of n items, at q: what `items` reads of those that are left has room from `at` on, and put there gives the whole
pub record Filling (items : ℕ → ℕ → List Row) (t₀ whole t : List ℕ) (at q n k : ℕ) : Type 0 where
  pub long : length t ≡ length t₀
  pub room : at + length (table_bytes (items q (n - k))) ≤ length t
  pub rest : sets t at (table_bytes (items q (n - k))) ≡ whole

-- rows that a table has room for, before the first is stored
pub filling_front : (cells : ℕ) (items : ℕ → ℕ → List Row) {rows : List Row} (t : List ℕ) {p n : ℕ} → HaveCells cells rows
    → length rows ≤ row_room cells t → items p n ≡ rows → Filling items t (overwritten (table_bytes rows) t) t 0 p n 0
filling_front cells items {rows} t {p} {n} have room e =
    let fits : length (table_bytes rows) ≤ length t =
    omega (arith, table_bytes_lem cells have, mul_comm (4 * cells) (length rows), rows_room cells t room) in
    record { long = refl; room = rw (sub-zero n, e) (omega arith); rest = rw (sub-zero n, e) (sets_front t (table_bytes rows) fits refl) }

-- n rows of so many cells from `at` on, before the first is stored
pub filling_rows : (cells : ℕ) (row : ℕ → Row) (next : ℕ → ℕ) → ((p : ℕ) → length (row p) ≡ cells) → (t : List ℕ) (at p n : ℕ)
    → at + 4 * cells * n ≤ length t → Filling (rows_at row next) t (sets t at (table_bytes (rows_at row next p n))) t at p n 0
filling_rows cells row next h t at p n room = record {
  long = refl;
  room = rw (sub-zero n) (omega (arith, rows_bytes_lem cells row next h p n));
  rest = rw (sub-zero n);
}

-- all are stored
pub filled : {items : ℕ → ℕ → List Row} {t₀ whole t : List ℕ} {at q n k : ℕ} → ((p : ℕ) → items p 0 ≡ []) → Filling items t₀ whole t at q n k
    → n ≤ k → t ≡ whole
filled {q = q} {n = n} {k = k} none f h = rw (none_left n k h, none q) at f.rest

module _ {items : ℕ → ℕ → List Row} {t₀ whole t : List ℕ} {at q n k : ℕ} (f : Filling items t₀ whole t at q n k) (h : k < n)
    (w q' : ℕ) (part : List ℕ) (e : table_bytes (items q (suc (n - (k + 1)))) ≡ part ++ table_bytes (items q' (n - (k + 1)))) (size : length part ≡ w) where
  -- the bytes that come next have room
  part_room : at + w ≤ length t
  part_room = omega (arith, rw (one_left n k h, e, length-append) at f.room)

  -- the bytes that come next are stored
  part_put : {t' : List ℕ} → t' ≡ sets t at part → Filling items t₀ whole t' (at + w) q' n (k + 1)
  part_put {t'} p =
      let same : length t' ≡ length t = ap length p ∙ length-sets t at part in
      record {
        long = same ∙ f.long;
        room = omega (arith, rw (one_left n k h, e, length-append) at f.room);
        rest = put_more t at w part (table_bytes (items q' (n - (k + 1)))) size p (rw (one_left n k h, e) at f.rest);
      }

-- a row an item
module _ (row : ℕ → Row) (next : ℕ → ℕ) {t₀ whole t : List ℕ} {at q n k : ℕ} (f : Filling (rows_at row next) t₀ whole t at q n k) (h : k < n) where
  -- there is room for the row at q
  pub row_room_lem : at + 4 * length (row q) ≤ length t
  row_room_lem = part_room f h (4 * length (row q)) (next q) (row_bytes_of (row q)) refl (row_bytes_lem (row q))

  -- it is stored
  pub row_put : {t' : List ℕ} {q' : ℕ} → t' ≡ sets t at (row_bytes_of (row q)) → q' ≡ next q
      → Filling (rows_at row next) t₀ whole t' (at + 4 * length (row q)) q' n (k + 1)
  row_put p e = rw e (part_put f h (4 * length (row q)) (next q) (row_bytes_of (row q)) refl (row_bytes_lem (row q)) p)

-- rows behind each item
module _ (rows : ℕ → List Row) (next : ℕ → ℕ) {t₀ whole t : List ℕ} {at q n k : ℕ} (f : Filling (gather rows next) t₀ whole t at q n k) (h : k < n)
    {w : ℕ} (size : length (table_bytes (rows q)) ≡ w) where
  -- there is room for the rows behind the item at q
  pub group_room : at + w ≤ length t
  group_room = part_room f h w (next q) (table_bytes (rows q)) (flat_append row_bytes_of (rows q) (gather rows next (next q) (n - (k + 1)))) size

  -- they are stored
  pub group_put : {t' : List ℕ} {q' : ℕ} → t' ≡ sets t at (table_bytes (rows q)) → q' ≡ next q
      → Filling (gather rows next) t₀ whole t' (at + w) q' n (k + 1)
  group_put p e =
      rw e (part_put f h w (next q) (table_bytes (rows q)) (flat_append row_bytes_of (rows q) (gather rows next (next q) (n - (k + 1)))) size p)
