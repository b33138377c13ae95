-- Header rows with their own rows behind them: what is left while a loop goes over the header rows, and how long they all are.
use Prim.Native.Nat.{ℕ, ◌+◌, ◌*◌, ◌-◌, ◌<◌, ◌≤◌}
use mathlib.Core.Path.{◌≡◌, refl, sym, ap, ◌∙◌}
use mathlib.Core.List.{List, [], ◌∷◌, ◌++◌}
use native.Mathlib.Nat.{sub-zero, mul_comm, mul-add}
use native.Mathlib.Omega.{arith}
use lib.ListN.{length, take, drop, length-append, length-drop, take-append-drop}
use Rattle.format.specs.Bytes.{end_of, flat, total}
use Rattle.format.specs.ClipRecord.{Row}
use Rattle.format.specs.Rewriting.{groups}
use Rattle.format.specs.Tables.{cells_at, table_rows_of}
use Rattle.format.proofs.Loops.{one_left, none_left, flat_append, total_turn}
use Rattle.format.proofs.Rows.{take_rows, drop_rows}
use Rattle.format.proofs.Sweep.{end_steps}
use Rattle.row_values.specs.declared.RowKind.{RowKind}
use Rattle.row_values.specs.Kinds.{cells_of}
use Rattle.encode_rows.specs.Rows.{step_of, rows_in}
use Rattle.encode_sections.specs.Sections.{head_kind, row_kind, count_of, items_of, group_bytes, count_in, items_in}
use Rattle.section_heads.specs.declared.Section.{Section}

-- where rows of a kind end: the first of them, and those behind these
rows_end : (kind : RowKind) (q c m : ℕ) → end_of (step_of kind) q (c + m) ≡ q + 4 * cells_of kind * c + 4 * cells_of kind * m
rows_end kind q c m = end_steps (4 * cells_of kind) q (c + m) ∙ rw (mul-add (4 * cells_of kind) c m) (omega arith)

-- ---- what is left after k of n header rows, from byte p of their table and byte q of the other on

module _ (section : Section) (heads : List ℕ) (n : ℕ) where
  -- the header rows
  abbrev pub heads_left : (p k : ℕ) → List Row
  heads_left p k = rows_in (head_kind section) heads p (n - k)

  -- how many rows they count
  abbrev pub count_left : (p k : ℕ) → ℕ
  count_left p k = total (count_of section) (heads_left p k)

  -- before the first turn all
  pub count_all : count_left 0 0 ≡ count_in section heads n
  unfolding table_rows_of
  count_all = rw (sub-zero n)

  module _ (rows : List ℕ) where
    -- their bytes
    abbrev pub groups_left : (p q k : ℕ) → List ℕ
    groups_left p q k = items_of section (heads_left p k) (rows_in (row_kind section) rows q (count_left p k))

    -- before the first turn all are left
    pub groups_all : groups_left 0 0 0 ≡ items_in section heads n rows
    unfolding table_rows_of
    groups_all = rw (sub-zero n)

    -- at the end none
    pub groups_none : (p q k : ℕ) → n ≤ k → groups_left p q k ≡ []
    groups_none p q k h = rw (none_left n k h)

-- ---- a turn: the header row at p, with its own rows from q on

-- a header row has 12 bytes
pub head_step : (section : Section) (p : ℕ) → p + 12 ≡ step_of (head_kind section) p
head_step Section.Sequences p = refl
head_step Section.Programs p = refl

-- that header row
abbrev pub head_at : Section → List ℕ → ℕ → Row
head_at section heads p = cells_at heads (cells_of (head_kind section)) p

-- how many rows are its own
abbrev pub field_own : Section → List ℕ → ℕ → ℕ
field_own section heads p = count_of section (head_at section heads p)

module _ (section : Section) (heads : List ℕ) (n p q k : ℕ) (h : k < n) where
  -- they are counted first
  count_turn : count_left section heads n p k ≡ field_own section heads p + count_left section heads n (step_of (head_kind section) p) (k + 1)
  count_turn = total_turn (cells_at heads (cells_of (head_kind section))) (step_of (head_kind section)) (count_of section) p n k h

  module _ {len : ℕ} (inside : end_of (step_of (row_kind section)) q (count_left section heads n p k) ≤ len) where
    -- they end inside their table
    pub own_inside : end_of (step_of (row_kind section)) q (field_own section heads p) ≤ len
    own_inside =
        let later = count_left section heads n (step_of (head_kind section) p) (k + 1) in
        omega (arith, rw count_turn at inside, rows_end (row_kind section) q (field_own section heads p) later, end_steps (4 * cells_of (row_kind section)) q (field_own section heads p))

    -- and so do those of the later header rows
    pub later_inside : {q' : ℕ} → q' ≡ q + 4 * cells_of (row_kind section) * field_own section heads p
        → end_of (step_of (row_kind section)) q' (count_left section heads n (step_of (head_kind section) p) (k + 1)) ≤ len
    later_inside {q'} e =
        let later = count_left section heads n (step_of (head_kind section) p) (k + 1) in
        omega (arith, e, rw count_turn at inside, rows_end (row_kind section) q (field_own section heads p) later, end_steps (4 * cells_of (row_kind section)) q' later)

  -- its bytes and those of its own rows come first
  pub groups_turn : (rows : List ℕ) {q' : ℕ} → q' ≡ q + 4 * cells_of (row_kind section) * field_own section heads p
      → groups_left section heads n rows p q k ≡ group_bytes section (head_at section heads p) rows q ++ groups_left section heads n rows (step_of (head_kind section) p) q' (k + 1)
  groups_turn rows {q'} e =
      let row = cells_at rows (cells_of (row_kind section)) in
      let w = 4 * cells_of (row_kind section) in
      let own = field_own section heads p in
      let m = total (count_of section) (rows_in (head_kind section) heads (step_of (head_kind section) p) (n - (k + 1))) in
      let place : q + own * w ≡ q' = omega (arith, e, mul_comm own w) in
      let left : own + m - own ≡ m = omega arith in
      rw (one_left n k h, take_rows row (step_of (row_kind section)) q (own + m) own (omega arith), drop_rows row w q (own + m) own (omega arith), place, left)

-- ---- how long they are

-- the header rows and the rows, where the counts add up
pub groups_length : (head : Row → List ℕ) (count : Row → ℕ) (bytes : Row → List ℕ) (hs rows : List Row) → total count hs ≡ length rows
    → length (groups head count bytes hs rows) ≡ length (flat head hs) + length (flat bytes rows)
groups_length head count bytes [] [] e = refl
groups_length head count bytes [] (x ∷ rows) e = absurd (omega arith)
groups_length head count bytes (h ∷ hs) rows e =
    let mine = take (count h) rows in
    let later = drop (count h) rows in
    let r = groups_length head count bytes hs later (omega (arith, length-drop (count h) rows)) in
    let split : flat bytes rows ≡ flat bytes mine ++ flat bytes later = ap (flat bytes) (sym (take-append-drop (count h) rows)) ∙ flat_append bytes mine later in
    omega (arith, r, ap length split, length-append (flat bytes mine) (flat bytes later), length-append (head h ++ flat bytes mine) (groups head count bytes hs later), length-append (head h) (flat bytes mine), length-append (head h) (flat head hs))
