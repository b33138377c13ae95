-- A section over its kind: header rows and their own rows one behind the other, and what an answer of the first pass says.
use Prim.Native.Nat.{ℕ, ◌+◌, ◌*◌, ◌<◌, ◌≤◌}
use mathlib.Core.Path.{◌≡◌, refl, sym, ap, ◌∙◌}
use mathlib.Core.List.{List}
use mathlib.Core.Bool.{false}
use native.Mathlib.Nat.{le_trans}
use native.Mathlib.Omega.{arith}
use lib.ListN.{length}
use lib.Seq.{sets}
use lib.Dec.{leb}
use borrow.Author.Tests.{leb-true}
use Rattle.format.specs.Bytes.{be_at, rows_at, gather, end_of}
use Rattle.format.specs.ClipRecord.{stc_at, next_stc, atcs_from, stcs_from, sequences_end}
use Rattle.format.specs.Programs.{stream_at, next_stream, programs_from, streams_from, programs_end}
use Rattle.format.specs.Tables.{row_bytes_of, table_bytes, overwritten}
use Rattle.format.proofs.Loops.{end_ge}
use Rattle.format.proofs.Places.{atc_head, up_atc, program_head, up_program}
use Rattle.format.proofs.Rows.{rows_length, rows_all, gather_all}
use Rattle.format.proofs.Sweep.{Along, along_first, along_turn, along_within, section_of, HaveCells, Filling, filling_front, table_bytes_lem, row_room_lem, row_put, group_room, group_put, filled}
use Rattle.format.proofs.Tests.{picked, not_picked}
use Rattle.std.specs.Prelude.{Some, None}
use Rattle.info_sections.specs.declared.SectionCounts.{SectionCounts}
use Rattle.section_heads.specs.declared.Section.{Section}
use Rattle.info_sections.specs.Sections.{head_at, count_place, group_rows, own_cells, next_head, heads_from, section_rows, section_end, counts_told, section_measured, GroupThere, Fillable}

-- ---- one header row and its own rows

-- a header row has three cells
pub head_cells_lem : (section : Section) (f : List ℕ) (p : ℕ) → length (head_at section f p) ≡ 3
head_cells_lem Section.Sequences f p = refl
head_cells_lem Section.Programs f p = refl

-- each row behind it is as wide as its table's rows
own_cells_lem : (section : Section) (f : List ℕ) (p : ℕ) → HaveCells (own_cells section) (group_rows section f p)
own_cells_lem Section.Sequences f p = rows_all (stc_at f) next_stc (λ q. refl) (p + 6) (be_at f (p + 4) 1)
own_cells_lem Section.Programs f p = rows_all (stream_at f) (next_stream f) (λ q. refl) (p + 8) (be_at f (p + 6) 1)

-- they are as many as the header row says
pub own_length : (section : Section) (f : List ℕ) (p : ℕ) → length (group_rows section f p) ≡ be_at f (count_place section p) 1
own_length Section.Sequences f p = rows_length (stc_at f) next_stc (p + 6) (be_at f (p + 4) 1)
own_length Section.Programs f p = rows_length (stream_at f) (next_stream f) (p + 8) (be_at f (p + 6) 1)

-- their bytes in a table
pub own_bytes : (section : Section) (f : List ℕ) (p : ℕ) → length (table_bytes (group_rows section f p)) ≡ 4 * own_cells section * be_at f (count_place section p) 1
own_bytes section f p = table_bytes_lem (own_cells section) (own_cells_lem section f p) ∙ ap (λ (n : ℕ). 4 * own_cells section * n) (own_length section f p)

-- the count stands before the next header row
pub count_before : (section : Section) (f : List ℕ) (p : ℕ) → count_place section p + 1 ≤ next_head section f p
count_before Section.Sequences f p = omega (arith, atc_head f p)
count_before Section.Programs f p = omega (arith, program_head f p)

-- so does the header row
pub up_head : (section : Section) (f : List ℕ) (p : ℕ) → p ≤ next_head section f p
up_head Section.Sequences f p = up_atc f p
up_head Section.Programs f p = up_program f p

-- ---- the section

module _ (f : List ℕ) (start : ℕ) where
  -- its header rows, the rows behind them, and its end, one header row after the other
  heads_are : (section : Section) → heads_from section f start ≡ rows_at (head_at section f) (next_head section f) (start + 6) (be_at f (start + 5) 1)
  unfolding atcs_from programs_from
  heads_are Section.Sequences = refl
  heads_are Section.Programs = refl

  -- the rows behind its header rows are the own rows of each, joined in their order
  rows_are : (section : Section) → section_rows section f start ≡ gather (group_rows section f) (next_head section f) (start + 6) (be_at f (start + 5) 1)
  unfolding stcs_from streams_from
  rows_are Section.Sequences = refl
  rows_are Section.Programs = refl

  -- its end is reached by stepping over as many header rows, each with its own rows, as it counts
  pub end_is : (section : Section) → section_end section f start ≡ end_of (next_head section f) (start + 6) (be_at f (start + 5) 1)
  unfolding sequences_end programs_end
  end_is Section.Sequences = refl
  end_is Section.Programs = refl

module _ (section : Section) (f : List ℕ) (start : ℕ) where
  -- a section that ends within the file has its six bytes there
  pub ends_within : section_end section f start ≤ length f → start + 6 ≤ length f
  ends_within h = le_trans (end_ge (next_head section f) (up_head section f) (start + 6) (be_at f (start + 5) 1)) (rw (end_is f start section) at h)

  -- its measure is that of any section of items
  pub measured_as : section_of counts_told None (head_at section f) (group_rows section f) (next_head section f) f start ≡ section_measured section f start
  unfolding section_measured
  measured_as = rw (heads_are f start section, rows_are f start section, end_is f start section)

-- ---- what the first pass answers

-- the counts that were answered are the section's, and it ends within the file
pub record CountsAre (section : Section) (f : List ℕ) (start heads rows : ℕ) : Type 0 where
  pub ends : section_end section f start ≤ length f
  pub heads_are : heads ≡ length (heads_from section f start)
  pub rows_are : rows ≡ length (section_rows section f start)

module _ (section : Section) (f : List ℕ) (start : ℕ) where
  -- where the first pass answers counts, the section ends within the file and the counts are its own
  pub counts_are : {counts : SectionCounts} → section_measured section f start ≡ Some counts → CountsAre section f start counts.heads counts.rows
  unfolding section_measured
  counts_are {counts} e =
      let t = picked (leb (section_end section f start) (length f)) (λ e. let z : ◌≡◌ {A = ℕ} 0 1 = cc in omega arith) e in
      let is = t.1 in
      let there : SectionCounts = record { heads = length (heads_from section f start); rows = length (section_rows section f start) } in
      let same : counts ≡ there = cc in
      record {
        ends = leb-true (section_end section f start) (length f) t.0;
        heads_are = ap (λ (x : SectionCounts). x.heads) same;
        rows_are = ap (λ (x : SectionCounts). x.rows) same;
      }

  -- the section passes the file's end
  pub past_end : section_measured section f start ≡ None → leb (section_end section f start) (length f) ≡ false
  unfolding section_measured
  past_end e = (not_picked (leb (section_end section f start) (length f)) (λ e. let z : ◌≡◌ {A = ℕ} 0 1 = cc in omega arith) e).0

-- ---- the second pass

-- after k of n header rows the pass stands at p, and what is left to store fills the tables from `at` and `to` on
pub record Passing (section : Section) (f : List ℕ) (start n : ℕ) (heads₀ rows₀ heads rows : List ℕ) (p at to k : ℕ) : Type 0 where
  pub along : Along (next_head section f) (length f) (start + 6) n p k
  pub heads_left_lem : Filling (rows_at (head_at section f) (next_head section f)) heads₀ (overwritten (table_bytes (heads_from section f start)) heads₀) heads at p n k
  pub rows_left_lem : Filling (gather (group_rows section f) (next_head section f)) rows₀ (overwritten (table_bytes (section_rows section f start)) rows₀) rows to p n k

module _ {section : Section} {f : List ℕ} {start n : ℕ} {heads₀ rows₀ : List ℕ} (a : Fillable section f start heads₀ rows₀) (count : n ≡ be_at f (start + 5) 1) where
  -- before the first header row
  pub passing_first : Passing section f start n heads₀ rows₀ heads₀ rows₀ (start + 6) 0 0 0
  passing_first =
      let m = be_at f (start + 5) 1 in
      record {
        along = along_first (next_head section f) (ends_within section f start a.ends);
        heads_left_lem =
            filling_front 3 (rows_at (head_at section f) (next_head section f)) heads₀
            (rw (heads_are f start section) (rows_all (head_at section f) (next_head section f) (head_cells_lem section f) (start + 6) m)) a.heads_room
            (ap (rows_at (head_at section f) (next_head section f) (start + 6)) count ∙ sym (heads_are f start section));
        rows_left_lem =
            filling_front (own_cells section) (gather (group_rows section f) (next_head section f)) rows₀
            (rw (rows_are f start section) (gather_all (group_rows section f) (next_head section f) (own_cells_lem section f) (start + 6) m)) a.rows_room
            (ap (gather (group_rows section f) (next_head section f) (start + 6)) count ∙ sym (rows_are f start section));
      }

  module _ {heads rows : List ℕ} {p at to k : ℕ} (i : Passing section f start n heads₀ rows₀ heads rows p at to k) where
    module _ (h : k < n) where
      -- the header row at p ends with its own rows within the file
      within : next_head section f p ≤ length f
      within = along_within i.along (up_head section f) h (rw count (rw (end_is f start section) at a.ends))

      -- so its count stands there
      pub count_in_lem : count_place section p + 1 ≤ length f
      count_in_lem = le_trans (count_before section f p) within

      module _ {c : ℕ} (says : c ≡ be_at f (count_place section p) 1) where
        -- the bytes of its own rows
        size : length (table_bytes (group_rows section f p)) ≡ 4 * own_cells section * c
        size = own_bytes section f p ∙ ap (λ (m : ℕ). 4 * own_cells section * m) (sym says)

        -- there is room for it and them
        pub group_there : GroupThere section f p c heads at rows to
        group_there = record {
          says = says;
          ends = within;
          head_room = rw (head_cells_lem section f p) at (row_room_lem (head_at section f) (next_head section f) i.heads_left_lem h);
          rows_room = group_room (group_rows section f) (next_head section f) i.rows_left_lem h size;
        }

        -- they are stored
        pub passing_turn : {q : ℕ} {heads' rows' : List ℕ} → q ≡ next_head section f p → heads' ≡ sets heads at (row_bytes_of (head_at section f p))
            → rows' ≡ sets rows to (table_bytes (group_rows section f p)) → Passing section f start n heads₀ rows₀ heads' rows' q (at + 12) (to + 4 * own_cells section * c) (k + 1)
        passing_turn e put-head put-rows = record {
          along = along_turn i.along h e (rw e within);
          heads_left_lem = rw (head_cells_lem section f p) at (row_put (head_at section f) (next_head section f) i.heads_left_lem h put-head e);
          rows_left_lem = group_put (group_rows section f) (next_head section f) i.rows_left_lem h size put-rows e;
        }

    -- behind the last both tables are filled
    pub passing_done : n ≤ k → (heads ≡ overwritten (table_bytes (heads_from section f start)) heads₀) × (rows ≡ overwritten (table_bytes (section_rows section f start)) rows₀)
    passing_done h = (filled (λ q. refl) i.heads_left_lem h, filled (λ q. refl) i.rows_left_lem h)
