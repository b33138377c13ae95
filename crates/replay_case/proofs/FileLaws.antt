-- What reading left in the tables, passed in turn, is the answer that must be stored with the file.
use Prim.Native.Nat.{ℕ, ◌+◌, ◌*◌, ◌^◌, ◌<◌, ◌≤◌, min}
use mathlib.Core.Path.{◌≡◌, refl, sym, ap, ◌∙◌}
use mathlib.Core.List.{List, [], ◌∷◌, ◌++◌, map}
use mathlib.Core.Bool.{Bool, true, false, not}
use native.Mathlib.Nat.{zero-add}
use native.Mathlib.Omega.{arith}
use lib.ListN.{length, get_or, drop, length-append}
use lib.Seq.{take_at}
use lib.Dec.{leb, eqb, lit<}
use borrow.Author.Tests.{leb-true, le-leb, eqb-true, eqb-false}
use Rattle.std.specs.Prelude.{Option, Some, nat_eq}
use Rattle.std.specs.Option.{option_eq}
use Rattle.format.specs.Bytes.{IsBytes, pick, be_at, gather, flat}
use Rattle.format.specs.ClipRecord.{Row, extensions_start, entry_cells}
use Rattle.format.specs.Programs.{program_at, next_stream, stream_at, streams_of, next_program, programs_from, streams_from}
use Rattle.format.specs.Extensions.{Found, nothing, found, block_end, address_at, data_length_at, next_extension, extension_at, is_kept, kept_at, has_extensions, extension_count, extension_rows, extensions_from, extension_of, data_in, list_data, list_in, list_programs_of, list_streams_of}
use Rattle.format.specs.Reading.{clip_of, record_of}
use Rattle.format.specs.Refusals.{ReadAnswer, refused, too_short, accepted, Stated, refusal_of, tables_of, stated_of, tables_answer, read_answer, read_numbers, table_by, tables_after}
use Rattle.format.specs.Tables.{Nine, row_bytes_of, table_bytes, overwritten, row_room, rows_of, atc_cells, stc_cells, program_cells, stream_cells, map_cells, extension_cells, stated}
use Rattle.format.proofs.Tests.{both_true, picked, passed}
use Rattle.format.proofs.Lists.{All, none, more, all_map, all_at}
use Rattle.format.proofs.Rows.{rows_all, gather_all}
use Rattle.format.proofs.Stores.{be_below}
use Rattle.format.proofs.Sweep.{HaveCells, table_bytes_lem}
use Rattle.format.proofs.Tables.{Cells, table_back, table_room}
use Rattle.format.proofs.ClipTables.{Shaped, shaped}
use Rattle.format.proofs.Read.{good_clip}
use Rattle.format.proofs.Listing.{accepted_is}
use Rattle.clpi_reading.specs.declared.ClpiReading.{ClpiReading}
use Rattle.clpi_reading.specs.Numbers.{reading_numbers}
use Rattle.replay_bytes.specs.Parts.{starts_with, same_bytes, behind}
use Rattle.replay_case.specs.Expected.{sample_tables, extension_bytes, record_bytes, answer_bytes, expected}
use Rattle.replay_case.specs.Places.{behind_rows, behind_file, extensions_bytes, DataInside}
use Rattle.replay_bytes.proofs.PartLaws.{part_inside, behind_append, starts_same, same_short, stands, differs}

-- ---- the cells of a row

-- the programs of any bytes
programs_cells : (f : List ℕ) (start : ℕ) → HaveCells program_cells (programs_from f start)
unfolding programs_from
programs_cells f start = rows_all (program_at f) (next_program f) (λ p. refl) (start + 6) (be_at f (start + 5) 1)

-- and their streams
streams_cells : (f : List ℕ) (start : ℕ) → HaveCells stream_cells (streams_from f start)
unfolding streams_from
streams_cells f start =
    gather_all (streams_of f) (next_program f) (λ p. rows_all (stream_at f) (next_stream f) (λ q. refl) (p + 8) (be_at f (p + 6) 1)) (start + 6) (be_at f (start + 5) 1)

-- those of the (2, 5) list
list_cells : (b : Bool) (l : Found) → (HaveCells program_cells (pick b (list_programs_of l) [])) × (HaveCells stream_cells (pick b (list_streams_of l) []))
list_cells true nothing = (none, none)
list_cells true (found d) = (programs_cells d 0, streams_cells d 0)
list_cells false l = (none, none)

-- an extension that is kept: four cells of 32 bits, and data inside the file
pub record KeptRow (f : List ℕ) (row : Row) : Type 0 where
  pub cells : Cells extension_cells row
  pub inside : data_in f row ≡ true

module _ (f : List ℕ) (bytes : IsBytes f) (small : length f ≤ 536870912) (start : ℕ) where
  -- the row of an entry that is kept
  kept_row : (p : ℕ) → is_kept f start p ≡ true → KeptRow f (extension_at f start p)
  kept_row p h =
      let end = start + address_at f p + data_length_at f p in
      let b = both_true {a = not (eqb (address_at f p) 0)} h in
      let l = leb-true end (min (block_end f start) (length f)) b.1 in
      let i1 : be_at f p 2 < 2 ^ 32 = omega (arith, be_below f bytes p 2) in
      let i2 : be_at f (p + 2) 2 < 2 ^ 32 = omega (arith, be_below f bytes (p + 2) 2) in
      let st : start + address_at f p < 2 ^ 32 = omega arith in
      let ln : data_length_at f p < 2 ^ 32 = omega arith in
      record { cells = record { count = refl; narrow = more i1 (more i2 (more st (more ln none))) }; inside = le-leb end (length f) (omega arith) }

  -- the rows of an entry: one or none
  kept_rows : (p : ℕ) → All (KeptRow f) (kept_at f start p)
  kept_rows p = by_test (is_kept f start p) refl
    where
      by_test : (b : Bool) → is_kept f start p ≡ b → All (KeptRow f) (pick b (extension_at f start p ∷ []) [])
      by_test true e = more (kept_row p e) none
      by_test false e = none

  -- the rows of all entries
  extension_rows_lem : All (KeptRow f) (extension_rows f start)
  unfolding extension_rows
  extension_rows_lem = by_test (has_extensions f start)
    where
      by_test : (b : Bool) → All (KeptRow f) (pick b (gather (kept_at f start) next_extension (start + 12) (extension_count f start)) [])
      by_test true = gather_all (kept_at f start) next_extension kept_rows (start + 12) (extension_count f start)
      by_test false = none

-- ---- tables that were filled

-- the first rows of a filled table are the rows that were put there
table_behind : (a : List ℕ) (at : Option ℕ) (cells : ℕ) (rows : List Row) (old : List ℕ) {t : List ℕ} {n : ℕ} → HaveCells cells rows → t ≡ overwritten (table_bytes rows) old → n ≡ length rows
    → behind_rows a at cells t n ≡ behind a at (table_bytes rows)
table_behind a at cells rows old {t} {n} have e m =
    let new = table_bytes rows in
    let rest = drop (length new) old in
    let size : length new ≡ 4 * cells * n = table_bytes_lem cells have ∙ ap (λ (k : ℕ). 4 * cells * k) (sym m) in
    let inside : 0 + 4 * cells * n ≤ length t = rw e (omega (arith, length-append new rest)) in
    part_inside a at t 0 (4 * cells * n) inside ∙ ap (behind a at) (rw e (take_at new rest (4 * cells * n) size))

-- ---- the end

-- bytes from the front that end where the answer ends are the answer
pub ends_same : (a xs : List ℕ) → option_eq nat_eq (behind a (Some 0) xs) (Some (length a)) ≡ same_bytes xs a
ends_same a xs = by_tests (starts_with xs a) (eqb (length xs) (length a)) refl refl
  where
    by_tests : (b d : Bool) → starts_with xs a ≡ b → eqb (length xs) (length a) ≡ d → option_eq nat_eq (behind a (Some 0) xs) (Some (length a)) ≡ same_bytes xs a
    by_tests true true s e =
        rw (stands a 0 xs (omega arith) s, zero-add (length xs), e) (sym s ∙ starts_same xs a (sym (eqb-true (length xs) (length a) e)))
    by_tests true false s e =
        rw (stands a 0 xs (omega arith) s, zero-add (length xs), e) (sym (same_short xs a (λ h. eqb-false (length xs) (length a) e (sym h))))
    by_tests false true s e = rw (differs a 0 xs s) (sym s ∙ starts_same xs a (sym (eqb-true (length xs) (length a) e)))
    by_tests false false s e = rw (differs a 0 xs s) (sym (same_short xs a (λ h. eqb-false (length xs) (length a) e (sym h))))

-- ---- refused or accepted

-- a table that is too short is no other refusal
not_refused : (b : Bool) {later : ReadAnswer} {n : ℕ} (k m : ℕ) → (later ≡ refused n → ⊥) → pick b later (too_short k m) ≡ refused n → ⊥
not_refused true k m h e = h e
not_refused false k m h e = let z : ◌≡◌ {A = ℕ} 0 1 = cc in omega arith

-- nor is any of the nine
tables_not_refused : (f : List ℕ) (t : Nine (List ℕ)) {n : ℕ} → tables_answer f t ≡ refused n → ⊥
unfolding tables_answer
tables_not_refused f t {n} e =
    let rows = tables_of f in
    let last : accepted (stated_of f) ≡ refused n → ⊥ = λ e. let z : ◌≡◌ {A = ℕ} 0 1 = cc in omega arith in
    not_refused (leb (length rows.atcs) (row_room atc_cells t.atcs)) 1 (length rows.atcs)
    (not_refused (leb (length rows.stcs) (row_room stc_cells t.stcs)) 2 (length rows.stcs)
    (not_refused (leb (length rows.programs) (row_room program_cells t.programs)) 3 (length rows.programs)
    (not_refused (leb (length rows.streams) (row_room stream_cells t.streams)) 4 (length rows.streams)
    (not_refused (leb (length rows.maps) (row_room map_cells t.maps)) 5 (length rows.maps)
    (not_refused (leb (length rows.entries) (row_room entry_cells t.entries)) 6 (length rows.entries)
    (not_refused (leb (length rows.extensions) (row_room extension_cells t.extensions)) 7 (length rows.extensions)
    (not_refused (leb (length rows.list_programs) (row_room program_cells t.list_programs)) 8 (length rows.list_programs)
    (not_refused (leb (length rows.list_streams) (row_room stream_cells t.list_streams)) 9 (length rows.list_streams) last))))))))
    e

-- so a refusal's number is not 0
not_zero : (f : List ℕ) (t : Nine (List ℕ)) {n : ℕ} → read_answer f t ≡ refused n → n ≡ 0 → ⊥
unfolding read_answer
not_zero f t {n} e z = by_test (eqb (refusal_of f) 0) refl e
  where
    by_test : (b : Bool) → eqb (refusal_of f) 0 ≡ b → pick b (tables_answer f t) (refused (refusal_of f)) ≡ refused n → ⊥
    by_test true h e = tables_not_refused f t e
    by_test false h e = let same : refusal_of f ≡ n = cc in eqb-false (refusal_of f) 0 h (same ∙ z)

module _ (f : List ℕ) where
  -- where reading's first number is not 0, the number 1 alone is stored
  pub refused_alone : (x : ReadAnswer) → read_answer f sample_tables ≡ x → (get_or (read_numbers x) 0 0 ≡ 0 → ⊥) → expected f ≡ row_bytes_of (1 ∷ [])
  unfolding expected
  refused_alone (refused n) e h = rw e
  refused_alone (too_short k n) e h = rw e
  refused_alone (accepted s) e h = absurd (h refl)

  -- else the file is accepted
  accepted_zero : (x : ReadAnswer) → read_answer f sample_tables ≡ x → get_or (read_numbers x) 0 0 ≡ 0 → read_answer f sample_tables ≡ accepted (stated_of f)
  accepted_zero (refused n) e h = absurd (not_zero f sample_tables e h)
  accepted_zero (too_short k n) e h = absurd (omega arith)
  accepted_zero (accepted s) e h = e ∙ ap accepted (accepted_is f sample_tables e).1

  -- an accepted file is no longer than 536,870,912 bytes
  accepted_small : {s : Stated} → read_answer f sample_tables ≡ accepted s → length f ≤ 536870912
  unfolding read_answer refusal_of
  accepted_small {s} e =
      let p = picked (eqb (refusal_of f) 0) (λ (e : refused (refusal_of f) ≡ accepted s). let z : ◌≡◌ {A = ℕ} 0 1 = cc in absurd (omega arith)) e in
      leb-true (length f) 536870912 (passed (leb (length f) 536870912) 19 _ (eqb-true (refusal_of f) 0 p.0)).0

-- ---- an accepted file

-- the bytes of mapped rows
flat_map : {A B : Type 0} (bytes : B → List ℕ) (g : A → B) (xs : List A) → flat (λ x. bytes (g x)) xs ≡ flat bytes (map g xs)
flat_map bytes g [] = refl
flat_map bytes g (x ∷ xs) = ap (λ (l : List ℕ). bytes (g x) ++ l) (flat_map bytes g xs)

-- what reading answered and left in the tables t, without a refusal
module _ (f : List ℕ) (bytes : IsBytes f) (r : ClpiReading) (t : Nine (List ℕ)) (numbers : reading_numbers r ≡ read_numbers (read_answer f sample_tables))
    (after : t ≡ tables_after f sample_tables) (zero_is : r.refusal ≡ 0) where
  -- the file is accepted
  answer_is : read_answer f sample_tables ≡ accepted (stated_of f)
  answer_is = accepted_zero f (read_answer f sample_tables) refl (sym (ap (λ (l : List ℕ). get_or l 0 0) numbers) ∙ zero_is)

  -- the numbers are those of the file
  numbers_are : reading_numbers r ≡ read_numbers (accepted (stated_of f))
  numbers_are = numbers ∙ ap read_numbers answer_is

  -- its rows
  abbrev rows : Nine (List Row)
  rows = tables_of f

  -- the shape of tables 1 to 6
  shape : Shaped (clip_of f)
  shape = shaped 262143 (clip_of f) (good_clip f bytes)

  -- number i of the answer
  number_is : (i : ℕ) → get_or (reading_numbers r) i 0 ≡ get_or (read_numbers (accepted (stated_of f))) i 0
  number_is i = ap (λ (l : List ℕ). get_or l i 0) numbers_are

  -- of any table: the rows that the answer states are passed as the file's
  rows_behind : (cells n : ℕ) (of : Nine (List ℕ) → List ℕ) (rs : List Row) → HaveCells cells rs → n ≡ length rs
      → of (tables_after f sample_tables) ≡ table_by (read_answer f sample_tables) rs (of sample_tables)
      → (a : List ℕ) (at : Option ℕ) → behind_rows a at cells (of t) n ≡ behind a at (table_bytes rs)
  rows_behind cells n of rs have count is a at =
      table_behind a at cells rs (of sample_tables) have (ap of after ∙ is ∙ ap (λ x. table_by x rs (of sample_tables)) answer_is) count

  -- table 1
  atcs_behind : (a : List ℕ) (at : Option ℕ) → behind_rows a at atc_cells t.atcs r.atcs ≡ behind a at (table_bytes rows.atcs)
  unfolding tables_after tables_of record_of stated_of
  atcs_behind = rows_behind atc_cells r.atcs (λ x. x.atcs) rows.atcs (all_map (λ row c. c.count) shape.atcs) (number_is 12) refl

  -- table 2
  stcs_behind : (a : List ℕ) (at : Option ℕ) → behind_rows a at stc_cells t.stcs r.stcs ≡ behind a at (table_bytes rows.stcs)
  unfolding tables_after tables_of record_of stated_of
  stcs_behind = rows_behind stc_cells r.stcs (λ x. x.stcs) rows.stcs (all_map (λ row c. c.count) shape.stcs) (number_is 13) refl

  -- table 3
  programs_behind : (a : List ℕ) (at : Option ℕ) → behind_rows a at program_cells t.programs r.programs ≡ behind a at (table_bytes rows.programs)
  unfolding tables_after tables_of record_of stated_of
  programs_behind = rows_behind program_cells r.programs (λ x. x.programs) rows.programs (all_map (λ row c. c.count) shape.programs) (number_is 14) refl

  -- table 4
  streams_behind_lem : (a : List ℕ) (at : Option ℕ) → behind_rows a at stream_cells t.streams r.streams ≡ behind a at (table_bytes rows.streams)
  unfolding tables_after tables_of record_of stated_of
  streams_behind_lem = rows_behind stream_cells r.streams (λ x. x.streams) rows.streams (all_map (λ row c. c.count) shape.streams) (number_is 15) refl

  -- table 5
  maps_behind : (a : List ℕ) (at : Option ℕ) → behind_rows a at map_cells t.maps r.maps ≡ behind a at (table_bytes rows.maps)
  unfolding tables_after tables_of record_of stated_of
  maps_behind = rows_behind map_cells r.maps (λ x. x.maps) rows.maps (all_map (λ row c. c.count) shape.maps) (number_is 16) refl

  -- table 6
  entries_behind : (a : List ℕ) (at : Option ℕ) → behind_rows a at entry_cells t.entries r.entries ≡ behind a at (table_bytes rows.entries)
  unfolding tables_after tables_of record_of stated_of
  entries_behind = rows_behind entry_cells r.entries (λ x. x.entries) rows.entries (all_map (λ row c. c.count) shape.entries) (number_is 17) refl

  -- the rows of tables 8 and 9 have their cells
  second_list : HaveCells program_cells rows.list_programs × HaveCells stream_cells rows.list_streams
  unfolding tables_of record_of
  second_list = let l = list_data (extensions_from f (extensions_start f)) in list_cells (list_in l) l

  -- table 8
  list_programs_behind : (a : List ℕ) (at : Option ℕ) → behind_rows a at program_cells t.list_programs r.list_programs ≡ behind a at (table_bytes rows.list_programs)
  unfolding tables_after stated_of
  list_programs_behind = rows_behind program_cells r.list_programs (λ x. x.list_programs) rows.list_programs second_list.0 (number_is 19) refl

  -- table 9
  list_streams_behind : (a : List ℕ) (at : Option ℕ) → behind_rows a at stream_cells t.list_streams r.list_streams ≡ behind a at (table_bytes rows.list_streams)
  unfolding tables_after stated_of
  list_streams_behind = rows_behind stream_cells r.list_streams (λ x. x.list_streams) rows.list_streams second_list.1 (number_is 20) refl

  -- the rows of table 7, each of a kept entry
  kept : All (KeptRow f) rows.extensions
  unfolding tables_of
  kept = extension_rows_lem f bytes (accepted_small f answer_is) (extensions_start f)

  -- what stands in table 7 afterwards
  extensions_are : t.extensions ≡ overwritten (table_bytes rows.extensions) sample_tables.extensions
  unfolding tables_after
  extensions_are = ap (λ x. x.extensions) after ∙ ap (λ x. table_by x rows.extensions sample_tables.extensions) answer_is

  -- how many rows it is said to have
  extensions_count : r.extensions ≡ length rows.extensions
  unfolding stated_of
  extensions_count = number_is 18

  -- so it holds its rows
  extensions_back : rows_of extension_cells (stated t.extensions r.extensions) ≡ rows.extensions
  extensions_back =
      let new = table_bytes rows.extensions in
      rw (extensions_are, extensions_count) (table_back extension_cells (all_map (λ row k. k.cells) kept) (drop (length new) sample_tables.extensions))

  -- so the data of each can be had
  pub extensions_held : DataInside f (stated t.extensions r.extensions)
  extensions_held =
      let new = table_bytes rows.extensions in
      record {
        stated =
            rw (extensions_are, extensions_count)
            (table_room extension_cells (lit< tt) (all_map (λ row k. k.cells) kept) (drop (length new) sample_tables.extensions));
        inside = λ k h. rw extensions_back (all_at [] kept k (rw extensions_count at h)).inside;
      }

  -- the bytes of the record's extensions
  extensions_bytes_lem : extensions_bytes f (rows_of extension_cells (stated t.extensions r.extensions)) ≡ flat extension_bytes (record_of f).extensions
  unfolding tables_of record_of extensions_from
  extensions_bytes_lem = rw extensions_back (flat_map extension_bytes (extension_of f) (extension_rows f (extensions_start f)))

  -- the answer that must be stored is the numbers and the record
  whole : expected f ≡ row_bytes_of (reading_numbers r) ++ record_bytes (record_of f)
  unfolding expected
  whole =
      ap (λ x. answer_bytes x (record_of f)) answer_is
      ∙ ap (λ (l : List ℕ). row_bytes_of l ++ record_bytes (record_of f)) (sym numbers_are)

  module _ (a : List ℕ) where
    -- the places one behind the other: behind the numbers
    abbrev p0 : Option ℕ
    p0 = behind a (Some 0) (row_bytes_of (reading_numbers r))

    -- behind table 1
    abbrev p1 : Option ℕ
    p1 = behind a p0 (table_bytes rows.atcs)

    -- behind table 2
    abbrev p2 : Option ℕ
    p2 = behind a p1 (table_bytes rows.stcs)

    -- behind table 3
    abbrev p3 : Option ℕ
    p3 = behind a p2 (table_bytes rows.programs)

    -- behind table 4
    abbrev p4 : Option ℕ
    p4 = behind a p3 (table_bytes rows.streams)

    -- behind table 5
    abbrev p5 : Option ℕ
    p5 = behind a p4 (table_bytes rows.maps)

    -- behind table 6
    abbrev p6 : Option ℕ
    p6 = behind a p5 (table_bytes rows.entries)

    -- behind table 8
    abbrev p7 : Option ℕ
    p7 = behind a p6 (table_bytes rows.list_programs)

    -- behind table 9
    abbrev p8 : Option ℕ
    p8 = behind a p7 (table_bytes rows.list_streams)

    -- the place behind all of them is the one behind the whole
    place_is : behind a p8 (flat extension_bytes (record_of f).extensions) ≡ behind a (Some 0) (expected f)
    unfolding record_bytes tables_of
    place_is =
        let e = flat extension_bytes (record_of f).extensions in
        let b8 = table_bytes rows.list_streams ++ e in
        let b7 = table_bytes rows.list_programs ++ b8 in
        let b6 = table_bytes rows.entries ++ b7 in
        let b5 = table_bytes rows.maps ++ b6 in
        let b4 = table_bytes rows.streams ++ b5 in
        let b3 = table_bytes rows.programs ++ b4 in
        let b2 = table_bytes rows.stcs ++ b3 in
        let b1 = table_bytes rows.atcs ++ b2 in
        behind_append a p7 (table_bytes rows.list_streams) e
        ∙ behind_append a p6 (table_bytes rows.list_programs) b8
        ∙ behind_append a p5 (table_bytes rows.entries) b7
        ∙ behind_append a p4 (table_bytes rows.maps) b6
        ∙ behind_append a p3 (table_bytes rows.streams) b5
        ∙ behind_append a p2 (table_bytes rows.programs) b4
        ∙ behind_append a p1 (table_bytes rows.stcs) b3
        ∙ behind_append a p0 (table_bytes rows.atcs) b2
        ∙ behind_append a (Some 0) (row_bytes_of (reading_numbers r)) b1
        ∙ ap (behind a (Some 0)) (sym whole)

    -- the place where the passing ends tells whether the answer is the whole
    pub file_same : {place : Option ℕ} → place ≡ behind_file a f r t.atcs t.stcs t.programs t.streams t.maps t.entries t.extensions t.list_programs t.list_streams
        → option_eq nat_eq place (Some (length a)) ≡ same_bytes (expected f) a
    file_same e =
        let all = rw (atcs_behind a p0, stcs_behind a p1, programs_behind a p2, streams_behind_lem a p3, maps_behind a p4, entries_behind a p5, list_programs_behind a p6, list_streams_behind a p7, extensions_bytes_lem) at e in
        rw (all, place_is) (ends_same a (expected f))
