-- The answer of reading, and what the passes that fill may rely on once all is ready.
use Prim.Native.Nat.{ℕ, ◌*◌, ◌≤◌, ◌/◌}
use mathlib.Core.Path.{◌≡◌, refl, ap}
use mathlib.Core.List.{List}
use mathlib.Core.Bool.{Bool, true, false}
use native.Mathlib.Omega.{arith}
use lib.ListN.{length}
use lib.Dec.{leb, eqb}
use borrow.Author.Tests.{leb-true}
use Rattle.std.specs.Prelude.{is_some, Result, Ok, Err}
use Rattle.format.specs.Bytes.{pick}
use Rattle.format.specs.ClipRecord.{Row, extensions_start, marks_start, marks_from, entry_size}
use Rattle.format.specs.Extensions.{extension_rows}
use Rattle.format.specs.Reading.{clip_of, record_of}
use Rattle.format.specs.Refusals.{refused, accepted, refusal_of, tables_of, stated_of, tables_answer, read_answer, table_by}
use Rattle.format.specs.Tables.{Nine, zip_nine, AllNine, nine_cells, row_room, extension_cells}
use Rattle.format.proofs.Tests.{ap_pick}
use Rattle.clip_sections.specs.Infos.{clip_info_of}
use Rattle.nine_tables.specs.Room.{room_of, room_behind}
use Rattle.clip_prepare.specs.Prepare.{needed_rows, room_answer, answer_for, error_answer, ReadyIs}
use Rattle.clip_information.specs.Fill.{SectionsFit, ListFits, MarksThere}
use Rattle.clip_information.specs.Read.{lengths_of, nine_by, scalars_by, read_answer_of, accepted_of}
use Rattle.clip_sections.specs.declared.info.ClipInfo.{ClipInfo}
use Rattle.nine_tables.specs.declared.Rows.{Rows}
use Rattle.nine_tables.specs.declared.TableShort.{TableShort}
use Rattle.clip_prepare.specs.declared.Prepared.{Prepared}
use Rattle.clip_prepare.specs.declared.ReadError.{ReadError}
use Rattle.clip_sections.proofs.Laws.{accepted_bounds}
use Rattle.clip_information.proofs.FillLaws.{sound}

-- ---- the answer

-- the lowest table that is too short gives the answer
pub answer_tables : (f : List ℕ) (tables : Nine (List ℕ)) → answer_for f (lengths_of tables) ≡ read_answer f tables
unfolding answer_for read_answer tables_answer room_of room_behind
answer_tables f tables =
    ap (λ a. pick (eqb (refusal_of f) 0) a (refused (refusal_of f))) (simp (ap_pick (room_answer f)))

-- ---- room

-- room enough is room in each table
abbrev pub RoomInEach : Rows → Rows → Type 0
RoomInEach rows bytes = AllNine ◌≤◌ (nine_by rows) (zip_nine (λ cells size. size / (4 * cells)) nine_cells (nine_by bytes))

-- the first of two tests that both passed, and the rest
passed : (b : Bool) {later : Result (Unit {0}) TableShort} (k n : ℕ) → pick b later (Err (record { table = k; rows = n })) ≡ Ok tt → (b ≡ true) × (later ≡ Ok tt)
passed true k n h = (refl, h)
passed false k n h = let z : ◌≡◌ {A = ℕ} 0 1 = cc in absurd (omega arith)

-- each test of room passed
pub room_in_each : (rows bytes : Rows) → room_of rows bytes ≡ Ok tt → RoomInEach rows bytes
unfolding room_of room_behind
room_in_each rows bytes h =
    let p1 = passed (leb rows.atcs (bytes.atcs / 12)) 1 rows.atcs h in
    let p2 = passed (leb rows.stcs (bytes.stcs / 16)) 2 rows.stcs p1.1 in
    let p3 = passed (leb rows.programs (bytes.programs / 12)) 3 rows.programs p2.1 in
    let p4 = passed (leb rows.streams (bytes.streams / 20)) 4 rows.streams p3.1 in
    let p5 = passed (leb rows.maps (bytes.maps / 12)) 5 rows.maps p4.1 in
    let p6 = passed (leb rows.entries (bytes.entries / entry_size)) 6 rows.entries p5.1 in
    let p7 = passed (leb rows.extensions (bytes.extensions / 16)) 7 rows.extensions p6.1 in
    let p8 = passed (leb rows.list_programs (bytes.list_programs / 12)) 8 rows.list_programs p7.1 in
    let p9 = passed (leb rows.list_streams (bytes.list_streams / 20)) 9 rows.list_streams p8.1 in
    record {
      atcs = leb-true _ _ p1.0;
      stcs = leb-true _ _ p2.0;
      programs = leb-true _ _ p3.0;
      streams = leb-true _ _ p4.0;
      maps = leb-true _ _ p5.0;
      entries = leb-true _ _ p6.0;
      extensions = leb-true _ _ p7.0;
      list_programs = leb-true _ _ p8.0;
      list_streams = leb-true _ _ p9.0;
    }

-- ---- what was prepared

-- an error leaves each table as it was
pub left : (error : ReadError) (rows : List Row) (table : List ℕ) → table ≡ table_by (error_answer error) rows table
left (ReadError.Refused refusal) rows table = refl
left (ReadError.TableShort short) rows table = refl

-- ---- once all is ready

module _ (f : List ℕ) (tables : Nine (List ℕ)) {p : Prepared} (ready : ReadyIs f (lengths_of tables) p) where
  -- room in each table for the rows needed
  each : RoomInEach (needed_rows f) (lengths_of tables)
  each = room_in_each (needed_rows f) (lengths_of tables) ready.room

  -- tables 1 to 6 can be filled
  pub sections_fit : SectionsFit f p.rows.maps tables.atcs tables.stcs tables.programs tables.streams tables.maps tables.entries
  unfolding tables_of record_of
  sections_fit = record {
    accepts = ready.accepts;
    counted = ap (λ r. r.maps) ready.rows_are;
    atcs_room = each.atcs;
    stcs_room = each.stcs;
    programs_room = each.programs;
    streams_room = each.streams;
    maps_room = each.maps;
    entries_room = each.entries;
  }

  -- table 7 can be filled
  pub extensions_fit : {start : ℕ} → start ≡ extensions_start f → (length f ≤ 536870912) × (length (extension_rows f start) ≤ row_room extension_cells tables.extensions)
  unfolding tables_of
  extensions_fit e = ((accepted_bounds f ready.accepts).0, rw e each.extensions)

  -- tables 8 and 9 can be filled
  pub list_fits : ListFits f p.list tables.list_programs tables.list_streams
  unfolding tables_of
  list_fits = record {
    list_is = ready.list_is;
    list_in_lem = ready.list_in_lem;
    has_is = ready.has_is;
    programs_room = each.list_programs;
    streams_room = each.list_streams;
  }

  -- what the code states is what reading states
  pub stated : read_answer_of (Ok (accepted_of f p.rows (is_some p.list))) ≡ accepted (stated_of f)
  unfolding stated_of record_of clip_of
  stated = λ k. accepted (record { scalars = scalars_by (clip_info_of f); marks = marks_from f (marks_start f); rows = nine_by (ready.rows_are k); has_list = ready.has_is k })

module _ (f : List ℕ) where
  -- the marks of an accepted file can be counted
  pub marks_there : refusal_of f ≡ 0 → {start : ℕ} → start ≡ marks_start f → MarksThere f start
  marks_there h e = record { short = (accepted_bounds f h).0; inside = rw e (sound f h).marks_in_lem }

  -- the scalars and the number of marks that were read are those of the answer
  pub accepted_as : {info : ClipInfo} {marks start : ℕ} {rows : Rows} {has there : Bool} → info ≡ clip_info_of f → start ≡ marks_start f → marks ≡ marks_from f start
      → has ≡ there → record { info = info; marks = marks; rows = rows; has_list = has } ≡ accepted_of f rows there
  accepted_as i s m h = rw (i, m, s, h)
