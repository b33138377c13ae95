-- What an accepted answer says: the file's own numbers, room in each table, and rows that a filled table gives back.
use Prim.Native.Nat.{ℕ, ◌*◌, ◌/◌, ◌≤◌}
use mathlib.Core.Path.{◌≡◌, refl}
use mathlib.Core.List.{List}
use native.Mathlib.Omega.{arith}
use lib.ListN.{length, drop, length-replicate}
use lib.Dec.{leb, eqb, lit<}
use borrow.Author.Tests.{leb-true}
use Rattle.format.specs.Bytes.{IsBytes, total}
use Rattle.format.specs.ClipRecord.{Row, entry_count, entry_cells}
use Rattle.format.specs.Reading.{clip_of}
use Rattle.format.specs.Refusals.{Stated, ReadAnswer, refused, too_short, accepted, refusal_of, tables_of, stated_of, unless_short, tables_answer, read_answer}
use Rattle.format.specs.Tables.{Nine, Room, table_bytes, table_rows_of, row_room, overwritten, atc_cells, stc_cells, program_cells, stream_cells, map_cells, extension_cells}
use Rattle.format.specs.Listing.{rows4096, listing_tables}
use Rattle.format.proofs.Counts.{AtMost}
use Rattle.format.proofs.Tests.{picked}
use Rattle.format.proofs.ClipTables.{Shaped, shaped}
use Rattle.format.proofs.Read.{good_clip}
use Rattle.format.proofs.Tables.{table_back, table_room}
use Rattle.format.proofs.Write.{maps_add}

-- ---- an accepted answer

-- a table that is not too short has room, and the later tables give the answer
enough : (k cells : ℕ) (rows : List Row) (t : List ℕ) {later : ReadAnswer} {s : Stated} → unless_short k cells rows t later ≡ accepted s
    → (length rows ≤ row_room cells t) × (later ≡ accepted s)
enough k cells rows t {s = s} h =
    let p = picked (leb (length rows) (row_room cells t)) (λ (e : too_short k (length rows) ≡ accepted s). let z : ◌≡◌ {A = ℕ} 0 1 = cc in absurd (omega arith)) h in
    (leb-true (length rows) (row_room cells t) p.0, p.1)

-- what is accepted has room in each table, and its numbers are the file's
pub accepted_is : (f : List ℕ) (t : Nine (List ℕ)) {s : Stated} → read_answer f t ≡ accepted s → Room (tables_of f) t × (s ≡ stated_of f)
unfolding read_answer tables_answer
accepted_is f t {s} h =
    let rows = tables_of f in
    let p0 = picked (eqb (refusal_of f) 0) (λ (e : refused (refusal_of f) ≡ accepted s). let z : ◌≡◌ {A = ℕ} 0 1 = cc in absurd (omega arith)) h in
    let p1 = enough 1 atc_cells rows.atcs t.atcs p0.1 in
    let p2 = enough 2 stc_cells rows.stcs t.stcs p1.1 in
    let p3 = enough 3 program_cells rows.programs t.programs p2.1 in
    let p4 = enough 4 stream_cells rows.streams t.streams p3.1 in
    let p5 = enough 5 map_cells rows.maps t.maps p4.1 in
    let p6 = enough 6 entry_cells rows.entries t.entries p5.1 in
    let p7 = enough 7 extension_cells rows.extensions t.extensions p6.1 in
    let p8 = enough 8 program_cells rows.list_programs t.list_programs p7.1 in
    let p9 = enough 9 stream_cells rows.list_streams t.list_streams p8.1 in
    let same : accepted (stated_of f) ≡ accepted s = p9.1 in (
      record {
        atcs = p1.0;
        stcs = p2.0;
        programs = p3.0;
        streams = p4.0;
        maps = p5.0;
        entries = p6.0;
        extensions = p7.0;
        list_programs = p8.0;
        list_streams = p9.0;
      },
      cc,
    )

-- ---- tables that were filled

module _ (f : List ℕ) (bytes : IsBytes f) (t : List ℕ) where
  -- the rows' shape, of any bytes
  shape : Shaped (clip_of f)
  shape = shaped 262143 (clip_of f) (good_clip f bytes)

  -- a filled table of maps holds the maps
  pub maps_back : table_rows_of map_cells (overwritten (table_bytes (clip_of f).maps) t) (length (clip_of f).maps) ≡ (clip_of f).maps
  maps_back = table_back map_cells shape.maps (drop (length (table_bytes (clip_of f).maps)) t)

  -- and a filled table of entries the entries
  pub entries_back : table_rows_of entry_cells (overwritten (table_bytes (clip_of f).entries) t) (length (clip_of f).entries) ≡ (clip_of f).entries
  entries_back = table_back entry_cells shape.entries (drop (length (table_bytes (clip_of f).entries)) t)

  -- each has room for its rows
  pub maps_room : length (clip_of f).maps ≤ row_room map_cells (overwritten (table_bytes (clip_of f).maps) t)
  maps_room = table_room map_cells (lit< tt) shape.maps (drop (length (table_bytes (clip_of f).maps)) t)

  -- so has the table of entries
  pub entries_room : length (clip_of f).entries ≤ row_room entry_cells (overwritten (table_bytes (clip_of f).entries) t)
  entries_room = table_room entry_cells (lit< tt) shape.entries (drop (length (table_bytes (clip_of f).entries)) t)

-- the maps of a file have as many entries as there are
pub entries_add : (f : List ℕ) → IsBytes f → total entry_count (clip_of f).maps ≡ length (clip_of f).entries
entries_add f bytes = maps_add (good_clip f bytes).maps_good

-- ---- the listing's tables

-- a table of 4,096 rows of so many cells has room for no more
at_most : (cells n : ℕ) → 4096 * (4 * cells) / (4 * cells) ≡ 4096 → n ≤ row_room cells (rows4096 cells) → n ≤ 4096
at_most cells n e h = rw (length-replicate {A = ℕ} (4096 * (4 * cells)) 0, e) at h

-- what has room in them has at most so many
pub few : (rows : Nine (List Row)) → Room rows listing_tables → AtMost 4096 rows
unfolding listing_tables
few rows r = record {
  atcs = at_most atc_cells _ refl r.atcs;
  stcs = at_most stc_cells _ refl r.stcs;
  programs = at_most program_cells _ refl r.programs;
  streams = at_most stream_cells _ refl r.streams;
  maps = at_most map_cells _ refl r.maps;
  entries = at_most entry_cells _ refl r.entries;
  extensions = at_most extension_cells _ refl r.extensions;
  list_programs = at_most program_cells _ refl r.list_programs;
  list_streams = at_most stream_cells _ refl r.list_streams;
}
