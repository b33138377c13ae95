-- What an accepted file and tables with room give to the passes that fill.
use Prim.Native.Nat.{ℕ, ◌+◌, ◌-◌, ◌<◌, ◌≤◌}
use mathlib.Core.Path.{◌≡◌, refl, sym, ap, ◌∙◌}
use mathlib.Core.List.{List}
use mathlib.Core.Bool.{true}
use native.Mathlib.Omega.{arith}
use lib.ListN.{length, take, drop}
use lib.Dec.{leb}
use borrow.Author.Tests.{eq-eqb, ne_eqb, le-ltb, lt-ltb, leb-true}
use Rattle.std.specs.Prelude.{Some, None}
use Rattle.format.specs.Bytes.{be_at}
use Rattle.format.specs.ClipRecord.{Row, sequences_start, programs_start, cpi_start, marks_start, extensions_start, sequences_end, marks_from, marks_in}
use Rattle.format.specs.Programs.{programs_from, streams_from, programs_end}
use Rattle.format.specs.EntryPoints.{cpi_in, maps_in, maps_refusal, maps_from, map_count, map_at, next_map}
use Rattle.format.specs.Extensions.{Found, found, extensions_from, list_data, list_in}
use Rattle.format.specs.Reading.{clip_of, record_of}
use Rattle.format.specs.Refusals.{refusal_of}
use Rattle.format.specs.Tables.{table_bytes, overwritten}
use Rattle.format.proofs.Tests.{passed, later_passed}
use Rattle.format.proofs.MapRefusals.{maps_passed}
use Rattle.format.proofs.Rows.{rows_length}
use Rattle.extension.specs.declared.ListData.{ListData}
use Rattle.section_heads.specs.declared.Section.{Section}
use Rattle.info_sections.specs.Sections.{Fillable}
use Rattle.ep_entries.specs.Body.{CpiSection}
use Rattle.cpi_fill.specs.Fill as Maps
use Rattle.clip_information.specs.Fill.{SectionsFit, ListFits, MarksThere}
use Rattle.clip_sections.proofs.Laws.{both_pass}
use Rattle.clip_sections.proofs.Laws.{accepted_bounds}

-- ---- the sections

-- every section of an accepted file is in it
pub record Sound (f : List ℕ) : Type 0 where
  pub sequences_in : sequences_end f (sequences_start f) ≤ length f
  pub programs_in : programs_end f (programs_start f) ≤ length f
  pub cpi_in_lem : cpi_in f (cpi_start f) ≡ true
  pub maps_in_lem : maps_in f (cpi_start f) ≡ true
  pub marks_in_lem : marks_in f (marks_start f) ≡ true

module _ (f : List ℕ) where
  -- an accepted file is sound
  pub sound : refusal_of f ≡ 0 → Sound f
  sound h =
      let a = passed (leb (sequences_end f (sequences_start f)) (length f)) 3 _ (both_pass f h).1 in
      let b = passed (leb (programs_end f (programs_start f)) (length f)) 4 _ a.1 in
      let c = passed (cpi_in f (cpi_start f)) 5 _ b.1 in
      let d = later_passed (maps_refusal f (cpi_start f)) _ c.1 in
      let e = passed (marks_in f (marks_start f)) 7 0 d.1 in
      record {
        sequences_in = leb-true (sequences_end f (sequences_start f)) (length f) a.0;
        programs_in = leb-true (programs_end f (programs_start f)) (length f) b.0;
        cpi_in_lem = c.0;
        maps_in_lem = maps_passed f (cpi_start f) d.0;
        marks_in_lem = e.0;
      }

-- the maps counted are those that the section says
maps_counted : (f : List ℕ) {count : ℕ} → count ≡ length (clip_of f).maps → count ≡ map_count f (cpi_start f)
unfolding clip_of maps_from
maps_counted f h = h ∙ rows_length (map_at f) next_map (cpi_start f + 8) (map_count f (cpi_start f))

-- the CPI section of an accepted file is in it
pub cpi_section : (f : List ℕ) {start count : ℕ} → refusal_of f ≡ 0 → start ≡ cpi_start f → count ≡ length (clip_of f).maps → CpiSection f start count
cpi_section f e here is =
    rw here (record { small = (accepted_bounds f e).0; counted = maps_counted f is; head_in = (sound f e).cpi_in_lem; maps_in_lem = (sound f e).maps_in_lem })

module _ (f : List ℕ) {count : ℕ} {atcs stcs programs streams maps entries : List ℕ} (fits : SectionsFit f count atcs stcs programs streams maps entries) where
  -- tables 1 and 2 can be filled
  pub sequences_fillable : {start : ℕ} → start ≡ sequences_start f → Fillable Section.Sequences f start atcs stcs
  unfolding clip_of
  sequences_fillable e = record {
    ends = rw e (sound f fits.accepts).sequences_in;
    heads_room = rw e fits.atcs_room;
    rows_room = rw e fits.stcs_room;
  }

  -- tables 3 and 4 can be filled
  pub programs_fillable : {start : ℕ} → start ≡ programs_start f → Fillable Section.Programs f start programs streams
  unfolding clip_of
  programs_fillable e = record {
    ends = rw e (sound f fits.accepts).programs_in;
    heads_room = rw e fits.programs_room;
    rows_room = rw e fits.streams_room;
  }

  -- tables 5 and 6 can be filled
  pub maps_fillable : {start : ℕ} → start ≡ cpi_start f → Maps.Fill f start count maps entries
  unfolding clip_of
  maps_fillable e = record {
    section = cpi_section f fits.accepts e fits.counted;
    maps_room = rw e fits.maps_room;
    entries_room = rw e fits.entries_room;
  }

-- a table filled with rows that are the record's
pub filled_as : {rows own : List Row} (old : List ℕ) {new : List ℕ} → own ≡ rows → new ≡ overwritten (table_bytes rows) old → new ≡ overwritten (table_bytes own) old
filled_as old e h = h ∙ ap (λ q. overwritten (table_bytes q) old) (sym e)

-- a table filled from a place that was read in the file
pub filled_from : (rows : ℕ → List Row) (old : List ℕ) {start place : ℕ} {new : List ℕ} → start ≡ place → new ≡ overwritten (table_bytes (rows start)) old → new ≡ overwritten (table_bytes (rows place)) old
filled_from rows old e h = filled_as old (ap rows (sym e)) h

-- ---- marks

module _ (f : List ℕ) (start : ℕ) where
  -- a start of 0 is no marks
  pub no_marks : start ≡ 0 → 0 ≡ marks_from f start
  unfolding marks_from
  no_marks h = rw (eq-eqb start 0 h)

  -- a start at or past the end is no marks
  pub marks_past : (start ≡ 0 → ⊥) → length f ≤ start → 0 ≡ marks_from f start
  unfolding marks_from
  marks_past n h = rw (ne_eqb start 0 n, le-ltb start (length f) h)

  -- else the count stands four bytes behind the start
  pub marks_counted : (start ≡ 0 → ⊥) → start < length f → be_at f (start + 4) 2 ≡ marks_from f start
  unfolding marks_from
  marks_counted n h = rw (ne_eqb start 0 n, lt-ltb start (length f) h)

  -- and it is in the file
  pub count_in_lem : MarksThere f start → (start ≡ 0 → ⊥) → start < length f → start + 6 ≤ length f
  unfolding marks_in
  count_in_lem m n h = leb-true (start + 6) (length f) (rw (ne_eqb start 0 n, lt-ltb start (length f) h) at m.inside)

-- ---- the list

-- without a list both tables are left as they are
pub no_list : (f : List ℕ) {programs streams : List ℕ} → ListFits f None programs streams
    → (programs ≡ overwritten (table_bytes (record_of f).list_programs) programs) × (streams ≡ overwritten (table_bytes (record_of f).list_streams) streams)
unfolding record_of
no_list f fits = rw (sym fits.has_is) (refl, refl)

module _ (f : List ℕ) (list : ListData) {programs streams : List ℕ} (fits : ListFits f (Some list) programs streams) where
  -- the list's data, where the extensions have it
  abbrev D : Found
  D = list_data (extensions_from f (extensions_start f))

  -- the part of the file that is lent as it
  abbrev P : List ℕ
  P = take (list.start + list.len - list.start) (drop list.start f)

  -- there is a list
  listed : list_in D ≡ true
  unfolding record_of
  listed = sym fits.has_is

  -- the data found is the part that is read
  data_is : D ≡ found P
  unfolding record_of
  data_is =
      let e : list.start + list.len - list.start ≡ list.len = omega arith in
      let is = rw listed at fits.list_is in
      rw e (sym is)

  -- the list ends within its data
  list_ends : programs_end P 0 ≤ length P
  unfolding list_in
  list_ends = leb-true (programs_end P 0) (length P) (rw data_is at listed)

  -- its programs are the record's
  pub programs_put : (record_of f).list_programs ≡ programs_from P 0
  unfolding record_of
  programs_put = rw (listed, data_is)

  -- its streams are the record's
  pub streams_put : (record_of f).list_streams ≡ streams_from P 0
  unfolding record_of
  streams_put = rw (listed, data_is)

  -- tables 8 and 9 can be filled
  pub list_fillable : Fillable Section.Programs P 0 programs streams
  list_fillable = record {
    ends = list_ends;
    heads_room = rw programs_put at fits.programs_room;
    rows_room = rw streams_put at fits.streams_room;
  }
