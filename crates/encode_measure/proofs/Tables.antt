-- What the tests have shown of the six tables, as the section's functions ask for it, and what a test that fails says of the refusal.
use Rattle.std.proofs.Common.{Result, Ok, Err}
use Prim.Native.Nat.{ℕ, ◌+◌, ◌-◌, ◌≤◌}
use mathlib.Core.Path.{◌≡◌, refl, sym, ap, ◌∙◌}
use mathlib.Core.List.{List}
use mathlib.Core.Bool.{Bool, true, false}
use native.Mathlib.Omega.{arith}
use lib.ListN.{length}
use Rattle.format.specs.Bytes.{both, unless}
use Rattle.format.specs.ClipRecord.{Scalars, are_letters, entry_cells}
use Rattle.format.specs.Tables.{ClipTables, clip_in, is_stated, rows_of, stc_cells, stream_cells, map_cells}
use Rattle.format.specs.Rewriting.{sequences_bytes, programs_bytes, cpi_bytes, cpi_bytes_by}
use Rattle.format.specs.Refusals.{scalars_fit, cells_fit, runs_fit, all_stated, write_refusal}
use Rattle.format.proofs.Tests.{both_true, true_both, passed, picked, left_fails, right_fails}
use Rattle.format.proofs.Maker.{good_made}
use Rattle.queries.specs.Asked.{no_scalars, tables_with}
use Rattle.table_rows.specs.OwnRows.{is_counted}
use Rattle.limits.specs.declared.tables.ClipTables as lent
use Rattle.limits.specs.Stated.{stated_tables, TablesThere}
use Rattle.limits.specs.Clips.{entries_fit, tables_fit}
use Rattle.limits.proofs.Walks.{counts}
use Rattle.limits.proofs.Clips.{fields_and_entries, maps_fit}
use Rattle.section_heads.specs.declared.Section.{Section}
use Rattle.encode_sections.specs.Sections as sections
use Rattle.encode_sections.proofs.Sections.{sequences_are, programs_are}
use Rattle.encode_cpi.specs.Cpi as cpi
use Rattle.encode_cpi.proofs.Lengths.{length_said, length_refused}
use Rattle.refusals.specs.declared.Refusal.{Refusal}
use Rattle.refusals.specs.Numbers.{number_of}
use Rattle.refusals.specs.Numbers as numbers
use Rattle.encode_measure.specs.declared.Places.{Places}
use Rattle.encode_measure.specs.Places.{refusal_in, pairs_counted, marks_place, Ready}
use Rattle.encode_measure.proofs.Tests.{passes_by, fails_by, refusal_is}
use Rattle.encode_measure.proofs.Parts.{place_programs, place_cpi, place_marks, InOrder, placed_order, good_short}

-- ---- a record that can be written passes every test

-- the tests of 22, 40, 30 and 31 pass
pub record Passed (l : ClipTables) : Type 0 where
  pub counted : pairs_counted l ≡ true
  pub letters : are_letters l.scalars.letters ≡ true
  pub fit : cells_fit (clip_in l) ≡ true
  pub runs_fit_lem : runs_fit (clip_in l) ≡ true

-- a record that is not refused has passed them
pub all_passed : (l : ClipTables) → refusal_in l ≡ 0 → Passed l
all_passed l h =
    let fitting = unless (cells_fit (clip_in l)) 30 (unless (runs_fit (clip_in l)) 31 0) in
    let p0 = passed (pairs_counted l) 21 (unless (are_letters l.scalars.letters) 40 fitting) (sym (refusal_is l) ∙ h) in
    let p1 = passed (are_letters l.scalars.letters) 39 fitting p0.1 in
    let p2 = passed (cells_fit (clip_in l)) 29 (unless (runs_fit (clip_in l)) 31 0) p1.1 in
    let p3 = passed (runs_fit (clip_in l)) 30 0 p2.1 in
    record { counted = p0.0; letters = p1.0; fit = p2.0; runs_fit_lem = p3.0 }

-- a record that passes them is not refused
pub none_refused : (l : ClipTables) → Passed l → refusal_in l ≡ 0
none_refused l p = refusal_is l ∙ rw (p.counted, p.letters, p.fit, p.runs_fit_lem)

-- its file is short
pub marks_bound : (l : ClipTables) → refusal_in l ≡ 0 → marks_place (clip_in l) + 6 ≤ 402515706
marks_bound l h =
    let c = clip_in l in
    good_short c (good_made c (passed (all_stated l) 21 (write_refusal c) h).1).good

-- the places are in order, and the last is a number of 32 bits
pub in_order : (l : ClipTables) {at : Places} {bytes : ℕ} → Ready l at bytes → InOrder at.programs at.cpi at.marks bytes
in_order l r = placed_order (clip_in l) (marks_bound l r.writable) r.placed

-- stores keep the output's length, and so what is ready
pub ready_kept : (l : ClipTables) {at : Places} {bytes bytes' : ℕ} → bytes' ≡ bytes → Ready l at bytes → Ready l at bytes'
ready_kept l same r = rw same r

-- the rows of every table but that of the entries are there
pub tables_there : (s : Scalars) (t : lent.ClipTables) → pairs_counted (stated_tables s t) ≡ true → TablesThere t
unfolding pairs_counted
tables_there s t h =
    let l = stated_tables s t in
    let tests = both_true h in
    let more = both_true tests.1 in
    let first = counts 1 stc_cells l.atcs l.stcs tests.0 in
    let second = counts 2 stream_cells l.programs l.streams more.0 in
    record {
      atcs_there = first.heads_there;
      stcs_there = first.rows_there;
      programs_there = second.heads_there;
      streams_there = second.rows_there;
      maps_there = (counts 2 entry_cells l.maps l.entries more.1).heads_there;
    }

-- an error by its number
err_number : {a b : Refusal} → ◌≡◌ {A = Result ℕ Refusal} (Err a) (Err b) → number_of a ≡ number_of b
err_number h = ap numbers.refusal_in h

-- ---- six tables

module _ (l : ClipTables) where
  -- the tables without the scalars
  abbrev bare : ClipTables
  bare = tables_with no_scalars l.atcs l.stcs l.programs l.streams l.maps l.entries

  -- the pairs of tables
  pub pairs : pairs_counted l ≡ true
      → (is_counted 1 stc_cells l.atcs l.stcs ≡ true) × ((is_counted 2 stream_cells l.programs l.streams ≡ true) × (is_counted 2 entry_cells l.maps l.entries ≡ true))
  unfolding pairs_counted
  pairs h = let first = both_true h in (first.0, both_true first.1)

  -- counts that do not add up
  pub refused_22 : {r : Bool} → r ≡ pairs_counted bare → r ≡ false → refusal_in l ≡ 22
  unfolding pairs_counted
  refused_22 is h =
      let fails : pairs_counted l ≡ false = fails_by is h in
      refusal_is l ∙ rw fails

  -- counts that do
  pub counted_by : {r : Bool} → r ≡ pairs_counted bare → r ≡ true → pairs_counted l ≡ true
  unfolding pairs_counted
  counted_by is h = passes_by is h

  -- letters that are neither of the two
  pub refused_40 : {r : Bool} → pairs_counted l ≡ true → r ≡ are_letters l.scalars.letters → r ≡ false → refusal_in l ≡ 40
  refused_40 p is h =
      let fails : are_letters l.scalars.letters ≡ false = fails_by is h in
      refusal_is l ∙ rw (p, fails)

  -- every cell but those of the entries fits
  abbrev pub fields_of : Bool
  fields_of = both (scalars_fit l.scalars) (tables_fit l)

  -- those of the entries do
  abbrev all_entries_fit : Bool
  all_entries_fit = entries_fit (rows_of map_cells l.maps) (rows_of entry_cells l.entries)

  -- cells before the entries that do not fit
  pub fields_refused : {r : Bool} → pairs_counted l ≡ true → are_letters l.scalars.letters ≡ true → r ≡ fields_of → r ≡ false → refusal_in l ≡ 30
  fields_refused p q is h =
      let fails : cells_fit (clip_in l) ≡ false = fields_and_entries l ∙ left_fails all_entries_fit (fails_by is h) in
      refusal_is l ∙ rw (p, q, fails)

  -- what is told of the maps and entries
  abbrev pub tested_in : Result ℕ Refusal
  tested_in = cpi.tested_of (cpi.map_rows_of l.maps.bytes l.maps.rows) (cpi.entry_rows_of l.entries.bytes l.entries.rows)

  -- the length where every entry fits
  abbrev length_in : Result ℕ Refusal
  length_in = cpi.cpi_length_of (cpi.map_rows_of l.maps.bytes l.maps.rows) (cpi.entry_rows_of l.entries.bytes l.entries.rows)

  -- an entry does not fit, or a map has too many runs
  pub cpi_refused : {r : Refusal} → pairs_counted l ≡ true → are_letters l.scalars.letters ≡ true → fields_of ≡ true → tested_in ≡ Err r → refusal_in l ≡ number_of r
  unfolding cpi.tested_of clip_in runs_fit
  cpi_refused {r} p q fields is = go all_entries_fit refl
    where
      go : (b : Bool) → all_entries_fit ≡ b → refusal_in l ≡ number_of r
      go true fit =
          let cells : cells_fit (clip_in l) ≡ true = fields_and_entries l ∙ true_both fields fit in
          let told : length_in ≡ Err r = rw fit at is in
          let many = length_refused (cpi.map_rows_of l.maps.bytes l.maps.rows) (cpi.entry_rows_of l.entries.bytes l.entries.rows) told in
          let fails : runs_fit (clip_in l) ≡ false = many.0 in
          refusal_is l ∙ rw (p, q, cells, fails, many.1)
      go false unfit =
          let cells : cells_fit (clip_in l) ≡ false = fields_and_entries l ∙ right_fails fields_of unfit in
          let told : ◌≡◌ {A = Result ℕ Refusal} (Err Refusal.Cells) (Err r) = rw unfit at is in
          refusal_is l ∙ rw (p, q, cells) (err_number told)

  -- every entry fits, no map has too many runs, and the section's length is told
  pub cpi_told : {len : ℕ} → fields_of ≡ true → tested_in ≡ Ok len → (cells_fit (clip_in l) ≡ true) × ((runs_fit (clip_in l) ≡ true) × (len ≡ length (cpi_bytes (clip_in l))))
  unfolding cpi.tested_of clip_in runs_fit cpi_bytes
  cpi_told fields is =
      let p = picked all_entries_fit (λ e. let z : ◌≡◌ {A = ℕ} 0 1 = cc in omega arith) is in
      (fields_and_entries l ∙ true_both fields p.0, length_said (cpi.map_rows_of l.maps.bytes l.maps.rows) (cpi.entry_rows_of l.entries.bytes l.entries.rows) p.1)

  -- ---- what the tests and the section's functions ask

  -- the ATCs and STCs are there, and the counts add up
  pub sequences_counted : pairs_counted l ≡ true → sections.Counted Section.Sequences l.atcs.bytes l.atcs.rows l.stcs.bytes l.stcs.rows
  sequences_counted h =
      let is = counts 1 stc_cells l.atcs l.stcs (pairs h).0 in
      record { heads_there = is.heads_there; rows_there = is.rows_there; adds = is.adds }

  -- the programs and streams are there, and the counts add up
  pub programs_counted : pairs_counted l ≡ true → sections.Counted Section.Programs l.programs.bytes l.programs.rows l.streams.bytes l.streams.rows
  programs_counted h =
      let is = counts 2 stream_cells l.programs l.streams (pairs h).1.0 in
      record { heads_there = is.heads_there; rows_there = is.rows_there; adds = is.adds }

  -- a length measured from the tables of ATCs and STCs is that of the record's sequences
  pub sequences_long : {n : ℕ} → n ≡ length (sections.section_in Section.Sequences l.atcs.bytes l.atcs.rows l.stcs.bytes l.stcs.rows)
      → n ≡ length (sequences_bytes (clip_in l))
  unfolding clip_in
  sequences_long is = is ∙ ap length (sym (sequences_are (clip_in l)))

  -- a length measured from the tables of programs and streams is that of the record's programs
  pub programs_long : {n : ℕ} → n ≡ length (sections.section_in Section.Programs l.programs.bytes l.programs.rows l.streams.bytes l.streams.rows)
      → n ≡ length (programs_bytes (clip_in l))
  unfolding clip_in
  programs_long is = is ∙ ap length (sym (programs_are (clip_in l)))

  -- the maps and entries are there
  pub cpi_there : pairs_counted l ≡ true → cpi.BothThere l.maps.bytes l.maps.rows l.entries.bytes l.entries.rows
  cpi_there h =
      let is = counts 2 entry_cells l.maps l.entries (pairs h).1.1 in
      record { maps_there = is.heads_there; entries_there = is.rows_there }

  -- the maps count as many entries as there are, and are few enough and fit their fields
  pub cpi_counted : pairs_counted l ≡ true → fields_of ≡ true → cpi.Counted (cpi.map_rows_of l.maps.bytes l.maps.rows) (cpi.entry_rows_of l.entries.bytes l.entries.rows)
  unfolding is_counted
  cpi_counted h fields =
      let tables = (both_true {a = scalars_fit l.scalars} fields).1 in
      let maps = both_true (maps_fit l tables) in
      let stated = both (is_stated map_cells l.maps) (both (is_stated entry_cells l.entries) true) in
      let counted = both_true {a = stated} (pairs h).1.1 in
      record { add = counted.1; few = maps.0; fit = maps.1 }

  -- maps and entries that pass all tests can be written
  pub cpi_writable : Passed l → cpi.Writable (cpi.map_rows_of l.maps.bytes l.maps.rows) (cpi.entry_rows_of l.entries.bytes l.entries.rows)
  unfolding clip_in runs_fit
  cpi_writable p =
      let parts = both_true (sym (fields_and_entries l) ∙ p.fit) in
      record { counted = cpi_counted p.counted parts.0; entries_fit_lem = parts.1; runs_few = p.runs_fit_lem }

  -- ---- what storing each section asks, in an output of so many bytes

  -- the sequences can be stored from 220 up to the programs
  pub sequences_storable : (at : Places) (out : List ℕ) → Ready l at (length out)
      → sections.Storable Section.Sequences l.atcs.bytes l.atcs.rows l.stcs.bytes l.stcs.rows (at.programs - 220) out 220
  sequences_storable at out r =
      let c = clip_in l in
      let told = r.placed in
      let long : at.programs - 220 ≡ length (sequences_bytes c) = omega (arith, told.programs_at, place_programs c) in
      record {
        counted = sequences_counted (all_passed l r.writable).counted;
        is_long = long ∙ sym (sequences_long refl);
        narrow = omega (arith, told.programs_at, marks_bound l r.writable, place_programs c, place_cpi c, place_marks c);
        room = omega (arith, told.programs_at, told.room, told.marks_at, place_programs c, place_cpi c, place_marks c);
      }

  -- the programs can be stored from their place up to the CPI
  pub programs_storable : (at : Places) (out : List ℕ) → Ready l at (length out)
      → sections.Storable Section.Programs l.programs.bytes l.programs.rows l.streams.bytes l.streams.rows (at.cpi - at.programs) out at.programs
  programs_storable at out r =
      let c = clip_in l in
      let told = r.placed in
      let long : at.cpi - at.programs ≡ length (programs_bytes c) = omega (arith, told.programs_at, told.cpi_at, place_cpi c) in
      record {
        counted = programs_counted (all_passed l r.writable).counted;
        is_long = long ∙ sym (programs_long refl);
        narrow = omega (arith, told.programs_at, told.cpi_at, marks_bound l r.writable, place_programs c, place_cpi c, place_marks c);
        room = omega (arith, told.programs_at, told.cpi_at, told.room, told.marks_at, place_programs c, place_cpi c, place_marks c);
      }

  -- the CPI can be stored from its place up to the marks
  pub cpi_storable : (at : Places) (bytes : ℕ) → Ready l at bytes
      → cpi.CpiRoom l.maps.bytes l.maps.rows l.entries.bytes l.entries.rows (at.marks - at.cpi) bytes at.cpi
  unfolding clip_in cpi_bytes
  cpi_storable at bytes r =
      let c = clip_in l in
      let told = r.placed in
      let passed = all_passed l r.writable in
      let long : at.marks - at.cpi ≡ length (cpi_bytes c) = omega (arith, told.marks_at, told.cpi_at, place_marks c) in
      record {
        rows_there = cpi_there passed.counted;
        writable = cpi_writable passed;
        long = long;
        room = omega (arith, told.marks_at, told.cpi_at, told.room, place_marks c);
      }

  -- ---- the sections as parts of the file

  -- the section made of the tables of ATCs and STCs is the record's
  pub sequences_in : sections.section_in Section.Sequences l.atcs.bytes l.atcs.rows l.stcs.bytes l.stcs.rows ≡ sequences_bytes (clip_in l)
  unfolding clip_in
  sequences_in = sym (sequences_are (clip_in l))

  -- so is that made of the tables of programs and streams
  pub programs_in : sections.section_in Section.Programs l.programs.bytes l.programs.rows l.streams.bytes l.streams.rows ≡ programs_bytes (clip_in l)
  unfolding clip_in
  programs_in = sym (programs_are (clip_in l))

  -- so is that made of the tables of maps and entries
  pub cpi_in_lem : cpi_bytes_by (cpi.map_rows_of l.maps.bytes l.maps.rows) (cpi.entry_rows_of l.entries.bytes l.entries.rows) ≡ cpi_bytes (clip_in l)
  unfolding clip_in cpi_bytes
  cpi_in_lem = refl
