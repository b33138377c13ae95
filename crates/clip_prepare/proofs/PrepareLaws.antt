-- What was measured is what reading needs.
use Prim.Native.Nat.{ℕ, zero, suc, ◌≤◌}
use mathlib.Core.Path.{◌≡◌, refl, sym, ap, ◌∙◌}
use mathlib.Core.List.{List, []}
use mathlib.Core.Bool.{Bool, true, false}
use native.Mathlib.Omega.{arith}
use lib.ListN.{length}
use lib.Dec.{eqb, eqb-suc-zero}
use Rattle.std.specs.Prelude.{Option, Some, None, is_some, Result, Ok, Err}
use Rattle.std.specs.Option.{unwrap_or, option_and}
use Rattle.format.specs.Bytes.{pick}
use Rattle.format.specs.ClipRecord.{extensions_start}
use Rattle.format.specs.Programs.{programs_from, streams_from}
use Rattle.format.specs.Extensions.{Found, nothing, found, extension_rows, extensions_from, list_data, list_in, list_programs_of, list_streams_of}
use Rattle.format.specs.Reading.{record_of}
use Rattle.format.specs.Refusals.{refused, too_short, accepted, refusal_of, tables_of, stated_of}
use Rattle.format.proofs.Tests.{ap_pick}
use Rattle.extension.specs.Block.{found_in, list_end, MeasuredIs}
use Rattle.extension.specs.declared.ListData.{ListData}
use Rattle.extension.specs.declared.MeasuredBlock.{MeasuredBlock}
use Rattle.info_sections.specs.Sections.{counts_told}
use Rattle.info_sections.specs.declared.SectionCounts.{SectionCounts}
use Rattle.clip_sections.specs.Clips.{counted_of, sections_of}
use Rattle.clip_sections.specs.declared.sections.Sections.{Sections}
use Rattle.clip_sections.proofs.Laws.{SectionsAre}
use Rattle.nine_tables.specs.Room.{room_of}
use Rattle.nine_tables.specs.declared.Rows.{Rows}
use Rattle.nine_tables.specs.declared.TableShort.{TableShort}
use Rattle.clip_prepare.specs.Lists.{list_rows_of}
use Rattle.clip_prepare.specs.Prepare.{list_programs, list_streams, needed_rows, room_answer, answer_for, ReadyIs}

-- ---- the sections

module _ (f : List ℕ) where
  -- a refused section is the answer, whatever is lent
  pub sections_refused : (bytes : Rows) (n : ℕ) → Err n ≡ sections_of f → refused n ≡ answer_for f bytes
  unfolding sections_of answer_for
  sections_refused bytes n h = go (refusal_of f) h
    where
      go : (r : ℕ) → Err n ≡ pick (eqb r 0) (Ok (counted_of f)) (Err r)
          → refused n ≡ pick (eqb r 0) (room_answer f (room_of (needed_rows f) bytes)) (refused r)
      go zero h = let z : ◌≡◌ {A = ℕ} 0 1 = cc in absurd (omega arith)
      go (suc r) h = let g = rw (eqb-suc-zero r) at h in let e : n ≡ suc r = cc in rw (eqb-suc-zero r) (ap (λ k. refused k) e)

-- ---- the list

-- the programs measured are those of the record
programs_listed : (d : Found) → list_programs (list_rows_of d) ≡ length (pick (list_in d) (list_programs_of d) [])
unfolding list_rows_of list_in
programs_listed nothing = refl
programs_listed (found d) = ap_pick list_programs (list_in (found d)) _ _ ∙ sym (ap_pick length (list_in (found d)) (programs_from d 0) [])

-- and so the streams
streams_listed : (d : Found) → list_streams (list_rows_of d) ≡ length (pick (list_in d) (list_streams_of d) [])
unfolding list_rows_of list_in
streams_listed nothing = refl
streams_listed (found d) = ap_pick list_streams (list_in (found d)) _ _ ∙ sym (ap_pick length (list_in (found d)) (streams_from d 0) [])

-- the programs told
programs_told : (counts : Option SectionCounts) → (unwrap_or counts (record { heads = 0; rows = 0 })).heads ≡ list_programs counts
programs_told (Some counts) = refl
programs_told None = refl

-- and the streams
streams_told : (counts : Option SectionCounts) → (unwrap_or counts (record { heads = 0; rows = 0 })).rows ≡ list_streams counts
streams_told (Some counts) = refl
streams_told None = refl

-- data that is no list of programs is dropped: what is kept is there where a list is
kept_there : (f : List ℕ) (list : Option ListData) → is_some (option_and (list_rows_of (found_in f list)) list) ≡ list_in (found_in f list)
unfolding list_rows_of list_in
kept_there f None = refl
kept_there f (Some list) = by_test (list_in (found_in f (Some list))) _ _
  where
    by_test : (t : Bool) (p s : ℕ) → is_some (option_and (pick t (counts_told p s) None) (Some list)) ≡ t
    by_test true p s = refl
    by_test false p s = refl

-- and it is the data of that list
kept_found : (f : List ℕ) (list : Option ListData)
    → found_in f (option_and (list_rows_of (found_in f list)) list) ≡ pick (list_in (found_in f list)) (found_in f list) nothing
unfolding list_rows_of list_in
kept_found f None = refl
kept_found f (Some list) = by_test (list_in (found_in f (Some list))) _ _
  where
    by_test : (t : Bool) (p s : ℕ) → found_in f (option_and (pick t (counts_told p s) None) (Some list)) ≡ pick t (found_in f (Some list)) nothing
    by_test true p s = refl
    by_test false p s = refl

-- which lies inside the file
kept_inside : (counts : Option SectionCounts) (list : Option ListData) (n : ℕ) → list_end list ≤ n → list_end (option_and counts list) ≤ n
kept_inside (Some counts) list n h = h
kept_inside None list n h = omega arith

-- ---- all nine

-- what the passes over the file answered
pub record Passed (f : List ℕ) (s : Sections) (start : ℕ) (r : MeasuredBlock) (second : Option SectionCounts) (listed : SectionCounts) : Type 0 where
  pub sections : SectionsAre f s
  pub start_is : start ≡ extensions_start f
  pub block : MeasuredIs f (extension_rows f start) (extensions_from f start) r
  pub second_is : second ≡ list_rows_of (found_in f r.list)
  pub listed_is : listed ≡ unwrap_or second (record { heads = 0; rows = 0 })

module _ (f : List ℕ) (bytes : Rows) {s : Sections} {start : ℕ} {r : MeasuredBlock} {second : Option SectionCounts} {listed : SectionCounts} (c : Passed f s start r second listed) where
  -- the rows measured
  abbrev pub measured_rows : Rows
  measured_rows = record {
    atcs = s.atcs;
    stcs = s.stcs;
    programs = s.programs;
    streams = s.streams;
    maps = s.maps;
    entries = s.entries;
    extensions = r.rows;
    list_programs = listed.heads;
    list_streams = listed.rows;
  }

  -- the data found is that of the list
  list_data_lem : found_in f r.list ≡ list_data (extensions_from f (extensions_start f))
  list_data_lem = c.block.list ∙ ap (λ q. list_data (extensions_from f q)) c.start_is

  -- the list measured is that of the file
  list_found : second ≡ list_rows_of (list_data (extensions_from f (extensions_start f)))
  list_found = c.second_is ∙ ap list_rows_of list_data_lem

  -- the rows measured are the rows needed
  rows_needed : measured_rows ≡ needed_rows f
  unfolding tables_of record_of
  rows_needed =
      let d = list_data (extensions_from f (extensions_start f)) in
      let sections = c.sections.same in
      let x : r.rows ≡ length (extension_rows f (extensions_start f)) = c.block.rows ∙ ap (λ q. length (extension_rows f q)) c.start_is in
      let lps : listed.heads ≡ length (pick (list_in d) (list_programs_of d) []) =
      ap (λ (x : SectionCounts). x.heads) c.listed_is ∙ programs_told second ∙ ap list_programs list_found ∙ programs_listed d in
      let lss : listed.rows ≡ length (pick (list_in d) (list_streams_of d) []) =
      ap (λ (x : SectionCounts). x.rows) c.listed_is ∙ streams_told second ∙ ap list_streams list_found ∙ streams_listed d in
      λ i. record {
        atcs = (sections i).atcs;
        stcs = (sections i).stcs;
        programs = (sections i).programs;
        streams = (sections i).streams;
        maps = (sections i).maps;
        entries = (sections i).entries;
        extensions = x i;
        list_programs = lps i;
        list_streams = lss i;
      }

  -- so the room looked at is the room needed
  room_needed : {q : Result (Unit {0}) TableShort} → q ≡ room_of measured_rows bytes → room_of (needed_rows f) bytes ≡ q
  room_needed h = ap (λ n. room_of n bytes) (sym rows_needed) ∙ sym h

  -- a table too short is the answer
  pub room_short : {short : TableShort} → Err short ≡ room_of measured_rows bytes → too_short short.table short.rows ≡ answer_for f bytes
  unfolding answer_for
  room_short h = rw (c.sections.accepts, room_needed h)

  module _ {u : Unit {0}} (h : Ok u ≡ room_of measured_rows bytes) where
    -- with room enough the file is accepted
    pub room_enough : accepted (stated_of f) ≡ answer_for f bytes
    unfolding answer_for
    room_enough = rw (c.sections.accepts, room_needed h)

    -- and all is ready
    pub made_ready : ReadyIs f bytes (record { rows = measured_rows; «data» = r.list; list = option_and second r.list })
    unfolding record_of
    made_ready =
        let d = list_data_lem in
        record {
          accepts = c.sections.accepts;
          rows_are = rows_needed;
          room = room_needed h;
          data_is = d;
          data_in_lem = c.block.inside;
          list_is = rw (c.second_is, kept_found f r.list, d);
          list_in_lem = kept_inside second r.list (length f) c.block.inside;
          has_is = rw (c.second_is, kept_there f r.list, d);
        }
