-- Demand 3, proved: from what a file's record looks like, what is written of it, and that questions look at the stated rows alone.
use Prim.Native.Nat.{ℕ, ◌≤◌}
use mathlib.Core.Path.{◌≡◌, refl, sym, ap, ◌∙◌}
use mathlib.Core.List.{List}
use lib.ListN.{length}
use borrow.Author.Tests.{le-leb}
use Rattle.format.specs.Bytes.{IsBytes, unless}
use Rattle.format.specs.ClipRecord.{Clip, Record, are_letters, letters_right, scalars_of, programs_start}
use Rattle.format.specs.Reading.{clip_of, record_of}
use Rattle.format.specs.Programs.{lowered_clip}
use Rattle.format.specs.Tables.{Nine, ClipTables, HoldsClip, Room}
use Rattle.format.specs.Questions.{Question, parts_of, ask, HoldsPart}
use Rattle.format.specs.Rewriting.{encode}
use Rattle.format.specs.Refusals.{refusal_of, accepted, read_answer, stated_of, tables_of, tables_after, write_refusal, written, write_answer, output_after}
use Rattle.format.proofs.Lists.{All}
use Rattle.theorems.specs.Rewriting.{Rewritable, rewritten, without_extensions, handed_over, Succeeds, RewritingKeeps, FromFile, Made}
use Rattle.format.proofs.Good.{GoodClip, Writable}
use Rattle.format.proofs.Read.{good_clip, narrow, right_front, lowered_streams}
use Rattle.format.proofs.Write.{encode_bytes, counts, cells, runs_fit_lem, written as not_refused}
use Rattle.format.proofs.Whole.{is_short, is_accepted, reads_back, record_back}
use Rattle.format.proofs.Maker.{good_made}
use Rattle.format.proofs.ClipTables.{Shaped, shaped, clip_held, all_stated_lem, asked, no_short, filled_holds}

-- ---- a file's record

-- of any bytes
pub good_of : (f : List ℕ) → IsBytes f → GoodClip 262143 (record_of f).clip
unfolding record_of
good_of f bytes = good_clip f bytes

-- languages are lowered as they are read, so lowering changes nothing
low_of : (f : List ℕ) → IsBytes f → lowered_clip (record_of f).clip ≡ (record_of f).clip
unfolding record_of lowered_clip clip_of
low_of f bytes = let e = lowered_streams f bytes (programs_start f) in rw e

-- its letters are those that reading tests
letters_of_lem : (f : List ℕ) → are_letters (record_of f).clip.scalars.letters ≡ letters_right f
unfolding record_of clip_of scalars_of letters_right
letters_of_lem f = refl

-- the counts add up and the cells fit, which leaves 40 and 31 of the refusals of writing, and 31 alone of an accepted file
pub from_file : (f : List ℕ) → IsBytes f → FromFile f
unfolding write_refusal
from_file f bytes =
    let c = (record_of f).clip in
    let g = good_of f bytes in
    let a = counts 262143 c g in
    let b = cells 262143 c g in
    record {
      adds_up = a;
      fits = b;
      lowered = low_of f bytes;
      only_40_and_31 = rw (a, letters_of_lem f, b);
      only_31 = λ accepts. rw (a, letters_of_lem f, (right_front f accepts).1, b);
    }

-- ---- a record made by hand

-- what the refusals test is all that writing and reading back need
pub made : (c : Clip) → write_refusal c ≡ 0 → Made c
unfolding record_of
made c h =
    let w = good_made c h in
    record { bytes = encode_bytes c; short = is_short c w; accepted = is_accepted c w; reads = reads_back c w }

-- ---- an accepted file read into tables with room

module _ (f : List ℕ) (accepts : refusal_of f ≡ 0) (tables : Nine (List ℕ)) (room : Room (tables_of f) tables) where
  -- the file is not refused and no table gives 21, so the answer is what the file states
  pub reading_accepts : read_answer f tables ≡ accepted (stated_of f)
  unfolding read_answer
  reading_accepts = rw (accepts, no_short f tables room)

  -- what is handed over for writing holds its record
  pub reading_holds : HoldsClip (handed_over f tables) (record_of f).clip
  unfolding handed_over stated_of tables_after tables_of
  reading_holds =
      let c = (record_of f).clip in
      rw reading_accepts (record {
        scalars = refl;
        atcs = filled_holds c.atcs tables.atcs;
        stcs = filled_holds c.stcs tables.stcs;
        programs = filled_holds c.programs tables.programs;
        streams = filled_holds c.streams tables.streams;
        maps = filled_holds c.maps tables.maps;
        entries = filled_holds c.entries tables.entries;
      })

-- ---- the six parts

module _ (f : List ℕ) (h : Rewritable f) where
  -- no map has more than 65,535 runs
  good : GoodClip 65535 (record_of f).clip
  good = narrow (record_of f).clip (good_of f h.bytes) h.runs

  -- and the letters are right, so the record can be written
  writable : Writable (record_of f).clip
  writable = record { letters = letters_of_lem f ∙ (right_front f h.accepted).1; good = good }

  -- 3. the new file reads to the old record with its languages lowered, which they were
  same_record : record_of (rewritten f) ≡ without_extensions (record_of f)
  same_record = record_back (record_of f).clip writable ∙ rw (low_of f h.bytes)

  -- so the scalars and the rows are the same
  same_clip : (record_of (rewritten f)).clip ≡ (record_of f).clip
  same_clip = ap (λ (r : Record). r.clip) same_record

  -- 1. reading into the tables, and writing from them
  module _ (tables : Nine (List ℕ)) (room : Room (tables_of f) tables) where
    -- reading accepts, as the tables have room
    reads : read_answer f tables ≡ accepted (stated_of f)
    reads = reading_accepts f h.accepted tables room

    -- the tables handed over hold the record
    holds : HoldsClip (handed_over f tables) (record_of f).clip
    holds = reading_holds f h.accepted tables room

    module _ (out : List ℕ) (long : length (rewritten f) ≤ length out) where
      -- so writing sees the record, refuses nothing, and has room in the output
      writes : write_answer (handed_over f tables) out ≡ written (length (rewritten f))
      unfolding write_answer
      writes =
          let s = shaped 65535 (record_of f).clip good in
          rw (
            all_stated_lem (handed_over f tables) (record_of f).clip s holds,
            clip_held (handed_over f tables) (record_of f).clip s holds,
            not_refused (record_of f).clip writable,
            le-leb (length (rewritten f)) (length out) long,
          )

      -- and the output begins with the new file
      succeed : Succeeds f tables out
      unfolding output_after
      succeed =
          let s = shaped 65535 (record_of f).clip good in
          let e = clip_held (handed_over f tables) (record_of f).clip s holds in
          record { reads = reads; holds = holds; writes = writes; output = rw (writes, e) }

  -- 4. tables that hold the old record's rows and tables that hold the new one's
  alike : (question : Question) (old new : ClipTables)
      → All (HoldsPart old (record_of f).clip) (parts_of question) → All (HoldsPart new (record_of (rewritten f)).clip) (parts_of question)
      → ask question old ≡ ask question new
  alike question old new ho hn =
      let s = shaped 65535 (record_of f).clip good in
      let hn' : All (HoldsPart new (record_of f).clip) (parts_of question) = rw same_clip at hn in
      asked old (record_of f).clip s question ho ∙ sym (asked new (record_of f).clip s question hn')

-- the rows of a file's record have the cells that their tables say
pub file_shaped : (f : List ℕ) → Rewritable f → Shaped (record_of f).clip
file_shaped f h = shaped 65535 (record_of f).clip (good f h)

-- demand 3
pub rewriting_keeps : (f : List ℕ) → Rewritable f → RewritingKeeps f
rewriting_keeps f h =
    let c = (record_of f).clip in
    let w = writable f h in
    record {
      succeeds = λ tables out room long. succeed f h tables room out long;
      short = is_short c w;
      new = is_accepted c w;
      same = same_record f h;
      alike = alike f h;
      equal_bytes = λ f₂ h₂ e. sym (same_clip f h) ∙ ap (λ (b : List ℕ). (record_of b).clip) e ∙ same_clip f₂ h₂;
      equal_records = λ f₂ h₂ e. ap encode e;
      again = record { bytes = encode_bytes c; accepted = is_accepted c w; runs = rw (same_clip f h) (runs_fit_lem c w.good) };
      stable = ap encode (same_clip f h);
    }
