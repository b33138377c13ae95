-- Demand 3: what rewriting promises of every accepted file, however it is laid out.
use Rattle.std.specs.Prelude.{ℕ, ◌≤◌, ◌≡◌, List, [], ◌++◌, true, false, length, drop}
use Rattle.format.specs.Bytes.{IsBytes, unless}
use Rattle.format.specs.ClipRecord.{Clip, Record, letters_right}
use Rattle.format.specs.Programs.{lowered_clip}
use Rattle.format.specs.Reading.{record_of}
use Rattle.format.specs.Tables.{Nine, stated, ClipTables, HoldsClip, Room}
use Rattle.format.specs.Questions.{Question, parts_of, ask, HoldsPart}
use Rattle.format.specs.Rewriting.{encode}
use Rattle.format.specs.Refusals.{refusal_of, accepted, read_answer, Stated, stated_of, tables_of, tables_after, counts_add, cells_fit, runs_fit, write_refusal, written, write_answer, output_after}
use Rattle.format.proofs.Lists.{All}

-- ---- the files meant, and their new files

-- an accepted file, each of whose maps has at most 65,535 runs
pub record Rewritable (f : List ℕ) : Type 0 where
  pub bytes : IsBytes f
  pub accepted : refusal_of f ≡ 0
  pub runs : runs_fit (record_of f).clip ≡ true

-- the new file
abbrev pub rewritten : List ℕ → List ℕ
rewritten f = encode (record_of f).clip

-- what rewriting loses: the mark count, tables 7 to 9, and the (2, 5) list
abbrev pub without_extensions : Record → Record
without_extensions r =
    record { clip = r.clip; marks = 0; extensions = []; has_list = false; list_programs = []; list_streams = [] }

-- ---- rewriting through lent tables

-- the very tables that reading filled, handed over for writing with what reading stated
abbrev pub hand_over : Stated → Nine (List ℕ) → ClipTables
hand_over s t = record {
  scalars = s.scalars;
  atcs = stated t.atcs s.rows.atcs;
  stcs = stated t.stcs s.rows.stcs;
  programs = stated t.programs s.rows.programs;
  streams = stated t.streams s.rows.streams;
  maps = stated t.maps s.rows.maps;
  entries = stated t.entries s.rows.entries;
}

-- what is handed over once f has been read into these lent tables
unfoldable pub handed_over : List ℕ → Nine (List ℕ) → ClipTables
handed_over f tables = hand_over (stated_of f) (tables_after f tables)

-- ---- the promise

-- rewriting, which is reading and then writing, refuses nothing, and puts the new file at the front of the output
pub record Succeeds (f : List ℕ) (tables : Nine (List ℕ)) (out : List ℕ) : Type 0 where
  pub reads : read_answer f tables ≡ accepted (stated_of f)
  pub holds : HoldsClip (handed_over f tables) (record_of f).clip
  pub writes : write_answer (handed_over f tables) out ≡ written (length (rewritten f))
  pub output : output_after (handed_over f tables) out ≡ rewritten f ++ drop (length (rewritten f)) out

-- of a file that is accepted and has no map of over 65,535 runs (`Rewritable`), in six parts
pub record RewritingKeeps (f : List ℕ) : Type 0 where
  -- 1. where the buffers suffice, rewriting succeeds
  pub succeeds : (tables : Nine (List ℕ)) (out : List ℕ) → Room (tables_of f) tables → length (rewritten f) ≤ length out → Succeeds f tables out
  -- 2. the new file is accepted, and well below the greatest length
  pub short : length (rewritten f) ≤ 402515706
  pub new : refusal_of (rewritten f) ≡ 0
  -- 3. it reads to the same record apart from mark count and extensions
  pub same : record_of (rewritten f) ≡ without_extensions (record_of f)
  -- 4. every lookup, whatever it is asked, answers alike from the old file and the new, with none and refusals the same:
  -- from any tables that hold the old rows and any that hold the new ones, of which it is lent only those it needs
  pub alike : (question : Question) (old new : ClipTables)
      → All (HoldsPart old (record_of f).clip) (parts_of question) → All (HoldsPart new (record_of (rewritten f)).clip) (parts_of question)
      → ask question old ≡ ask question new
  -- 5. any two such files rewrite to equal bytes exactly when their records, compared in that way, are equal
  pub equal_bytes : (f₂ : List ℕ) → Rewritable f₂ → rewritten f ≡ rewritten f₂ → (record_of f).clip ≡ (record_of f₂).clip
  pub equal_records : (f₂ : List ℕ) → Rewritable f₂ → (record_of f).clip ≡ (record_of f₂).clip → rewritten f ≡ rewritten f₂
  -- 6. the new file is such a file too, and rewriting it changes no byte
  pub again : Rewritable (rewritten f)
  pub stable : rewritten (rewritten f) ≡ rewritten f

-- ---- what a file's record can look like, so that 1 has a reason: neither 22 nor 40 nor 30 can hold of an accepted file's

-- of any bytes, accepted or not: the counts add up, every cell fits, languages are lowered; beside 40, which the letters decide, only 31 can refuse it
pub record FromFile (f : List ℕ) : Type 0 where
  pub adds_up : counts_add (record_of f).clip ≡ true
  pub fits : cells_fit (record_of f).clip ≡ true
  pub lowered : lowered_clip (record_of f).clip ≡ (record_of f).clip
  pub only_40_and_31 : write_refusal (record_of f).clip ≡ unless (letters_right f) 40 (unless (runs_fit (record_of f).clip) 31 0)
  -- an accepted file has right letters, so that only 31 is left
  pub only_31 : refusal_of f ≡ 0 → write_refusal (record_of f).clip ≡ unless (runs_fit (record_of f).clip) 31 0

-- ---- a record made by hand that writing does not refuse: what is written is accepted and reads to it, its languages lowered

-- the file of such a record, which is also well below the greatest length
pub record Made (c : Clip) : Type 0 where
  pub bytes : IsBytes (encode c)
  pub short : length (encode c) ≤ 402515706
  pub accepted : refusal_of (encode c) ≡ 0
  pub reads : (record_of (encode c)).clip ≡ lowered_clip c
