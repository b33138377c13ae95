-- Demand 3 for the calls, of what their own contracts claim: a file is read, what was read is written, the new file is read, and written again.
-- The calls are `clip_information::read::read` and `encode::write::write`, and `Post` is what their `ensures` claim, so the promise is about the
-- code that runs: a contract that left an answer or a table open would leave a field here without a proof.
use Rattle.std.specs.Prelude.{ℕ, ◌≤◌, ◌≡◌, List, ◌++◌, false, length, take, drop}
use Rattle.format.specs.Reading.{record_of}
use Rattle.format.specs.Tables.{Nine, ClipTables, HoldsClip, Room}
use Rattle.format.specs.Refusals.{Stated, stated_of, tables_of, tables_after, accepted, written}
use Rattle.format.proofs.Counts.{AtMost}
use Rattle.limits.specs.Stated.{stated_tables}
use Rattle.clip_information.specs.Read.{scalars_by, nine_tables_of, read_answer_of}
use Rattle.clip_information.proofs.read.read.Reads as read
use Rattle.encode.specs.Writing.{bytes_in, write_answer_of}
use Rattle.encode.proofs.write.write.Reads as write
use Rattle.theorems.specs.Rewriting.{Rewritable, rewritten, hand_over}
use Rattle.query_theorems.specs.Calls.{Call}
use Rattle.query_theorems.specs.Alike.{Alike}
use Rattle.rewriting_theorems.specs.Asked.{AskedAlike}

-- ---- a call of `read`

-- the file
abbrev pub file_of : Call read.Post → List ℕ
file_of x = x.arguments.0.now

-- the nine tables as they are lent
abbrev pub tables_given : Call read.Post → Nine (List ℕ)
tables_given x =
    nine_tables_of
    x.arguments.1.0.now
    x.arguments.1.1.0.now
    x.arguments.1.1.1.0.now
    x.arguments.1.1.1.1.0.now
    x.arguments.1.1.1.1.1.0.now
    x.arguments.1.1.1.1.1.1.0.now
    x.arguments.1.1.1.1.1.1.1.0.now
    x.arguments.1.1.1.1.1.1.1.1.0.now
    x.arguments.1.1.1.1.1.1.1.1.1.0.now

-- and as the call leaves them
abbrev pub tables_left : Call read.Post → Nine (List ℕ)
tables_left x =
    nine_tables_of
    x.exit.1.0.now
    x.exit.1.1.0.now
    x.exit.1.1.1.0.now
    x.exit.1.1.1.1.0.now
    x.exit.1.1.1.1.1.0.now
    x.exit.1.1.1.1.1.1.0.now
    x.exit.1.1.1.1.1.1.1.0.now
    x.exit.1.1.1.1.1.1.1.1.0.now
    x.exit.1.1.1.1.1.1.1.1.1.0.now

-- ---- a call of `write`

-- the scalars and the six tables that it is given, each with its rows
abbrev pub given_to : Call write.Post → ClipTables
given_to w = stated_tables (scalars_by w.arguments.0) w.arguments.1.0

-- the output as it is lent
abbrev pub output_given : Call write.Post → List ℕ
output_given w = w.arguments.1.1.0.now

-- and as the call leaves it
abbrev pub output_left : Call write.Post → List ℕ
output_left w = w.exit.1.1.0.now

-- the new file: as many bytes from the output's front as the call says it wrote
abbrev pub new_file : Call write.Post → List ℕ
new_file w = take (bytes_in (write_answer_of w.result)) (output_left w)

-- ---- the calls meant

-- a call of `read` on a slice with the bytes f, lent nine tables with room for its rows; they may be longer and hold anything
pub record ReadCall (f : List ℕ) : Type 0 where
  pub call : Call read.Post
  pub file : file_of call ≡ f
  pub room : Room (tables_of f) (tables_given call)

-- a call of `write` on what that call gave back: the scalars and the row counts of its answer, and the very tables that it filled;
-- and on an output with room for the new file, which may be longer and hold anything
pub record WriteCall {f : List ℕ} (x : ReadCall f) : Type 0 where
  pub call : Call write.Post
  pub told : Stated
  pub answered : read_answer_of x.call.result ≡ accepted told
  pub given : given_to call ≡ hand_over told (tables_left x.call)
  pub room : length (rewritten f) ≤ length (output_given call)

-- ---- what they give

-- what reading states of the new file: the same scalars and rows, no marks, no extensions and no list
abbrev pub kept : Stated → Stated
kept s = record {
  scalars = s.scalars;
  marks = 0;
  rows = record {
    atcs = s.rows.atcs;
    stcs = s.rows.stcs;
    programs = s.rows.programs;
    streams = s.rows.streams;
    maps = s.rows.maps;
    entries = s.rows.entries;
    extensions = 0;
    list_programs = 0;
    list_streams = 0;
  };
  has_list = false;
}

-- the file's call of `read`
pub record Reads {f : List ℕ} (x : ReadCall f) : Type 0 where
  -- it accepts, with the scalars and the counts of the record
  pub answer : read_answer_of x.call.result ≡ accepted (stated_of f)
  -- the nine tables have the rows at their fronts, and beyond them what they held
  pub tables : tables_left x.call ≡ tables_after f (tables_given x.call)
  -- the tables that writing and questions are lent hold the file's record
  pub holds : HoldsClip (hand_over (stated_of f) (tables_left x.call)) (record_of f).clip

-- the call of `write` on what it gave back
pub record Writes {f : List ℕ} {x : ReadCall f} (w : WriteCall x) : Type 0 where
  -- it refuses nothing and tells the new file's length
  pub answer : write_answer_of w.call.result ≡ written (length (rewritten f))
  -- the new file is at the output's front, and beyond it is what the output held
  pub output : output_left w.call ≡ rewritten f ++ drop (length (rewritten f)) (output_given w.call)
  -- so the front that the answer tells is the new file, and no more
  pub new : new_file w.call ≡ rewritten f

-- a call of `read` on the new file of f
pub record ReadsAgain (f : List ℕ) {new : List ℕ} (y : ReadCall new) : Type 0 where
  -- it accepts, with the scalars and the rows that the first call stated, but no marks, extensions or list
  pub answer : read_answer_of y.call.result ≡ accepted (kept (stated_of f))
  -- tables 1 to 6 hold the rows that the first call put there
  pub same : HoldsClip (hand_over (kept (stated_of f)) (tables_left y.call)) (record_of f).clip
  -- which are those of the new file
  pub holds : HoldsClip (hand_over (kept (stated_of f)) (tables_left y.call)) (record_of (rewritten f)).clip

-- a call of `write` on what that gave back
pub record WritesAgain {f : List ℕ} {x : ReadCall f} (w : WriteCall x) (y : ReadCall (new_file w.call)) (v : WriteCall y) : Type 0 where
  -- it tells the same length
  pub answer : write_answer_of v.call.result ≡ write_answer_of w.call.result
  -- and puts the same bytes at its output's front: rewriting the new file changes no byte
  pub output : output_left v.call ≡ new_file w.call ++ drop (length (new_file w.call)) (output_given v.call)
  -- so what the first writing gave is given again
  pub new : new_file v.call ≡ new_file w.call

-- ---- the promise

-- of a file that is accepted and has no map of over 65,535 runs (`Rewritable`)
pub record CallsKeep (f : List ℕ) : Type 0 where
  -- 1. where the tables suffice, reading succeeds
  pub reads : (x : ReadCall f) → Reads x
  -- where the output suffices too, writing succeeds
  pub writes : (x : ReadCall f) (w : WriteCall x) → Writes w
  -- the counts that `read` states are numbers of 32 bits, as `write` takes them
  pub counts : AtMost 66846465 (tables_of f)
  -- 2. and 3. the new file is accepted, and reads to the same scalars and the same rows
  pub reads_again : (x : ReadCall f) (w : WriteCall x) (y : ReadCall (new_file w.call)) → ReadsAgain f y
  -- tables that suffice for the old file suffice for the new one
  pub tables_again : (x : ReadCall f) (w : WriteCall x) (tables : Nine (List ℕ)) → Room (tables_of f) tables → Room (tables_of (new_file w.call)) tables
  -- and so does an output
  pub output_again : (x : ReadCall f) (w : WriteCall x) (out : List ℕ) → length (rewritten f) ≤ length out → length (rewritten (new_file w.call)) ≤ length out
  -- 4. every question, whatever tables it is lent that hold the old rows and the new ones, answers alike
  pub alike : Alike f
  -- so it does from the very tables that the first reading filled and those that the second filled
  pub asked : (x : ReadCall f) (w : WriteCall x) (y : ReadCall (new_file w.call))
      → AskedAlike (hand_over (stated_of f) (tables_left x.call)) (hand_over (kept (stated_of f)) (tables_left y.call))
  -- 5. two such files get equal bytes from their calls of `write` exactly when their records, without marks and extensions, are equal: only then
  pub equal_bytes : (f₂ : List ℕ) → Rewritable f₂ → (x : ReadCall f) (w : WriteCall x) (x₂ : ReadCall f₂) (w₂ : WriteCall x₂)
      → new_file w.call ≡ new_file w₂.call → (record_of f).clip ≡ (record_of f₂).clip
  -- and then always
  pub equal_records : (f₂ : List ℕ) → Rewritable f₂ → (x : ReadCall f) (w : WriteCall x) (x₂ : ReadCall f₂) (w₂ : WriteCall x₂)
      → (record_of f).clip ≡ (record_of f₂).clip → new_file w.call ≡ new_file w₂.call
  -- 6. the new file is such a file too
  pub again : (x : ReadCall f) (w : WriteCall x) → Rewritable (new_file w.call)
  -- and writing what was read of it changes no byte
  pub writes_again : (x : ReadCall f) (w : WriteCall x) (y : ReadCall (new_file w.call)) (v : WriteCall y) → WritesAgain w y v
