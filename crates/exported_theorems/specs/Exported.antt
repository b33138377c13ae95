-- Demand 3 for the calls that C makes, of what their own contracts claim: a file is read with `clpi_read`, what was read is written with
-- `clpi_write`, or the file is rewritten with `clpi_rewrite` and its new length told by `clpi_rewritten_length`; the new file is read, asked
-- and rewritten again. `Post` is what a call's `ensures` claims.
use Rattle.std.specs.Prelude.{ℕ, ◌≤◌, ◌≡◌, List, ◌++◌, length, take, drop}
use Rattle.format.specs.ClipRecord.{Scalars}
use Rattle.format.specs.Reading.{record_of}
use Rattle.format.specs.Tables.{Nine, stated, ClipTables, HoldsClip, Room}
use Rattle.format.specs.Refusals.{tables_of}
use Rattle.queries.specs.Asked.{tables_with}
use Rattle.clip_information.specs.Read.{nine_tables_of, scalars_by}
use Rattle.clpi_reading.specs.declared.ClpiReading.{ClpiReading}
use Rattle.clpi_writing.specs.declared.ClpiWriting.{ClpiWriting}
use Rattle.clpi.proofs.read.clpi_read.Reads as clpi_read
use Rattle.clpi.proofs.writing.clpi_write.Reads as clpi_write
use Rattle.clpi.proofs.writing.clpi_rewrite.Reads as clpi_rewrite
use Rattle.clpi.proofs.writing.clpi_rewritten_length.Reads as clpi_rewritten_length
use Rattle.query_theorems.specs.Calls.{Call}
use Rattle.theorems.specs.Rewriting.{Rewritable, rewritten}
use Rattle.exported_theorems.specs.Asked.{ExportedAlike}

-- ---- a call of `clpi_read`

-- the nine tables as they are lent
abbrev pub tables_at_entry : Call clpi_read.Post → Nine (List ℕ)
tables_at_entry x =
    nine_tables_of
    x.arguments.1.0.now
    x.arguments.1.1.0.now
    x.arguments.1.1.1.0.now
    x.arguments.1.1.1.1.0.now
    x.arguments.1.1.1.1.1.0.now
    x.arguments.1.1.1.1.1.1.0.now
    x.arguments.1.1.1.1.1.1.1.0.now
    x.arguments.1.1.1.1.1.1.1.1.0.now
    x.arguments.1.1.1.1.1.1.1.1.1.0.now

-- and as the call leaves them
abbrev pub tables_at_exit : Call clpi_read.Post → Nine (List ℕ)
tables_at_exit x =
    nine_tables_of
    x.exit.1.0.now
    x.exit.1.1.0.now
    x.exit.1.1.1.0.now
    x.exit.1.1.1.1.0.now
    x.exit.1.1.1.1.1.0.now
    x.exit.1.1.1.1.1.1.0.now
    x.exit.1.1.1.1.1.1.1.0.now
    x.exit.1.1.1.1.1.1.1.1.0.now
    x.exit.1.1.1.1.1.1.1.1.1.0.now

-- on a slice with the bytes f, lent nine tables with room for its rows; they may be longer and hold anything
pub record ClpiRead (f : List ℕ) : Type 0 where
  pub call : Call clpi_read.Post
  pub file : call.arguments.0.now ≡ f
  pub room : Room (tables_of f) (tables_at_entry call)

-- the scalars of its answer
abbrev pub scalars_read : ClpiReading → Scalars
scalars_read r = record {
  letters = r.letters;
  version = r.version;
  stream_type = r.clip_stream_type;
  application_type = r.application_type;
  rate = r.ts_recording_rate;
  packets = r.number_of_source_packets;
  validity_flags = r.validity_flags;
  format_id = r.format_id;
}

-- what it gives: the scalars and row counts of its answer, and the very tables that it filled
abbrev pub read_by : {f : List ℕ} → ClpiRead f → ClipTables
read_by x =
    let r = x.call.result in
    let t = tables_at_exit x.call in
    tables_with (scalars_read r)
    (stated t.atcs r.atcs)
    (stated t.stcs r.stcs)
    (stated t.programs r.programs)
    (stated t.streams r.streams)
    (stated t.maps r.maps)
    (stated t.entries r.entries)

-- ---- a call of `clpi_write`

-- the scalars and the six tables that it is given, each with its rows
abbrev pub handed_to : Call clpi_write.Post → ClipTables
handed_to w =
    tables_with (scalars_by w.arguments.0)
    (stated w.arguments.1.0.now w.arguments.1.1.0)
    (stated w.arguments.1.1.1.0.now w.arguments.1.1.1.1.0)
    (stated w.arguments.1.1.1.1.1.0.now w.arguments.1.1.1.1.1.1.0)
    (stated w.arguments.1.1.1.1.1.1.1.0.now w.arguments.1.1.1.1.1.1.1.1.0)
    (stated w.arguments.1.1.1.1.1.1.1.1.1.0.now w.arguments.1.1.1.1.1.1.1.1.1.1.0)
    (stated w.arguments.1.1.1.1.1.1.1.1.1.1.1.0.now w.arguments.1.1.1.1.1.1.1.1.1.1.1.1.0)

-- the output as it is lent
abbrev pub output_at_entry : Call clpi_write.Post → List ℕ
output_at_entry w = w.arguments.1.1.1.1.1.1.1.1.1.1.1.1.1.0.now

-- and as the call leaves it
abbrev pub output_at_exit : Call clpi_write.Post → List ℕ
output_at_exit w = w.exit.1.1.1.1.1.1.1.1.1.1.1.1.1.0.now

-- on what a call of `clpi_read` gives, and an output with room for the new file, which may be longer and hold anything
pub record ClpiWrite {f : List ℕ} (x : ClpiRead f) : Type 0 where
  pub call : Call clpi_write.Post
  pub given : handed_to call ≡ read_by x
  pub room : length (rewritten f) ≤ length (output_at_entry call)

-- ---- calls of `clpi_rewrite` and `clpi_rewritten_length`

-- on a slice with the bytes f, and an output with room for the new file
pub record ClpiRewrite (f : List ℕ) : Type 0 where
  pub call : Call clpi_rewrite.Post
  pub file : call.arguments.0.now ≡ f
  pub room : length (rewritten f) ≤ length call.arguments.1.0.now

-- on a slice with the bytes f
pub record ClpiRewrittenLength (f : List ℕ) : Type 0 where
  pub call : Call clpi_rewritten_length.Post
  pub file : call.arguments.0.now ≡ f

-- ---- the new file

-- a new file of f, made by either way
pub data NewFile (f : List ℕ) : Type 0 where
  by_tables : (x : ClpiRead f) → ClpiWrite x → NewFile f
  in_one_go : ClpiRewrite f → NewFile f

-- its bytes: as many from the output's front as the answer says were written
abbrev pub bytes_of_new : {f : List ℕ} → NewFile f → List ℕ
bytes_of_new (by_tables x w) = take w.call.result.bytes_written (output_at_exit w.call)
bytes_of_new (in_one_go z) = take z.call.result.bytes_written z.call.exit.1.0.now

-- ---- what the calls give

-- an answer of reading without a refusal, and tables 1 to 6 with the rows of a file f
pub record HasRead {g : List ℕ} (f : List ℕ) (x : ClpiRead g) : Type 0 where
  pub not_refused : x.call.result.refusal ≡ 0
  pub holds : HoldsClip (read_by x) (record_of f).clip

-- an answer of writing without a refusal: the new file of f at the output's front, and beyond it what the output held
pub record HasWritten (f : List ℕ) (r : ClpiWriting) (given left : List ℕ) : Type 0 where
  pub not_refused : r.refusal ≡ 0
  pub written : r.bytes_written ≡ length (rewritten f)
  pub output : left ≡ rewritten f ++ drop (length (rewritten f)) given

-- ---- the promise

-- of a file that is accepted and has no map of over 65,535 runs (`Rewritable`)
pub record ExportedKeep (f : List ℕ) : Type 0 where
  -- 1. where tables and output suffice, reading, writing and rewriting succeed, and the length is told beforehand
  pub reads : (x : ClpiRead f) → HasRead f x
  pub writes : (x : ClpiRead f) (w : ClpiWrite x) → HasWritten f w.call.result (output_at_entry w.call) (output_at_exit w.call)
  pub rewrites : (z : ClpiRewrite f) → HasWritten f z.call.result z.call.arguments.1.0.now z.call.exit.1.0.now
  pub length_told : (m : ClpiRewrittenLength f) → (m.call.result.refusal ≡ 0) × (m.call.result.bytes ≡ length (rewritten f))
  -- 2. and 3. the new file is accepted, reads to the old file's scalars and rows, and needs no longer tables
  pub reads_again : (n : NewFile f) (y : ClpiRead (bytes_of_new n)) → HasRead f y
  pub tables_again : (n : NewFile f) (tables : Nine (List ℕ)) → Room (tables_of f) tables → Room (tables_of (bytes_of_new n)) tables
  -- 4. every question answers alike from the tables that were filled from the old file and those that were filled from the new one
  pub asked : (x : ClpiRead f) (n : NewFile f) (y : ClpiRead (bytes_of_new n)) → ExportedAlike (read_by x) (read_by y)
  -- 5. two such files get equal bytes exactly when their records, without marks and extensions, are equal
  pub equal_bytes : (f₂ : List ℕ) → Rewritable f₂ → (n : NewFile f) (n₂ : NewFile f₂) → bytes_of_new n ≡ bytes_of_new n₂ → (record_of f).clip ≡ (record_of f₂).clip
  pub equal_records : (f₂ : List ℕ) → Rewritable f₂ → (n : NewFile f) (n₂ : NewFile f₂) → (record_of f).clip ≡ (record_of f₂).clip → bytes_of_new n ≡ bytes_of_new n₂
  -- 6. the new file is such a file too, and rewriting it changes no byte
  pub again : (n : NewFile f) → Rewritable (bytes_of_new n)
  pub unchanged : (n : NewFile f) (m : NewFile (bytes_of_new n)) → bytes_of_new m ≡ bytes_of_new n

-- ---- refusals, of any bytes and any tables

-- a refusal leaves every lent table, and the output, as it was
pub record RefusalsLeave : Type 0 where
  pub clpi_read : (x : Call clpi_read.Post) → (x.result.refusal ≡ 0 → ⊥) → tables_at_exit x ≡ tables_at_entry x
  pub clpi_write : (w : Call clpi_write.Post) → (w.result.refusal ≡ 0 → ⊥) → output_at_exit w ≡ output_at_entry w
  pub clpi_rewrite : (z : Call clpi_rewrite.Post) → (z.result.refusal ≡ 0 → ⊥) → z.exit.1.0.now ≡ z.arguments.1.0.now
