-- Rewriting in one go, of what the contracts of `rewrite` and `rewritten_length` claim: the two tell the same, they give what the calls of
-- `read` and `write` give, refusals included, and they keep what demand 3 says.
use Rattle.std.specs.Prelude.{ℕ, ◌≤◌, ◌≡◌, List, ◌++◌, false, length, take, drop, eqb}
use Rattle.format.specs.Reading.{record_of}
use Rattle.format.specs.Refusals.{refusal_of, stated_of, tables_of, WriteAnswer, written, written_in}
use Rattle.format.specs.Tables.{Nine, Room}
use Rattle.encode.specs.Writing.{bytes_in, write_answer_of}
use Rattle.encode.proofs.write.write.Reads as write
use Rattle.rewrite.specs.Rewrite.{LengthAnswer, length_of}
use Rattle.rewrite.proofs.rewrite.rewrite.Reads as rewriting
use Rattle.rewrite.proofs.rewrite.rewritten_length.Reads as measuring
use Rattle.query_theorems.specs.Calls.{Call}
use Rattle.theorems.specs.Rewriting.{Rewritable, rewritten, hand_over}
use Rattle.rewriting_theorems.specs.Asked.{AskedAlike}
use Rattle.rewriting_theorems.specs.Rewriting.{ReadCall, ReadsAgain, kept, tables_left, given_to, output_given, output_left}

-- ---- the calls meant

-- a call of `rewrite` on a slice with the bytes f, and on any output
pub record OneGoCall (f : List ℕ) : Type 0 where
  pub call : Call rewriting.Post
  pub file : call.arguments.0.now ≡ f

-- the output as it is lent, and as the call leaves it
abbrev pub given : {f : List ℕ} → OneGoCall f → List ℕ
given z = z.call.arguments.1.0.now

abbrev pub left : {f : List ℕ} → OneGoCall f → List ℕ
left z = z.call.exit.1.0.now

-- a call of `rewritten_length` on a slice with the bytes f
pub record LengthCall (f : List ℕ) : Type 0 where
  pub call : Call measuring.Post
  pub file : call.arguments.0.now ≡ f

-- the new file: as many bytes from the output's front as the call says it wrote
abbrev pub new_bytes : {f : List ℕ} → OneGoCall f → List ℕ
new_bytes z = take (bytes_in (write_answer_of z.call.result)) (left z)

-- a call of `rewrite` on an output with as many bytes as a call of `rewritten_length` told, which may be longer and hold anything
pub record SizedCall (f : List ℕ) : Type 0 where
  pub length_call : LengthCall f
  pub told : ℕ
  pub answered : length_of length_call.call.result ≡ LengthAnswer.bytes told
  pub one_go : OneGoCall f
  pub room : told ≤ length (given one_go)

-- ---- what they give, of any bytes

-- the answer that a length told beforehand leads to, for an output of so many bytes
abbrev pub answer_with : LengthAnswer → ℕ → WriteAnswer
answer_with (LengthAnswer.refused n) room = WriteAnswer.refused n
answer_with (LengthAnswer.bytes n) room = written_in n room

-- rewriting in one go against reading and writing through tables, and against the length told beforehand
pub record AsByTables (f : List ℕ) : Type 0 where
  -- a file that reading refuses is refused with the same number, and the output stays as it was
  pub refused_answer : (z : OneGoCall f) → eqb (refusal_of f) 0 ≡ false → write_answer_of z.call.result ≡ WriteAnswer.refused (refusal_of f)
  pub refused_output : (z : OneGoCall f) → eqb (refusal_of f) 0 ≡ false → left z ≡ given z
  -- else it answers as the call of `write` does on the tables that a call of `read` filled, 31 and 23 included
  pub same_answer : refusal_of f ≡ 0 → (z : OneGoCall f) (x : ReadCall f) (w : Call write.Post) → given_to w ≡ hand_over (stated_of f) (tables_left x.call)
      → output_given w ≡ given z → write_answer_of z.call.result ≡ write_answer_of w.result
  -- and leaves the same bytes in an equal output
  pub same_output : refusal_of f ≡ 0 → (z : OneGoCall f) (x : ReadCall f) (w : Call write.Post) → given_to w ≡ hand_over (stated_of f) (tables_left x.call)
      → output_given w ≡ given z → left z ≡ output_left w
  -- `rewritten_length` tells beforehand what `rewrite` answers: its refusal, or the length that it writes or needs
  pub as_told : (m : LengthCall f) (z : OneGoCall f) → write_answer_of z.call.result ≡ answer_with (length_of m.call.result) (length (given z))

-- ---- the promise, as `CallsKeep` has it for `read` and `write`

-- of a file that is accepted and has no map of over 65,535 runs (`Rewritable`)
pub record OneGoKeeps (f : List ℕ) : Type 0 where
  -- 1. the new file's length is told
  pub length_told : (m : LengthCall f) → length_of m.call.result ≡ LengthAnswer.bytes (length (rewritten f))
  -- with an output of that length rewriting succeeds
  pub answer : (z : SizedCall f) → write_answer_of z.one_go.call.result ≡ written (length (rewritten f))
  -- the new file is at the output's front, and beyond it is what the output held
  pub output : (z : SizedCall f) → left z.one_go ≡ rewritten f ++ drop (length (rewritten f)) (given z.one_go)
  pub new : (z : SizedCall f) → new_bytes z.one_go ≡ rewritten f
  -- 2. and 3. the new file is accepted, and reads to the same scalars and the same rows
  pub reads_again : (z : SizedCall f) (y : ReadCall (new_bytes z.one_go)) → ReadsAgain f y
  -- tables that suffice for the old file suffice for the new one
  pub tables_again : (z : SizedCall f) (tables : Nine (List ℕ)) → Room (tables_of f) tables → Room (tables_of (new_bytes z.one_go)) tables
  -- 4. every question answers alike from the tables that a reading of the old file filled and those that a reading of the new one filled
  pub asked : (x : ReadCall f) (z : SizedCall f) (y : ReadCall (new_bytes z.one_go))
      → AskedAlike (hand_over (stated_of f) (tables_left x.call)) (hand_over (kept (stated_of f)) (tables_left y.call))
  -- 5. two such files get equal bytes exactly when their records, without marks and extensions, are equal: only then
  pub equal_bytes : (f₂ : List ℕ) → Rewritable f₂ → (z : SizedCall f) (z₂ : SizedCall f₂)
      → new_bytes z.one_go ≡ new_bytes z₂.one_go → (record_of f).clip ≡ (record_of f₂).clip
  -- and then always
  pub equal_records : (f₂ : List ℕ) → Rewritable f₂ → (z : SizedCall f) (z₂ : SizedCall f₂)
      → (record_of f).clip ≡ (record_of f₂).clip → new_bytes z.one_go ≡ new_bytes z₂.one_go
  -- 6. the new file is such a file too, and is as long as its own new file
  pub again : (z : SizedCall f) → Rewritable (new_bytes z.one_go)
  pub same_length : (z : SizedCall f) (m : LengthCall (new_bytes z.one_go)) → length_of m.call.result ≡ length_of z.length_call.call.result
  -- rewriting it succeeds too
  pub answer_again : (z : SizedCall f) (v : SizedCall (new_bytes z.one_go)) → write_answer_of v.one_go.call.result ≡ write_answer_of z.one_go.call.result
  -- and changes no byte
  pub unchanged : (z : SizedCall f) (v : SizedCall (new_bytes z.one_go)) → new_bytes v.one_go ≡ new_bytes z.one_go
