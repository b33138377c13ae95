-- Rewriting in one go: the definition's answer is that of reading and writing through tables, and so is the call's; demand 3 follows.
use Prim.Native.Nat.{ℕ, ◌≤◌}
use mathlib.Core.Path.{◌≡◌, refl, sym, ap, ◌∙◌}
use mathlib.Core.List.{List, ◌++◌}
use mathlib.Core.Bool.{Bool, true, false}
use lib.ListN.{length, drop}
use lib.Dec.{eqb}
use borrow.Author.Tests.{le-leb}
use Rattle.format.specs.Bytes.{IsBytes, pick}
use Rattle.format.specs.Reading.{clip_of, record_of}
use Rattle.format.specs.Rewriting.{encode}
use Rattle.format.specs.Tables.{Nine, ClipTables, Room, clip_in}
use Rattle.format.specs.Refusals.{refusal_of, stated_of, tables_of, tables_after, WriteAnswer, written, written_in, write_answer, output_by, output_after}
use Rattle.format.proofs.ClipTables.{Shaped, shaped, clip_held, all_stated_lem}
use Rattle.theorems.specs.Rewriting.{Rewritable, rewritten, hand_over, handed_over}
use Rattle.theorems.proofs.Rewriting.{good_of, from_file, reading_holds, rewriting_keeps}
use Rattle.encode.specs.Writing.{bytes_in, write_answer_of}
use Rattle.encode.proofs.write.write.Reads as write
use Rattle.rewrite.specs.Rewrite.{rewrite_refusal, rewrite_answer, LengthAnswer, length_answer, length_of, length_in}
use Rattle.query_theorems.specs.Calls.{Call}
use Rattle.rewriting_theorems.specs.Rewriting.{ReadCall, tables_given, tables_left, given_to, output_given, output_left}
use Rattle.rewriting_theorems.specs.OneGo.{OneGoCall, given, left, LengthCall, new_bytes, SizedCall, answer_with, AsByTables, OneGoKeeps}
use Rattle.rewriting_theorems.proofs.Promises.{tables_left_lem, write_answer_lem, output_left_lem}
use Rattle.rewriting_theorems.proofs.Rewriting.{front, rewritable_again, stable, tables_again, new_read, new_asked}

-- ---- the definitions

module _ (f : List ℕ) (bytes : IsBytes f) (accepts : refusal_of f ≡ 0) (tables : Nine (List ℕ)) (room : Room (tables_of f) tables) where
  -- the rows of its record have the cells that their tables say
  cells : Shaped (record_of f).clip
  cells = shaped 262143 (record_of f).clip (good_of f bytes)

  -- the record handed over
  handed : clip_in (handed_over f tables) ≡ (record_of f).clip
  handed = clip_held (handed_over f tables) (record_of f).clip cells (reading_holds f accepts tables room)

  -- writing from what was handed over answers as rewriting in one go, since of the refusals of writing only 31 is left of an accepted file
  by_tables : (out : List ℕ) → write_answer (handed_over f tables) out ≡ rewrite_answer f out
  unfolding write_answer rewrite_answer record_of
  by_tables out =
      rw (
        all_stated_lem (handed_over f tables) (record_of f).clip cells (reading_holds f accepts tables room),
        handed,
        (from_file f bytes).only_31 accepts,
        accepts,
      )

  -- and the bytes that it writes are the same
  bytes_by_tables : encode (clip_in (handed_over f tables)) ≡ encode (clip_of f)
  unfolding record_of
  bytes_by_tables = ap encode handed

-- ---- the calls

module _ (f : List ℕ) (z : OneGoCall f) where
  -- what the contract claims, of f
  one_answer : write_answer_of z.call.result ≡ rewrite_answer f (given z)
  one_answer = z.call.allowed.0 ∙ ap (λ (g : List ℕ). rewrite_answer g (given z)) z.file

  -- and what the call leaves in the output, of f
  one_output : left z ≡ output_by (rewrite_answer f (given z)) (encode (clip_of f)) (given z)
  one_output =
      z.call.allowed.1 ∙ ap (λ (a : WriteAnswer). output_by a (encode (clip_of z.call.arguments.0.now)) (given z)) one_answer
      ∙ ap (λ (g : List ℕ). output_by (rewrite_answer f (given z)) (encode (clip_of g)) (given z)) z.file

  -- a refusal of reading
  refuses : eqb (refusal_of f) 0 ≡ false → rewrite_answer f (given z) ≡ WriteAnswer.refused (refusal_of f)
  unfolding rewrite_answer
  refuses h = rw (h, h)

-- the length that is told
length_is : (f : List ℕ) (m : LengthCall f) → length_of m.call.result ≡ length_answer f
length_is f m = m.call.allowed ∙ ap length_answer m.file

-- a choice of two, told first and then answered with
told_first : (b : Bool) (refusal n room : ℕ) → pick b (written_in n room) (WriteAnswer.refused refusal) ≡ answer_with (pick b (LengthAnswer.bytes n) (LengthAnswer.refused refusal)) room
told_first true refusal n room = refl
told_first false refusal n room = refl

-- the answer for an output is the one that the length told for the file leads to
by_length : (f out : List ℕ) → rewrite_answer f out ≡ answer_with (length_answer f) (length out)
unfolding rewrite_answer length_answer
by_length f out = told_first (eqb (rewrite_refusal f) 0) (rewrite_refusal f) (length (encode (clip_of f))) (length out)

module _ (f : List ℕ) (bytes : IsBytes f) (accepts : refusal_of f ≡ 0) (z : OneGoCall f) (x : ReadCall f) (w : Call write.Post)
    (same : given_to w ≡ hand_over (stated_of f) (tables_left x.call)) (out : output_given w ≡ given z) where
  -- the very tables that reading filled
  tables_are : given_to w ≡ handed_over f (tables_given x.call)
  unfolding handed_over
  tables_are =
      same
      ∙ ap (hand_over (stated_of f)) (tables_left_lem x.call ∙ ap (λ (g : List ℕ). tables_after g (tables_given x.call)) x.file)

  -- so the definition of writing, at the arguments of `write`, answers as that of rewriting
  write_same : write_answer (given_to w) (output_given w) ≡ rewrite_answer f (given z)
  write_same = rw (tables_are, out) (by_tables f bytes accepts (tables_given x.call) x.room (given z))

  -- and the two calls answer alike
  answers : write_answer_of z.call.result ≡ write_answer_of w.result
  answers = one_answer f z ∙ sym (write_answer_lem w ∙ write_same)

  -- and leave the same bytes
  outputs : left z ≡ output_left w
  unfolding output_after
  outputs =
      one_output f z
      ∙ sym (output_left_lem w
      ∙ ap (λ (a : WriteAnswer). output_by a (encode (clip_in (given_to w))) (output_given w)) write_same
      ∙ ap (λ (l : ClipTables). output_by (rewrite_answer f (given z)) (encode (clip_in l)) (output_given w)) tables_are
      ∙ ap (λ (b : List ℕ). output_by (rewrite_answer f (given z)) b (output_given w)) (bytes_by_tables f bytes accepts (tables_given x.call) x.room)
      ∙ ap (λ (o : List ℕ). output_by (rewrite_answer f (given z)) (encode (clip_of f)) o) out)

-- rewriting in one go gives what reading and writing give
pub as_by_tables : (f : List ℕ) → IsBytes f → AsByTables f
as_by_tables f bytes = record {
  refused_answer = λ z h. one_answer f z ∙ refuses f z h;
  refused_output = λ z h. one_output f z ∙ ap (λ (a : WriteAnswer). output_by a (encode (clip_of f)) (given z)) (refuses f z h);
  same_answer = λ accepts z x w same out. answers f bytes accepts z x w same out;
  same_output = λ accepts z x w same out. outputs f bytes accepts z x w same out;
  as_told = λ m z. one_answer f z ∙ by_length f (given z) ∙ ap (λ (a : LengthAnswer). answer_with a (length (given z))) (sym (length_is f m));
}

-- ---- demand 3

module _ {f : List ℕ} (h : Rewritable f) where
  -- nothing is refused
  unrefused : rewrite_refusal f ≡ 0
  unfolding record_of
  unrefused = rw (h.accepted, h.runs)

  -- so the length is the new file's
  length_told : (m : LengthCall f) → length_of m.call.result ≡ LengthAnswer.bytes (length (rewritten f))
  unfolding length_answer record_of
  length_told m = length_is f m ∙ rw (unrefused)

  module _ (z : SizedCall f) where
    -- the output has room for it
    long : length (rewritten f) ≤ length (given z.one_go)
    long = rw (ap length_in (sym z.answered ∙ length_told z.length_call)) at z.room

    -- so all is written
    answer : write_answer_of z.one_go.call.result ≡ written (length (rewritten f))
    unfolding rewrite_answer record_of
    answer = one_answer f z.one_go ∙ rw (unrefused, le-leb _ (length (given z.one_go)) long)

    -- the new file at the front, and beyond it what the output held
    output : left z.one_go ≡ rewritten f ++ drop (length (rewritten f)) (given z.one_go)
    unfolding record_of
    output =
        one_output f z.one_go
        ∙ ap (λ (a : WriteAnswer). output_by a (encode (clip_of f)) (given z.one_go)) (sym (one_answer f z.one_go) ∙ answer)

    -- so the bytes that the call says it wrote are the new file
    new : new_bytes z.one_go ≡ rewritten f
    new = front (rewritten f) (drop (length (rewritten f)) (given z.one_go)) (ap bytes_in answer) output

-- demand 3 for rewriting in one go
pub one_go_keeps : (f : List ℕ) → Rewritable f → OneGoKeeps f
one_go_keeps f h = record {
  length_told = length_told h;
  answer = answer h;
  output = output h;
  new = new h;
  reads_again = λ z. new_read h (new h z);
  tables_again = λ z. tables_again h (new h z);
  asked = λ x z. new_asked h (new h z) x;
  equal_bytes = λ f₂ h₂ z z₂ e. (rewriting_keeps f h).equal_bytes f₂ h₂ (sym (new h z) ∙ e ∙ new h₂ z₂);
  equal_records = λ f₂ h₂ z z₂ e. new h z ∙ (rewriting_keeps f h).equal_records f₂ h₂ e ∙ sym (new h₂ z₂);
  again = λ z. rewritable_again h (new h z);
  same_length = λ z m.
      length_told (rewritable_again h (new h z)) m
      ∙ ap (λ (b : List ℕ). LengthAnswer.bytes (length b)) (stable h (new h z) ∙ new h z)
      ∙ sym (length_told h z.length_call);
  answer_again = λ z v.
      answer (rewritable_again h (new h z)) v
      ∙ ap (λ (b : List ℕ). written (length b)) (stable h (new h z) ∙ new h z)
      ∙ sym (answer h z);
  unchanged = λ z v. new (rewritable_again h (new h z)) v ∙ stable h (new h z);
}
