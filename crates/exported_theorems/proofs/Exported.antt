-- Demand 3 for the calls that C makes, proved: the numbers of their answers, and what the definitions keep.
use Prim.Native.Nat.{ℕ, ◌≤◌}
use mathlib.Core.Path.{◌≡◌, sym, ap, subst, ◌∙◌}
use mathlib.Core.List.{List, ◌++◌}
use native.Mathlib.Omega.{arith}
use lib.ListN.{length, get_or, take, drop}
use borrow.Author.Tests.{le-leb}
use Rattle.format.specs.Reading.{clip_of, record_of}
use Rattle.format.specs.Rewriting.{encode}
use Rattle.format.specs.Tables.{Nine, stated, ClipTables, HoldsClip, Room}
use Rattle.format.specs.Refusals.{ReadAnswer, stated_of, accepted, read_answer, read_numbers, tables_of, tables_after, WriteAnswer, written, write_answer, write_numbers, output_by, output_after}
use Rattle.queries.specs.Asked.{tables_with}
use Rattle.clpi_reading.specs.Numbers.{reading_numbers}
use Rattle.clpi_writing.specs.Numbers.{writing_numbers}
use Rattle.clpi_writing.specs.declared.ClpiWriting.{ClpiWriting}
use Rattle.rewrite.specs.Rewrite.{rewrite_refusal, rewrite_answer, LengthAnswer, length_answer, length_numbers}
use Rattle.theorems.specs.Rewriting.{Rewritable, rewritten, hand_over, handed_over, Succeeds}
use Rattle.theorems.proofs.Rewriting.{rewriting_keeps}
use Rattle.theorems.proofs.Unchanged.{output_left_lem, unchanged}
use Rattle.rewriting_theorems.proofs.NewFile.{room_again}
use Rattle.rewriting_theorems.proofs.Rewriting.{front}
use Rattle.exported_theorems.specs.Exported.{tables_at_entry, tables_at_exit, ClpiRead, read_by, handed_to, output_at_entry, output_at_exit, ClpiWrite, ClpiRewrite, ClpiRewrittenLength, NewFile, by_tables, in_one_go, bytes_of_new, HasRead, HasWritten, ExportedKeep, RefusalsLeave}
use Rattle.exported_theorems.proofs.Asked.{asked_alike}

-- ---- reading

-- what is handed on by the numbers of an answer: the scalars are numbers 3 to 10, the row counts of tables 1 to 6 numbers 12 to 17
abbrev handed_by : List ℕ → Nine (List ℕ) → ClipTables
handed_by ns t =
    tables_with
    (record {
      letters = get_or ns 3 0;
      version = get_or ns 4 0;
      stream_type = get_or ns 5 0;
      application_type = get_or ns 6 0;
      rate = get_or ns 7 0;
      packets = get_or ns 8 0;
      validity_flags = get_or ns 9 0;
      format_id = get_or ns 10 0;
    })
    (stated t.atcs (get_or ns 12 0))
    (stated t.stcs (get_or ns 13 0))
    (stated t.programs (get_or ns 14 0))
    (stated t.streams (get_or ns 15 0))
    (stated t.maps (get_or ns 16 0))
    (stated t.entries (get_or ns 17 0))

module _ {f : List ℕ} (h : Rewritable f) (x : ClpiRead f) where
  -- the definitions' part, for an output of any sufficient length
  succeeds : (out : List ℕ) → length (rewritten f) ≤ length out → Succeeds f (tables_at_entry x.call) out
  succeeds out long = (rewriting_keeps f h).succeeds (tables_at_entry x.call) out x.room long

  -- the answer's numbers are those of an acceptance
  numbers : reading_numbers x.call.result ≡ read_numbers (accepted (stated_of f))
  numbers =
      x.call.allowed.0
      ∙ ap (λ (b : List ℕ). read_numbers (read_answer b (tables_at_entry x.call))) x.file
      ∙ ap (λ (a : ReadAnswer). read_numbers a) (succeeds (rewritten f) (omega arith)).reads

  -- the tables, as the definition leaves them
  left : tables_at_exit x.call ≡ tables_after f (tables_at_entry x.call)
  left = x.call.allowed.1 ∙ ap (λ (b : List ℕ). tables_after b (tables_at_entry x.call)) x.file

  -- so what is given is what the definition hands over
  handed : read_by x ≡ handed_over f (tables_at_entry x.call)
  unfolding handed_over
  handed = ap (λ (ns : List ℕ). handed_by ns (tables_at_exit x.call)) numbers ∙ ap (hand_over (stated_of f)) left

  -- a call of `clpi_read`
  reads : HasRead f x
  reads = record {
    not_refused = ap (λ (ns : List ℕ). get_or ns 0 0) numbers;
    holds = subst (λ (l : ClipTables). HoldsClip l (record_of f).clip) (sym handed) (succeeds (rewritten f) (omega arith)).holds;
  }

-- ---- writing

-- an answer with the numbers of a file that was written
writes_by : (f : List ℕ) (r : ClpiWriting) (given after : List ℕ) → writing_numbers r ≡ write_numbers (written (length (rewritten f)))
    → after ≡ rewritten f ++ drop (length (rewritten f)) given → HasWritten f r given after
writes_by f r given after e output = record {
  not_refused = ap (λ (ns : List ℕ). get_or ns 0 0) e;
  written = ap (λ (ns : List ℕ). get_or ns 2 0) e;
  output = output;
}

-- the new file at the front of an output
new_front : (f : List ℕ) (r : ClpiWriting) (given after : List ℕ) → HasWritten f r given after → take r.bytes_written after ≡ rewritten f
new_front f r given after w = front (rewritten f) (drop (length (rewritten f)) given) w.written w.output

-- a call of `clpi_write`
writes : {f : List ℕ} → Rewritable f → (x : ClpiRead f) (w : ClpiWrite x) → HasWritten f w.call.result (output_at_entry w.call) (output_at_exit w.call)
writes {f = f} h x w =
    let out = output_at_entry w.call in
    let s = succeeds h x out w.room in
    let given : handed_to w.call ≡ handed_over f (tables_at_entry x.call) = w.given ∙ handed h x in
    writes_by f w.call.result out (output_at_exit w.call)
    (w.call.allowed.0
    ∙ ap (λ (l : ClipTables). write_numbers (write_answer l out)) given
    ∙ ap (λ (a : WriteAnswer). write_numbers a) s.writes)
    (w.call.allowed.1 ∙ ap (λ (l : ClipTables). output_after l out) given ∙ s.output)

-- ---- rewriting in one go

module _ {f : List ℕ} (h : Rewritable f) where
  -- nothing is refused
  unrefused : rewrite_refusal f ≡ 0
  unfolding record_of
  unrefused = rw (h.accepted, h.runs)

  -- so the length is the new file's
  length_is : length_answer f ≡ LengthAnswer.bytes (length (rewritten f))
  unfolding length_answer record_of
  length_is = rw unrefused

  -- a call of `clpi_rewritten_length`
  length_told : (m : ClpiRewrittenLength f) → (m.call.result.refusal ≡ 0) × (m.call.result.bytes ≡ length (rewritten f))
  length_told m =
      let e =
      m.call.allowed
      ∙ ap (λ (b : List ℕ). length_numbers (length_answer b)) m.file
      ∙ ap (λ (a : LengthAnswer). length_numbers a) length_is in
      (ap (λ (ns : List ℕ). get_or ns 0 0) e, ap (λ (ns : List ℕ). get_or ns 1 0) e)

  -- and an output with room is written
  answer_is : (out : List ℕ) → length (rewritten f) ≤ length out → rewrite_answer f out ≡ written (length (rewritten f))
  unfolding rewrite_answer record_of
  answer_is out long = rw (unrefused, le-leb _ (length out) long)

  -- a call of `clpi_rewrite`
  rewrites : (z : ClpiRewrite f) → HasWritten f z.call.result z.call.arguments.1.0.now z.call.exit.1.0.now
  unfolding record_of
  rewrites z =
      let out = z.call.arguments.1.0.now in
      let a = answer_is out z.room in
      writes_by f z.call.result out z.call.exit.1.0.now
      (z.call.allowed.0 ∙ ap (λ (b : List ℕ). write_numbers (rewrite_answer b out)) z.file ∙ ap (λ (w : WriteAnswer). write_numbers w) a)
      (z.call.allowed.1
      ∙ ap (λ (b : List ℕ). output_by (rewrite_answer b out) (encode (clip_of b)) out) z.file
      ∙ ap (λ (w : WriteAnswer). output_by w (encode (clip_of f)) out) a)

-- ---- the new file

-- either way it is the definition's
is_new : {f : List ℕ} → Rewritable f → (n : NewFile f) → bytes_of_new n ≡ rewritten f
is_new {f = f} h (by_tables x w) = new_front f w.call.result (output_at_entry w.call) (output_at_exit w.call) (writes h x w)
is_new {f = f} h (in_one_go z) = new_front f z.call.result z.call.arguments.1.0.now z.call.exit.1.0.now (rewrites h z)

module _ {f : List ℕ} (h : Rewritable f) (n : NewFile f) where
  -- it is such a file too
  again : Rewritable (bytes_of_new n)
  again = subst Rewritable (sym (is_new h n)) (rewriting_keeps f h).again

  -- it reads to its own record
  holds_new : (y : ClpiRead (bytes_of_new n)) → HoldsClip (read_by y) (record_of (rewritten f)).clip
  holds_new y = subst (λ (b : List ℕ). HoldsClip (read_by y) (record_of b).clip) (is_new h n) (reads again y).holds

  -- which is the old one
  reads_again : (y : ClpiRead (bytes_of_new n)) → HasRead f y
  reads_again y = record { not_refused = (reads again y).not_refused; holds = rw (rewriting_keeps f h).same at (holds_new y) }

  -- rewriting it changes nothing
  unchanged_bytes : (m : NewFile (bytes_of_new n)) → bytes_of_new m ≡ bytes_of_new n
  unchanged_bytes m = is_new again m ∙ ap rewritten (is_new h n) ∙ (rewriting_keeps f h).stable ∙ sym (is_new h n)

-- demand 3 for the calls that C makes
pub exported_keep : (f : List ℕ) → Rewritable f → ExportedKeep f
exported_keep f h = record {
  reads = reads h;
  writes = writes h;
  rewrites = rewrites h;
  length_told = length_told h;
  reads_again = reads_again h;
  tables_again = λ n tables room. subst (λ (b : List ℕ). Room (tables_of b) tables) (sym (is_new h n)) (room_again f h tables room);
  asked = λ x n y. asked_alike f h (reads h x).holds (holds_new h n y);
  equal_bytes = λ f₂ h₂ n n₂ e. (rewriting_keeps f h).equal_bytes f₂ h₂ (sym (is_new h n) ∙ e ∙ is_new h₂ n₂);
  equal_records = λ f₂ h₂ n n₂ e. is_new h n ∙ (rewriting_keeps f h).equal_records f₂ h₂ e ∙ sym (is_new h₂ n₂);
  again = again h;
  unchanged = unchanged_bytes h;
}

-- ---- refusals

-- an acceptance has 0 for a refusal, and so has a file that was written
pub refusals_leave : RefusalsLeave
refusals_leave = record {
  clpi_read = λ x refused.
      x.allowed.1
      ∙ unchanged.tables x.arguments.0.now (tables_at_entry x)
      (λ s e. refused (ap (λ (ns : List ℕ). get_or ns 0 0) (x.allowed.0 ∙ ap (λ (a : ReadAnswer). read_numbers a) e)));
  clpi_write = λ w refused.
      w.allowed.1
      ∙ unchanged.output (handed_to w) (output_at_entry w)
      (λ n e. refused (ap (λ (ns : List ℕ). get_or ns 0 0) (w.allowed.0 ∙ ap (λ (a : WriteAnswer). write_numbers a) e)));
  clpi_rewrite = λ z refused.
      let file = z.arguments.0.now in
      let out = z.arguments.1.0.now in
      z.allowed.1
      ∙ output_left_lem (rewrite_answer file out)
      (λ n e. refused (ap (λ (ns : List ℕ). get_or ns 0 0) (z.allowed.0 ∙ ap (λ (a : WriteAnswer). write_numbers a) e)))
      (encode (clip_of file)) out;
}
