-- Demand 3 for the calls, proved: by what their contracts claim, and by what the definitions keep.
use Prim.Native.Nat.{ℕ, ◌≤◌}
use mathlib.Core.Path.{◌≡◌, sym, ap, subst, ◌∙◌}
use mathlib.Core.List.{List, ◌++◌}
use native.Mathlib.Omega.{arith}
use lib.ListN.{length, take, drop}
use lib.Seq.{take-append_seam}
use Rattle.format.specs.Reading.{record_of}
use Rattle.format.specs.Tables.{Nine, ClipTables, HoldsClip, Room}
use Rattle.format.specs.Refusals.{ReadAnswer, refused, too_short, accepted, Stated, stated_of, tables_of, read_answer, tables_after, write_answer, output_after}
use Rattle.format.proofs.Counts.{tables_few}
use Rattle.encode.specs.Writing.{bytes_in}
use Rattle.theorems.specs.Rewriting.{Rewritable, rewritten, hand_over, handed_over, Succeeds}
use Rattle.theorems.proofs.Rewriting.{rewriting_keeps}
use Rattle.query_theorems.proofs.Alike.{calls_alike}
use Rattle.rewriting_theorems.specs.Rewriting.{tables_given, tables_left, given_to, output_given, new_file, ReadCall, WriteCall, kept, Reads, Writes, ReadsAgain, WritesAgain, CallsKeep}
use Rattle.rewriting_theorems.specs.Asked.{AskedAlike}
use Rattle.rewriting_theorems.proofs.Promises.{read_answer_lem, tables_left_lem, write_answer_lem, output_left_lem}
use Rattle.rewriting_theorems.proofs.Asked.{asked_alike}
use Rattle.rewriting_theorems.proofs.NewFile.{stated_again, room_again}

-- an acceptance tells what it states
abbrev stated_in : Stated → ReadAnswer → Stated
stated_in s (refused n) = s
stated_in s (too_short k n) = s
stated_in s (accepted t) = t

-- the front of an output, as long as what was put there
pub front : (new beyond : List ℕ) {n : ℕ} {out : List ℕ} → n ≡ length new → out ≡ new ++ beyond → take n out ≡ new
front new beyond long is = rw (long, is) (take-append_seam new beyond)

module _ {f : List ℕ} (h : Rewritable f) (x : ReadCall f) where
  -- the definitions' part, for an output of any sufficient length
  succeeds : (out : List ℕ) → length (rewritten f) ≤ length out → Succeeds f (tables_given x.call) out
  succeeds out long = (rewriting_keeps f h).succeeds (tables_given x.call) out x.room long

  -- the tables, as the definition leaves them
  left : tables_left x.call ≡ tables_after f (tables_given x.call)
  left = tables_left_lem x.call ∙ ap (λ (b : List ℕ). tables_after b (tables_given x.call)) x.file

  -- a call of `read`
  reads : Reads x
  unfolding handed_over
  reads =
      let s = succeeds (rewritten f) (omega arith) in
      record {
        answer = read_answer_lem x.call ∙ ap (λ (b : List ℕ). read_answer b (tables_given x.call)) x.file ∙ s.reads;
        tables = left;
        holds = subst (λ (t : Nine (List ℕ)). HoldsClip (hand_over (stated_of f) t) (record_of f).clip) (sym left) s.holds;
      }

  module _ (w : WriteCall x) where
    -- what `write` is given is what the definition hands over
    given : given_to w.call ≡ handed_over f (tables_given x.call)
    unfolding handed_over
    given =
        let told : w.told ≡ stated_of f = ap (stated_in (stated_of f)) (sym w.answered ∙ reads.answer) in
        w.given ∙ ap (λ (s : Stated). hand_over s (tables_left x.call)) told ∙ ap (hand_over (stated_of f)) left

    -- a call of `write`
    writes : Writes w
    writes =
        let s = succeeds (output_given w.call) w.room in
        let answer = write_answer_lem w.call ∙ ap (λ (l : ClipTables). write_answer l (output_given w.call)) given ∙ s.writes in
        let output = output_left_lem w.call ∙ ap (λ (l : ClipTables). output_after l (output_given w.call)) given ∙ s.output in
        record { answer = answer; output = output; new = front (rewritten f) (drop (length (rewritten f)) (output_given w.call)) (ap bytes_in answer) output }

-- ---- the new file, whichever call wrote it

module _ {f : List ℕ} (h : Rewritable f) {new : List ℕ} (is_new : new ≡ rewritten f) where
  -- it is such a file too
  pub rewritable_again : Rewritable new
  rewritable_again = rw is_new (rewriting_keeps f h).again

  -- which rewriting does not change
  pub stable : rewritten new ≡ new
  stable = rw is_new (rewriting_keeps f h).stable

  -- nor do its rows need more room
  pub tables_again : (tables : Nine (List ℕ)) → Room (tables_of f) tables → Room (tables_of new) tables
  tables_again tables room = rw is_new (room_again f h tables room)

  -- it is read
  pub new_read : (y : ReadCall new) → ReadsAgain f y
  new_read y =
      let r = reads rewritable_again y in
      let told : stated_of new ≡ kept (stated_of f) = ap stated_of is_new ∙ stated_again f h in
      let same = (rewriting_keeps f h).same in
      let holds = rw (told, is_new) at r.holds in
      record { answer = r.answer ∙ ap accepted told; same = rw same at holds; holds = holds }

  -- and every question answers alike
  pub new_asked : (x : ReadCall f) (y : ReadCall new) → AskedAlike (hand_over (stated_of f) (tables_left x.call)) (hand_over (kept (stated_of f)) (tables_left y.call))
  new_asked x y = asked_alike (calls_alike f h) (reads h x).holds (new_read y).holds

module _ {f : List ℕ} (h : Rewritable f) {x : ReadCall f} (w : WriteCall x) where
  -- what `write` gives is the definition's
  is_new : new_file w.call ≡ rewritten f
  is_new = (writes h x w).new

  -- written again
  writes_again : (y : ReadCall (new_file w.call)) (v : WriteCall y) → WritesAgain w y v
  writes_again y v =
      let r = writes (rewritable_again h is_new) y v in
      record {
        answer = r.answer ∙ rw (stable h is_new) (rw is_new (sym (writes h x w).answer));
        output = rw (stable h is_new) at r.output;
        new = r.new ∙ stable h is_new;
      }

-- demand 3 for the calls
pub calls_keep : (f : List ℕ) → Rewritable f → CallsKeep f
calls_keep f h = record {
  reads = reads h;
  writes = writes h;
  counts = tables_few f h.bytes;
  reads_again = λ x w. new_read h (is_new h w);
  tables_again = λ x w. tables_again h (is_new h w);
  output_again = λ x w out long. rw (stable h (is_new h w), is_new h w) long;
  alike = calls_alike f h;
  asked = λ x w. new_asked h (is_new h w) x;
  equal_bytes = λ f₂ h₂ x w x₂ w₂ e. (rewriting_keeps f h).equal_bytes f₂ h₂ (sym (is_new h w) ∙ e ∙ is_new h₂ w₂);
  equal_records = λ f₂ h₂ x w x₂ w₂ e. is_new h w ∙ (rewriting_keeps f h).equal_records f₂ h₂ e ∙ sym (is_new h₂ w₂);
  again = λ x w. rewritable_again h (is_new h w);
  writes_again = λ x w. writes_again h w;
}
