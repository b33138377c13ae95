-- 21 and 23: over the tables one after the other, and by the tests of writing.
use Prim.Native.Nat.{ℕ, suc, ◌+◌, ◌≤◌, ◌<◌}
use mathlib.Core.Path.{◌≡◌, refl, ap, ◌∙◌}
use mathlib.Core.List.{List, [], ◌∷◌, ◌++◌}
use mathlib.Core.Bool.{true}
use native.Mathlib.Omega.{arith}
use lib.ListN.{length}
use lib.Dec.{leb}
use borrow.Author.Tests.{le-leb, lt-leb, ne_eqb}
use Rattle.format.specs.Bytes.{pick}
use Rattle.format.specs.Questions.{part_stated}
use Rattle.format.specs.Rewriting.{encode}
use Rattle.format.specs.Tables.{Nine, ClipTables, clip_in}
use Rattle.format.specs.Refusals.{refusal_of, stated_of, ReadAnswer, tables_answer, read_answer, WriteAnswer, write_refusal, write_answer, all_stated}
use Rattle.format.proofs.Lists.{All, none, more, all_map, all_every}
use Rattle.theorems.specs.RowsStated.{TooMany, all_six}
use Rattle.theorems.specs.TooShort.{Needs, all_needs, Suffices, TooShort}
use Rattle.theorems.proofs.RowsStated.{passes, six_stated}

-- ---- reading

-- the tests of the tables from table k on
abbrev from : ℕ → List Needs → ReadAnswer → ReadAnswer
from k [] a = a
from k (n ∷ ns) a = pick (leb n.needed n.room) (from (suc k) ns a) (ReadAnswer.too_short k n.needed)

-- those of all nine
all_nine : (f : List ℕ) (t : Nine (List ℕ)) → tables_answer f t ≡ from 1 (all_needs f t) (ReadAnswer.accepted (stated_of f))
unfolding tables_answer
all_nine f t = refl

-- the first table that does not suffice
first_short : (k : ℕ) (before : List Needs) (n : Needs) (behind : List Needs) (a : ReadAnswer) → All Suffices before → n.room < n.needed
    → from k (before ++ (n ∷ behind)) a ≡ ReadAnswer.too_short (k + length before) n.needed
first_short k [] n behind a none short =
    let e : k + 0 ≡ k = omega arith in
    rw (lt-leb n.needed n.room short, e)
first_short k (b ∷ before) n behind a (more long rest) short =
    let e : k + suc (length before) ≡ suc k + length before = omega arith in
    rw (le-leb b.needed b.room long, e) (first_short (suc k) before n behind a rest short)

-- none
none_short : (k : ℕ) (ns : List Needs) (a : ReadAnswer) → All Suffices ns → from k ns a ≡ a
none_short k [] a none = refl
none_short k (n ∷ ns) a (more long rest) = rw (le-leb n.needed n.room long) (none_short (suc k) ns a rest)

-- 21
table_short : (f : List ℕ) (t : Nine (List ℕ)) (before : List Needs) (n : Needs) (behind : List Needs) → all_needs f t ≡ before ++ (n ∷ behind)
    → refusal_of f ≡ 0 → All Suffices before → n.room < n.needed → read_answer f t ≡ ReadAnswer.too_short (1 + length before) n.needed
unfolding read_answer
table_short f t before n behind is h enough short =
    let last = ReadAnswer.accepted (stated_of f) in
    rw h (all_nine f t ∙ ap (λ (ns : List Needs). from 1 ns last) is ∙ first_short 1 before n behind last enough short)

-- all suffice
no_table_short : (f : List ℕ) (t : Nine (List ℕ)) → refusal_of f ≡ 0 → All Suffices (all_needs f t) → read_answer f t ≡ ReadAnswer.accepted (stated_of f)
unfolding read_answer
no_table_short f t h enough = rw h (all_nine f t ∙ none_short 1 (all_needs f t) (ReadAnswer.accepted (stated_of f)) enough)

-- the file's refusal
refused_first : (f : List ℕ) (t : Nine (List ℕ)) → (refusal_of f ≡ 0 → ⊥) → read_answer f t ≡ ReadAnswer.refused (refusal_of f)
unfolding read_answer
refused_first f t h = rw (ne_eqb (refusal_of f) 0 h)

-- ---- writing

module _ (l : ClipTables) (out : List ℕ) (enough : All (λ p. TooMany l p → ⊥) all_six) where
  -- not too many rows are stated
  stated_all : all_stated l ≡ true
  stated_all = six_stated l ∙ all_every (part_stated l) (all_map (passes l) enough)

  -- the record's refusal
  record_refused : (write_refusal (clip_in l) ≡ 0 → ⊥) → write_answer l out ≡ WriteAnswer.refused (write_refusal (clip_in l))
  unfolding write_answer
  record_refused h = rw (stated_all, ne_eqb (write_refusal (clip_in l)) 0 h)

  -- 23
  output_short : write_refusal (clip_in l) ≡ 0 → length out < length (encode (clip_in l)) → write_answer l out ≡ WriteAnswer.too_short (length (encode (clip_in l)))
  unfolding write_answer
  output_short h short = rw (stated_all, h, lt-leb (length (encode (clip_in l))) (length out) short)

  -- an output that suffices
  output_enough : write_refusal (clip_in l) ≡ 0 → length (encode (clip_in l)) ≤ length out → write_answer l out ≡ WriteAnswer.written (length (encode (clip_in l)))
  unfolding write_answer
  output_enough h long = rw (stated_all, h, le-leb (length (encode (clip_in l))) (length out) long)

-- all of it
pub too_short_lem : TooShort
too_short_lem = record {
  file_first = refused_first;
  table = table_short;
  no_table = no_table_short;
  record_first = record_refused;
  output = output_short;
  no_output = output_enough;
}
