-- The tests that a question begins with: stated rows that are not there are refused, else the record in the tables answers.
use Prim.Native.Nat.{ℕ, ◌≤◌}
use mathlib.Core.Path.{◌≡◌, refl, sym, ap, ◌∙◌}
use mathlib.Core.List.{[], ◌∷◌}
use mathlib.Core.Bool.{Bool, true, false}
use borrow.Author.Tests.{leb-true}
use Rattle.std.specs.Result.{IsErrAnd}
use Rattle.std.proofs.Common.{Result, Err}
use Rattle.std.proofs.lemmas.Result.{err_from_is_err_and}
use Rattle.format.specs.Bytes.{every}
use Rattle.format.specs.Questions.{Question, Part, parts_of, part_stated, Answer, refused, number, unless22, answer, ask}
use Rattle.format.specs.Tables.{Table, ClipTables, clip_in, is_stated, row_room}
use Rattle.refusals.specs.declared.Refusal.{Refusal}

module _ (q : Question) (l : ClipTables) where
  -- a part that is not there in full
  pub not_there : every (part_stated l) (parts_of q) ≡ false → refused 22 ≡ ask q l
  unfolding ask
  not_there h = rw h

  -- all parts are
  pub there : every (part_stated l) (parts_of q) ≡ true → answer q (clip_in l) ≡ ask q l
  unfolding ask
  there h = rw h

-- a question that is lent one table
module _ (q : Question) (l : ClipTables) (p : Part) (one : parts_of q ≡ p ∷ []) where
  -- stated and not there
  pub unstated : part_stated l p ≡ false → refused 22 ≡ ask q l
  unstated h = not_there q l (rw (one, h))

  -- there, so the rows answer
  pub answered : part_stated l p ≡ true → answer q (clip_in l) ≡ ask q l
  answered h = there q l (rw (one, h))

-- there is room for rows that are there
pub room : (cells : ℕ) (t : Table) → is_stated cells t ≡ true → t.rows ≤ row_room cells t.bytes
room cells t h = leb-true t.rows (row_room cells t.bytes) h

-- what a `?` returns is the refusal that it met
pub passed_on : {A : Type 0} {e : Refusal} (r : Result A Refusal) → IsErrAnd r (λ y. y ≡ e) → r ≡ Err e
passed_on r told = let p = err_from_is_err_and r told in p.1 ∙ ap (λ y. Err y) p.2

-- a row that a test lets through is the row that was found
pub through_test : (b : Bool) (x : Answer) {k : ℕ} → number k ≡ unless22 b x → (b ≡ true) × (x ≡ number k)
through_test true x h = (refl, sym h)
through_test false x h = cc
