-- Both results have the numbers of one answer, and a result is its numbers.
use Prim.Native.Nat.{ℕ}
use mathlib.Core.Path.{◌≡◌, sym, ap, ◌∙◌}
use mathlib.Core.List.{List}
use lib.ListN.{get_or}
use Rattle.format.specs.Questions.{Answer, answer_numbers}
use Rattle.clpi_answers.specs.declared.ClpiAnswer.{ClpiAnswer}
use Rattle.ep_entry_steps.proofs.Alike.{forms_alike}
use Rattle.query_theorems.specs.Calls.{table_of_parts, behind_parts}
use Rattle.entry_theorems.specs.Claims.{Tells}
use Rattle.entry_theorems.specs.Forms.{SameResults}

-- the result with these numbers
abbrev back : List ℕ → ClpiAnswer
back ns = record { refusal = get_or ns 0 0; found = get_or ns 1 0; value = get_or ns 2 0 }

-- equal answers are told by equal results
same_result : {a b : Answer} {x y : ClpiAnswer} → Tells x a → a ≡ b → Tells y b → x ≡ y
same_result hx e hy = ap back (hx ∙ ap (λ (z : Answer). answer_numbers z) e ∙ sym hy)

-- the answers of tables and records are equal by `forms_alike`, so the results are too
pub same_results : SameResults
same_results = record {
  entry_point_at_or_before = λ x es r h told. let b = behind_parts (behind_parts x.arguments) in same_result x.allowed ((forms_alike (table_of_parts x.arguments) (table_of_parts (behind_parts x.arguments)) b.0 es h).at_or_before_is b.1.0) told;
  entry_point_after = λ x es r h told. let b = behind_parts (behind_parts x.arguments) in same_result x.allowed ((forms_alike (table_of_parts x.arguments) (table_of_parts (behind_parts x.arguments)) b.0 es h).after_is b.1.0) told;
  seek_spn = λ x es r h told. let b = behind_parts (behind_parts x.arguments) in same_result x.allowed ((forms_alike (table_of_parts x.arguments) (table_of_parts (behind_parts x.arguments)) b.0 es h).seek_is b.1.0) told;
  next_seek_spn = λ x es r h told. let b = behind_parts (behind_parts x.arguments) in same_result x.allowed ((forms_alike (table_of_parts x.arguments) (table_of_parts (behind_parts x.arguments)) b.0 es h).next_seek_is b.1.0) told;
  indexed_span_90k = λ x es r h told. let b = behind_parts (behind_parts x.arguments) in same_result x.allowed (forms_alike (table_of_parts x.arguments) (table_of_parts (behind_parts x.arguments)) b.0 es h).span_is told;
}
