-- The numbers of the place that an extension's data has are the definition's.
use Prim.Native.Nat.{ℕ}
use mathlib.Core.Path.{◌≡◌, sym}
use mathlib.Core.List.{List, [], ◌∷◌}
use native.Mathlib.Omega.{arith}
use borrow.Author.Tests.{ne_eqb}
use Rattle.std.specs.Prelude.{Result, Ok, Err}
use Rattle.format.specs.Refusals.{data_numbers}
use Rattle.format.specs.Tables.{Table}
use Rattle.refusals.specs.declared.Refusal.{Refusal}
use Rattle.refusals.specs.Numbers.{number_of}
use Rattle.refusals.proofs.Laws.{number_positive}
use Rattle.extension_entry.specs.Part.{part_of}
use Rattle.extension_entry.specs.declared.Part.{Part}
use Rattle.extension_entry.proofs.Laws.{given, not_given}
use Rattle.clpi_answers.specs.Numbers.{place_numbers}

module _ (f : List ℕ) (t : Table) (k : ℕ) where
  -- a place has its numbers
  placed : {part : Part} → Ok part ≡ part_of f t k → 0 ∷ part.start ∷ part.len ∷ [] ≡ data_numbers f t k
  unfolding part_of
  placed e =
      let none = sym (given f t k e).0 in
      let at = rw none at e in
      rw none (cc)

  -- a refusal has zeros beside it
  not_placed : {refusal : Refusal} → Err refusal ≡ part_of f t k → number_of refusal ∷ 0 ∷ 0 ∷ [] ≡ data_numbers f t k
  not_placed {refusal} e =
      let positive = number_positive refusal in
      rw (sym (not_given f t k e).0, ne_eqb (number_of refusal) 0 (λ z. omega arith))

  -- so the numbers of either are the definition's
  pub place_numbers_lem : (p : Result Part Refusal) → p ≡ part_of f t k → place_numbers p ≡ data_numbers f t k
  place_numbers_lem (Ok part) e = placed e
  place_numbers_lem (Err refusal) e = not_placed e
