-- What an answer tells that a test chose, and a test of a list in two parts.
use Rattle.std.proofs.Common.{Option, Some, None}
use Prim.Native.Nat.{ℕ, zero, suc}
use mathlib.Core.Path.{◌≡◌, refl, sym, ◌∙◌}
use mathlib.Core.List.{List, [], ◌∷◌}
use mathlib.Core.Bool.{Bool, true, false}
use native.Mathlib.Omega.{arith}
use lib.ListN.{take, drop}
use Rattle.format.specs.Bytes.{both, every}
use Rattle.format.specs.ClipRecord.{Row}
use Rattle.format.specs.Refusals.{entry_fits}
use Rattle.format.specs.Rewriting.{runs}
use Rattle.format.proofs.Tests.{picked, not_picked}
use Rattle.entry_runs.specs.Fitting.{count_fit}

-- a test of every element: of the first m and of those behind them
pub every_parts : {A : Type 0} (test : A → Bool) (m : ℕ) (xs : List A) → both (every test (take m xs)) (every test (drop m xs)) ≡ every test xs
every_parts test zero xs = refl
every_parts test (suc m) [] = refl
every_parts test (suc m) (x ∷ xs) = go (test x) (every_parts test m xs)
  where
    go : (b : Bool) → both (every test (take m xs)) (every test (drop m xs)) ≡ every test xs
        → both (both b (every test (take m xs))) (every test (drop m xs)) ≡ both b (every test xs)
    go true i = i
    go false i = refl

module _ (type : ℕ) (es : List Row) {c : Option ℕ} (is : c ≡ count_fit type es) where
  -- a number is that of the runs, and each entry fits
  pub runs_told : {r : ℕ} → c ≡ Some r → (every (entry_fits type) es ≡ true) × (r ≡ runs es)
  unfolding count_fit
  runs_told told =
      let p = picked (every (entry_fits type) es) (λ e. let z : ◌≡◌ {A = ℕ} 0 1 = cc in omega arith) (sym is ∙ told) in
      (p.0, cc p.1)

  -- else one does not
  pub unfit_told : c ≡ None → every (entry_fits type) es ≡ false
  unfolding count_fit
  unfit_told told = (not_picked (every (entry_fits type) es) (λ e. let z : ◌≡◌ {A = ℕ} 0 1 = cc in omega arith) (sym is ∙ told)).0
