-- What a call promises and what its definition says of the tables make two calls answer alike: once for each kind of arguments.
use Prim.Native.Nat.{ℕ}
use mathlib.Core.Path.{◌≡◌, sym, ap, ◌∙◌}
use mathlib.Core.List.{List}
use Rattle.format.specs.ClipRecord.{Row}
use Rattle.format.specs.Tables.{Table, HoldsRows}
use Rattle.query_theorems.specs.Calls.{Call, WithTable, table_of, behind, FromTable, FromTables, FromNumber, FromNumbers}
use Rattle.query_theorems.proofs.Readings.{Reading, same_result}

-- two results that are read as equal answers
pub told : {A B : Type 0} {read : A → B} → Reading read → {x y : A} {a b : B} → read x ≡ a → a ≡ b → read y ≡ b → x ≡ y
told r {x} {y} p e q = same_result r x y (p ∙ e ∙ sym q)

module _ {L Others R B : Type 0} {E : L → Type 0} {read : R → B} (r : Reading read) where
  -- one table
  pub from_table : {Post : (κs : L) → WithTable Others → R → E κs → Type 0} {old new : List Row} {answer : Others → Table → B}
      → ((o : Others) (s t : Table) → HoldsRows s old → HoldsRows t new → answer o s ≡ answer o t)
      → ((x : Call Post) → read x.result ≡ answer (behind x.arguments) (table_of x.arguments))
      → FromTable Post old new
  from_table {answer = answer} alike promise x y hx hy others =
      told r (promise x)
      (ap (λ (o : Others). answer o (table_of x.arguments)) others ∙ alike (behind y.arguments) _ _ hx hy)
      (promise y)

  -- two tables
  pub from_tables : {Post : (κs : L) → WithTable (WithTable Others) → R → E κs → Type 0} {old₁ new₁ old₂ new₂ : List Row} {answer : Others → Table → Table → B}
      → ((o : Others) (s₁ t₁ s₂ t₂ : Table) → HoldsRows s₁ old₁ → HoldsRows t₁ new₁ → HoldsRows s₂ old₂ → HoldsRows t₂ new₂ → answer o s₁ s₂ ≡ answer o t₁ t₂)
      → ((x : Call Post) → read x.result ≡ answer (behind (behind x.arguments)) (table_of x.arguments) (table_of (behind x.arguments)))
      → FromTables Post old₁ new₁ old₂ new₂
  from_tables {answer = answer} alike promise x y hx₁ hy₁ hx₂ hy₂ others =
      told r (promise x)
      (ap (λ (o : Others). answer o (table_of x.arguments) (table_of (behind x.arguments))) others
      ∙ alike (behind (behind y.arguments)) _ _ _ _ hx₁ hy₁ hx₂ hy₂)
      (promise y)

  -- one number, the same in both records
  pub from_number : {Post : (κs : L) → ℕ × Others → R → E κs → Type 0} {old new : ℕ} (answer : Others → ℕ → B) → old ≡ new
      → ((x : Call Post) → read x.result ≡ answer x.arguments.1 x.arguments.0) → FromNumber Post old new
  from_number answer same promise x y hx hy others =
      told r (promise x)
      (ap (λ (o : Others). answer o x.arguments.0) others ∙ ap (answer y.arguments.1) (hx ∙ same ∙ sym hy))
      (promise y)

  -- two numbers
  pub from_numbers : {Post : (κs : L) → ℕ × (ℕ × Others) → R → E κs → Type 0} {old₁ new₁ old₂ new₂ : ℕ} (answer : Others → ℕ → ℕ → B)
      → old₁ ≡ new₁ → old₂ ≡ new₂
      → ((x : Call Post) → read x.result ≡ answer x.arguments.1.1 x.arguments.0 x.arguments.1.0) → FromNumbers Post old₁ new₁ old₂ new₂
  from_numbers answer same₁ same₂ promise x y hx₁ hy₁ hx₂ hy₂ others =
      told r (promise x)
      (ap (λ (o : Others). answer o x.arguments.0 x.arguments.1.0) others
      ∙ ap (λ (n : ℕ). answer y.arguments.1.1 n x.arguments.1.0) (hx₁ ∙ same₁ ∙ sym hy₁)
      ∙ ap (answer y.arguments.1.1 y.arguments.0) (hx₂ ∙ same₂ ∙ sym hy₂))
      (promise y)
