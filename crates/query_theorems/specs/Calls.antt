-- Calls as their contracts allow them, and what it is that any two calls of one function answer alike.
use Rattle.std.specs.Prelude.{ℕ, ◌≡◌, List}
use Rattle.std.specs.Borrow.{Bor}
use Rattle.format.specs.ClipRecord.{Row}
use Rattle.format.specs.Tables.{Table, HoldsRows, stated}
use Rattle.table_rows.specs.declared.Table.{Table as Lent}

-- a call of a function, of which `Post` is what its own `ensures` claims: any lifetimes, arguments, result and values at exit of which the claim holds
pub record Call {L : Type 0} {A R E : L → Type 0} (Post : (κs : L) → A κs → R κs → E κs → Type 0) : Type 0 where
  pub lifetimes : L
  pub arguments : A lifetimes
  pub result : R lifetimes
  pub exit : E lifetimes
  pub allowed : Post lifetimes arguments result exit

-- ---- a function whose arguments begin with tables

-- a table is one argument, a slice of bytes with the rows stated to be in it; other arguments stand behind it
abbrev pub WithTable : Type 0 → Type 0
WithTable Others = Lent × Others

-- the table
abbrev pub table_of : {Others : Type 0} → WithTable Others → Table
table_of a = stated a.0.bytes.now a.0.rows

-- the others
abbrev pub behind : {Others : Type 0} → WithTable Others → Others
behind a = a.1

-- a call on a table that holds the old rows and a call on one that holds the new, whatever stands beyond the rows and however long the
-- slices are: if the other arguments are equal, so are the results
abbrev pub FromTable : {L Others R : Type 0} {E : L → Type 0} (Post : (κs : L) → WithTable Others → R → E κs → Type 0) (old new : List Row) → Type 0
FromTable Post old new =
    (x y : Call Post) → HoldsRows (table_of x.arguments) old → HoldsRows (table_of y.arguments) new
    → behind x.arguments ≡ behind y.arguments → x.result ≡ y.result

-- the same with two tables
abbrev pub FromTables : {L Others R : Type 0} {E : L → Type 0} (Post : (κs : L) → WithTable (WithTable Others) → R → E κs → Type 0)
    (old₁ new₁ old₂ new₂ : List Row) → Type 0
FromTables Post old₁ new₁ old₂ new₂ =
    (x y : Call Post) → HoldsRows (table_of x.arguments) old₁ → HoldsRows (table_of y.arguments) new₁
    → HoldsRows (table_of (behind x.arguments)) old₂ → HoldsRows (table_of (behind y.arguments)) new₂
    → behind (behind x.arguments) ≡ behind (behind y.arguments) → x.result ≡ y.result

-- ---- a call of C, where a table is two arguments

-- a slice of bytes and the rows stated to be in it, with other arguments behind them
abbrev pub WithParts : Type 0 → Type 0
WithParts Others = Bor (List ℕ) × (ℕ × Others)

-- the table
abbrev pub table_of_parts : {Others : Type 0} → WithParts Others → Table
table_of_parts a = stated a.0.now a.1.0

-- the others
abbrev pub behind_parts : {Others : Type 0} → WithParts Others → Others
behind_parts a = a.1.1

-- ---- a function whose arguments begin with numbers of the record

-- one number
abbrev pub FromNumber : {L Others R : Type 0} {E : L → Type 0} (Post : (κs : L) → ℕ × Others → R → E κs → Type 0) (old new : ℕ) → Type 0
FromNumber Post old new =
    (x y : Call Post) → x.arguments.0 ≡ old → y.arguments.0 ≡ new → x.arguments.1 ≡ y.arguments.1 → x.result ≡ y.result

-- two numbers
abbrev pub FromNumbers : {L Others R : Type 0} {E : L → Type 0} (Post : (κs : L) → ℕ × (ℕ × Others) → R → E κs → Type 0) (old₁ new₁ old₂ new₂ : ℕ) → Type 0
FromNumbers Post old₁ new₁ old₂ new₂ =
    (x y : Call Post) → x.arguments.0 ≡ old₁ → y.arguments.0 ≡ new₁ → x.arguments.1.0 ≡ old₂ → y.arguments.1.0 ≡ new₂
    → x.arguments.1.1 ≡ y.arguments.1.1 → x.result ≡ y.result
