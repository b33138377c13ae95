-- What a refusal leaves: every lent table, and the output, as it was.
use Rattle.std.specs.Prelude.{ℕ, ◌≡◌, List}
use Rattle.format.specs.Tables.{Nine, ClipTables}
use Rattle.format.specs.Refusals.{Stated, accepted, read_answer, tables_after, written, write_answer, output_after}

-- reading that does not accept, whether it refuses the file or 21 a table, and writing that does not write
pub record Unchanged : Type 0 where
  pub tables : (f : List ℕ) (tables : Nine (List ℕ)) → ((s : Stated) → read_answer f tables ≡ accepted s → ⊥) → tables_after f tables ≡ tables
  pub output : (l : ClipTables) (out : List ℕ) → ((n : ℕ) → write_answer l out ≡ written n → ⊥) → output_after l out ≡ out
