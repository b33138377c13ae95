-- What a refusal leaves, by the cases of an answer.
use Prim.Native.Nat.{ℕ}
use mathlib.Core.Path.{◌≡◌, refl}
use mathlib.Core.List.{List}
use Rattle.format.specs.Tables.{Nine, clip_in}
use Rattle.format.specs.Rewriting.{encode}
use Rattle.format.specs.Refusals.{Stated, ReadAnswer, refused, too_short, accepted, read_answer, table_by, tables_after, WriteAnswer, written, write_answer, output_by, output_after, tables_of}
use Rattle.format.specs.ClipRecord.{Row}
use Rattle.theorems.specs.Unchanged.{Unchanged}

-- a table
table_left : (a : ReadAnswer) → ((s : Stated) → a ≡ accepted s → ⊥) → (rows : List Row) (t : List ℕ) → table_by a rows t ≡ t
table_left (refused n) other rows t = refl
table_left (too_short k n) other rows t = refl
table_left (accepted s) other rows t = absurd (other s refl)

-- all nine
tables_left_lem : (f : List ℕ) (tables : Nine (List ℕ)) → ((s : Stated) → read_answer f tables ≡ accepted s → ⊥) → tables_after f tables ≡ tables
unfolding tables_after
tables_left_lem f tables other =
    let same = table_left (read_answer f tables) other in
    let rows = tables_of f in
    rw (
      same rows.atcs tables.atcs,
      same rows.stcs tables.stcs,
      same rows.programs tables.programs,
      same rows.streams tables.streams,
      same rows.maps tables.maps,
      same rows.entries tables.entries,
      same rows.extensions tables.extensions,
      same rows.list_programs tables.list_programs,
      same rows.list_streams tables.list_streams,
    )

-- the output
pub output_left_lem : (a : WriteAnswer) → ((n : ℕ) → a ≡ written n → ⊥) → (new out : List ℕ) → output_by a new out ≡ out
output_left_lem (WriteAnswer.refused n) other new out = refl
output_left_lem (WriteAnswer.too_short n) other new out = refl
output_left_lem (WriteAnswer.written n) other new out = absurd (other n refl)

-- the statements together
pub unchanged : Unchanged
unfolding output_after
unchanged = record { tables = tables_left_lem; output = λ l out other. output_left_lem (write_answer l out) other (encode (clip_in l)) out }
