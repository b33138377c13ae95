-- What the call for the data of a row answers.
use Rattle.std.specs.Prelude.{ℕ, ◌+◌, ◌≤◌, ◌≡◌, List, length, eqb, Result, Ok, Err}
use Rattle.format.specs.Bytes.{pick}
use Rattle.format.specs.Tables.{Table}
use Rattle.format.specs.Extensions.{data_start, data_length}
use Rattle.format.specs.Refusals.{extension_row, data_refusal}
use Rattle.refusals.specs.declared.Refusal.{Refusal}
use Rattle.extension_entry.specs.declared.Part.{Part}

-- where the data of row k stands, unless it is refused
unfoldable pub part_of : List ℕ → Table → ℕ → Result Part Refusal
part_of f t k = pick (eqb (data_refusal f t k) 0) (Ok (record { start = data_start (extension_row t k); len = data_length (extension_row t k) })) (Err Refusal.Rows)

-- where the data ends
abbrev pub part_end : Result Part Refusal → ℕ
part_end (Ok part) = part.start + part.len
part_end (Err refusal) = 0

-- the place, and that it lies inside the file
pub record PartIs (f : List ℕ) (t : Table) (k : ℕ) (r : Result Part Refusal) : Type 0 where
  pub same : r ≡ part_of f t k
  pub inside : part_end r ≤ length f
