-- The extension with two ids, as a search for a row.
use Prim.Native.Nat.{ℕ, suc}
use mathlib.Core.Path.{◌≡◌, refl, ap}
use mathlib.Core.List.{List, [], ◌∷◌}
use mathlib.Core.Bool.{Bool}
use lib.Dec.{eqb}
use Rattle.format.specs.Bytes.{both, pick}
use Rattle.format.specs.ClipRecord.{Row}
use Rattle.format.specs.Questions.{number, unless22}
use Rattle.format.specs.Tables.{Table, is_stated, rows_of, extension_cells}
use Rattle.table_rows.specs.OwnRows.{cell_in}
use Rattle.row_search.specs.FirstRow.{first_passing, ask_row}
use Rattle.extension_queries.specs.ById.{entry_by_id, ask_entry}

module _ (id1 id2 : ℕ) where
  -- whether a row has both ids
  abbrev pub has_ids : Row → Bool
  has_ids r = both (eqb (cell_in 0 r) id1) (eqb (cell_in 1 r) id2)

  -- the first row that has them
  by_ids : (k : ℕ) (rows : List Row) → first_passing has_ids k rows ≡ entry_by_id rows id1 id2 k
  unfolding entry_by_id
  by_ids k [] = refl
  by_ids k (r ∷ rows) = ap (pick (has_ids r) (number k)) (by_ids (suc k) rows)

  -- is what the question asks for
  pub entry_asked : (t : Table) → ask_row extension_cells 0 has_ids t ≡ ask_entry t id1 id2
  unfolding ask_row ask_entry
  entry_asked t = ap (unless22 (is_stated extension_cells t)) (by_ids 0 (rows_of extension_cells t))
