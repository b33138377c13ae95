-- The extension with two ids: a question about table 7, which rewriting does not keep.
use Rattle.std.specs.Prelude.{ℕ, suc, List, [], ◌∷◌, eqb, get_or}
use Rattle.format.specs.Bytes.{both, pick}
use Rattle.format.specs.ClipRecord.{Row}
use Rattle.format.specs.Questions.{Answer, none, number, unless22}
use Rattle.format.specs.Tables.{Table, is_stated, rows_of, extension_cells}

-- the first row with these ids, of rows of which the first is row k
unfoldable pub entry_by_id : List Row → ℕ → ℕ → ℕ → Answer
entry_by_id [] id1 id2 k = none
entry_by_id (r ∷ later) id1 id2 k = pick (both (eqb (get_or r 0 0) id1) (eqb (get_or r 1 0) id2)) (number k) (entry_by_id later id1 id2 (suc k))

-- 22 where more rows are stated than there are
unfoldable pub ask_entry : Table → ℕ → ℕ → Answer
ask_entry t id1 id2 = unless22 (is_stated extension_cells t) (entry_by_id (rows_of extension_cells t) id1 id2 0)
