-- They do where the header rows are told.
use mathlib.Core.Path.{◌∙◌}
use Rattle.table_rows.proofs.AllRows.{is_told}
use Rattle.table_rows.proofs.own.adds_up.Goals as goal

pub returns : goal.returns
returns c = c.is_ok.ensures.value ∙ is_told _ _ _ c.counted.ensures
