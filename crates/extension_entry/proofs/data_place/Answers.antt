-- The tests decide, on the two cells of the row that say where its data stands.
use Rattle.extension_entry.proofs.Laws.{not_stated, no_row, outside, within}
use Rattle.table_rows.proofs.AllRows.{told, returned}
use Rattle.extension_entry.proofs.data_place.Goals as goal

pub returns-in_err-extensions : goal.returns-in_err-extensions
returns-in_err-extensions c = let r = returned _ _ c.from_residual.result c.from_residual.ensures.1 c.in_err-extensions.ensures in rw r.1 (not_stated _ _ _ r.0)

pub returns-then-row-extensions : goal.returns-then-row-extensions
returns-then-row-extensions c = no_row _ _ _ (told _ _ c.in_ok-extensions.ensures) c.if-row-extensions.true

pub returns-then-start-len : goal.returns-then-start-len
returns-then-start-len c = outside _ _ _ (told _ _ c.in_ok-extensions.ensures) c.if-row-extensions.false c.row.ensures c.if-start-len.true

pub returns : goal.returns
returns c = within _ _ _ (told _ _ c.in_ok-extensions.ensures) c.if-row-extensions.false c.row.ensures c.if-start-len.false
