-- Rows that are not there are refused; the search of those that are tells the first whose cell passes.
use Prim.Native.Nat.{◌+◌, ◌*◌}
use mathlib.Core.Path.{sym, refl, ap, ◌∙◌}
use Rattle.std.proofs.Common.{rules}
use Rattle.format.specs.Tables.{rows_of, cell_at, stated}
use Rattle.format.proofs.Tables.{rows_stated}
use Rattle.table_rows.specs.OwnRows.{cell_in}
use Rattle.row_search.proofs.FirstRow.{not_stated, asked_row, cell_told}
use Rattle.row_search.proofs.first_row_by_cell.Goals as goal

pub returns-then-not-is_stated : goal.returns-then-not-is_stated
returns-then-not-is_stated g c = λ test is. not_stated _ _ _ _ (sym c.is_stated.ensures ∙ c.if-not-is_stated.true)

pub returns : goal.returns
returns g c = λ test is.
    let lent = stated c.args.table.bytes.now c.args.table.rows in
    c.first_of.ensures (λ r. test (cell_in c.args.cell r)) (rows_of c.args.cells lent) (rows_stated c.args.cells c.args.table.bytes.now c.args.table.rows)
    (λ k within passes post. is (cell_at lent.bytes (4 * (c.args.cells * k + c.args.cell))) passes (search rules) ∙ ap test (cell_told c.args.cells c.args.cell lent k within c.requires.width.0))
    ∙ asked_row _ _ _ _ (sym c.is_stated.ensures ∙ c.if-not-is_stated.false, refl)
