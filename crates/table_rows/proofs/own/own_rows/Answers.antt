-- Each test that fails refuses; behind them stand the first row and the count.
use Rattle.table_rows.proofs.AllRows.{told, returned}
use Rattle.table_rows.proofs.OwnRows.{not_counted, no_head, owned}
use Rattle.table_rows.proofs.own.own_rows.Goals as goal

pub returns-in_err-heads : goal.returns-in_err-heads
returns-in_err-heads c =
    let r = returned _ _ c.from_residual.result c.from_residual.ensures.1 c.in_err-heads.ensures in
    rw r.1 (not_counted _ _ _ _ _ r.0)

pub returns-then-head-heads : goal.returns-then-head-heads
returns-then-head-heads c = no_head _ _ _ _ _ (told _ _ c.in_ok-heads.ensures) c.if-head-heads.true

pub returns : goal.returns
returns c = owned _ _ _ _ _ (told _ _ c.in_ok-heads.ensures) c.if-head-heads.false (rw c.front.ensures at c.count_rows.ensures) c.cell.ensures
