-- A video map that is found answers, else the least PID.
use mathlib.Core.Path.{ap, ◌∙◌}
use mathlib.Core.List.{map}
use Rattle.format.specs.ClipRecord.{map_pid}
use Rattle.format.specs.Tables.{table_rows_of, map_cells}
use Rattle.queries.specs.Answers.{found_of}
use Rattle.queries.proofs.Asking.{passed_on}
use Rattle.table_rows.proofs.AllRows.{told, returned}
use Rattle.cpi_queries.specs.PrimaryMap.{least_pid}
use Rattle.cpi_queries.proofs.Choice.{else_refused, else_found, least_refused, least_told}
use Rattle.cpi_queries.proofs.video_or_least.Goals as goal

pub returns-in_err-row : goal.returns-in_err-row
returns-in_err-row c =
    let m = c.args.maps in
    ap found_of (passed_on c.from_residual.result c.from_residual.ensures.1)
    ∙ else_refused (least_pid (map map_pid (table_rows_of map_cells m.bytes.now m.rows))) c.in_err-row.ensures

pub returns-in-Some : goal.returns-in-Some
returns-in-Some c =
    let m = c.args.maps in
    else_found (least_pid (map map_pid (table_rows_of map_cells m.bytes.now m.rows))) (rw c.in-Some.is at c.in_ok-row.ensures)

pub returns-in_err-all_rows-in-None : goal.returns-in_err-all_rows-in-None
returns-in_err-all_rows-in-None c =
    let r = returned _ _ c.from_residual-in_err-all_rows-in-None.result c.from_residual-in_err-all_rows-in-None.ensures.1 c.in_err-all_rows-in-None.ensures in
    ap found_of r.1 ∙ least_refused _ r.0

pub returns-in_ok-all_rows-in-None : goal.returns-in_ok-all_rows-in-None
returns-in_ok-all_rows-in-None c = least_told (rw c.in-None.is at c.in_ok-row.ensures) (told _ _ c.in_ok-all_rows-in-None.ensures).1 c.least_pid.ensures
