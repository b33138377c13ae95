-- Each turn keeps the lesser PID.
use Prim.Native.Nat.{◌<◌, ◌≤◌}
use mathlib.Core.Path.{refl, ap}
use native.Mathlib.Omega.{arith}
use lib.ListN.{length}
use Rattle.format.specs.Tables.{map_cells}
use Rattle.format.proofs.Tables.{rows_stated}
use Rattle.table_rows.specs.AllRows.{rows_in}
use Rattle.cpi_queries.specs.PrimaryMap.{as_best}
use Rattle.cpi_queries.proofs.Choice.{pids_turn, pid_is}
use Rattle.cpi_queries.proofs.least_pid.Goals as goal

pub loop-row-init : goal.loop-row-init
loop-row-init c = refl

pub loop-row-preserved : goal.loop-row-preserved
loop-row-preserved c =
    let within : c.loop-row.row < length (rows_in c.args.maps) = omega (arith, c.loop-row-test.true, rows_stated map_cells c.args.maps.bytes.now c.args.maps.count) in
    pids_turn (rows_in c.args.maps) c.loop-row.row (as_best c.loop-row.least) within c.cell.ensures c.lesser-least.ensures c.loop-row.invariant

pub returns-in_err-least : goal.returns-in_err-least
returns-in_err-least c =
    let all : length (rows_in c.args.maps) ≤ c.loop-row.row = omega (arith, c.loop-row-test.false, rows_stated map_cells c.args.maps.bytes.now c.args.maps.count) in
    rw c.from_residual.ensures (pid_is (rows_in c.args.maps) c.loop-row.row (ap as_best c.in_err-least.was) all c.loop-row.invariant)

pub returns : goal.returns
returns c =
    let all : length (rows_in c.args.maps) ≤ c.loop-row.row = omega (arith, c.loop-row-test.false, rows_stated map_cells c.args.maps.bytes.now c.args.maps.count) in
    rw c.from.ensures (pid_is (rows_in c.args.maps) c.loop-row.row (ap as_best c.in_ok-least.was) all c.loop-row.invariant)
