-- Each turn keeps the lesser PID.
use Rattle.table_rows.specs.AllRows.{rows_in}
use Rattle.cpi_queries.specs.PrimaryMap.{as_best}
use Rattle.cpi_queries.proofs.Choice.{Pids}
use Rattle.cpi_queries.proofs.least_pid.Given as goal

abbrev pub invariant-loop-row : goal.invariant-loop-row
invariant-loop-row l = Pids (rows_in l.maps) l.row (as_best l.least)
