-- Each turn passes a row that fits.
use Prim.Native.Nat.{◌+◌, ◌*◌}
use Rattle.row_limits.specs.Kinds.{table_cells, fits_by}
use Rattle.limits.proofs.Walks.{Tested}
use Rattle.limits.proofs.rows.rows_fit.Given as goal

abbrev pub invariant-loop-k : goal.invariant-loop-k
invariant-loop-k l = Tested (fits_by l.kind) (table_cells l.kind) l.t l.p l.n l.k (l.p + l.size * l.k)
