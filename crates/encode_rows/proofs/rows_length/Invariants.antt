-- Each turn adds the length of one row.
use Prim.Native.Nat.{◌*◌, ◌≤◌}
use lib.ListN.{length}
use Rattle.format.specs.Tables.{cells_at}
use Rattle.format.proofs.Sweep.{Along}
use Rattle.row_values.specs.Kinds.{cells_of, bytes_by}
use Rattle.row_bytes.proofs.Storing.{Adding}
use Rattle.encode_rows.specs.Rows.{step_of, rows_bytes}
use Rattle.encode_rows.proofs.rows_length.Given as goal

abbrev pub invariant-loop-k : goal.invariant-loop-k
invariant-loop-k l =
    Along (step_of l.kind) (length l.table.bytes.now) 0 l.table.rows (l.step * l.k) l.k × (l.sum ≤ 14 * l.k) × Adding (cells_at l.table.bytes.now (cells_of l.kind)) (step_of l.kind) (bytes_by l.kind) (length (rows_bytes l.kind l.table.bytes.now 0 l.table.rows)) l.sum (l.step * l.k) l.table.rows l.k
