-- Each turn stores one row behind those before it.
use Prim.Native.Nat.{◌+◌, ◌*◌}
use lib.ListN.{length}
use lib.Seq.{sets}
use Rattle.format.specs.Tables.{cells_at}
use Rattle.format.proofs.Sweep.{Along}
use Rattle.row_values.specs.Kinds.{cells_of, bytes_by}
use Rattle.row_bytes.proofs.Storing.{Storing, rows_left}
use Rattle.encode_rows.specs.Rows.{step_of, rows_bytes}
use Rattle.encode_rows.proofs.put_rows.Given as goal

abbrev pub invariant-loop-k : goal.invariant-loop-k
invariant-loop-k l =
    Along (step_of l.kind) (length l.t) l.p l.n (l.p + l.step * l.k) l.k
    × Storing l.initial.out (sets l.initial.out l.at (rows_bytes l.kind l.t l.p l.n)) (l.at + length (rows_bytes l.kind l.t l.p l.n)) (rows_left (cells_at l.t (cells_of l.kind)) (step_of l.kind) (bytes_by l.kind) (l.p + l.step * l.k) l.n l.k) l.out l.to
