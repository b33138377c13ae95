-- A turn stores one row and goes on behind the body of the file and by 20 bytes of the table.
use Prim.Native.Nat.{◌+◌, ◌*◌}
use lib.ListN.{length}
use lib.Seq.{sets}
use Rattle.format.specs.Bytes.{rows_at}
use Rattle.format.specs.Programs.{stream_at, next_stream}
use Rattle.format.specs.Tables.{table_bytes}
use Rattle.format.proofs.Sweep.{Along, Filling}
use Rattle.program_info.proofs.put_streams.Given as goal

abbrev pub invariant-loop-k : goal.invariant-loop-k
invariant-loop-k l =
    Along (next_stream l.file) (length l.file) l.p l.n l.q l.k
    × Filling (rows_at (stream_at l.file) (next_stream l.file)) l.initial.table (sets l.initial.table l.at (table_bytes (rows_at (stream_at l.file) (next_stream l.file) l.p l.n))) l.table (l.at + 20 * l.k) l.q l.n l.k
