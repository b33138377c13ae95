-- A turn stores one row: the next 14 bytes of the file to the next 16 of the table.
use Prim.Native.Nat.{◌+◌, ◌*◌}
use lib.ListN.{length}
use lib.Seq.{sets}
use Rattle.format.specs.Bytes.{rows_at}
use Rattle.format.specs.ClipRecord.{stc_at, next_stc}
use Rattle.format.specs.Tables.{table_bytes}
use Rattle.format.proofs.Sweep.{Along, Filling}
use Rattle.sequence_info.proofs.put_stcs.Given as goal

abbrev pub invariant-loop-k : goal.invariant-loop-k
invariant-loop-k l =
    Along next_stc (length l.file) l.p l.n (l.p + 14 * l.k) l.k
    × Filling (rows_at (stc_at l.file) next_stc) l.initial.table (sets l.initial.table l.at (table_bytes (rows_at (stc_at l.file) next_stc l.p l.n))) l.table (l.at + 16 * l.k) (l.p + 14 * l.k) l.n l.k
