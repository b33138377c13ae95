-- A turn stores one stream and goes on behind it, in the file and in the output.
use Prim.Native.Nat.{◌+◌}
use lib.ListN.{length}
use lib.Seq.{sets}
use Rattle.format.specs.Programs.{stream_at, next_stream}
use Rattle.format.specs.Rewriting.{stream_bytes}
use Rattle.format.proofs.Sweep.{Along}
use Rattle.row_bytes.proofs.Storing.{Storing, rows_left}
use Rattle.rewrite_program.specs.Programs.{new_streams}
use Rattle.rewrite_program.proofs.put_streams.Given as goal

abbrev pub invariant-loop : goal.invariant-loop
invariant-loop l =
    Along (next_stream l.file) (length l.file) l.initial.to.file l.n l.to.file l.counter
    × Storing l.initial.out (sets l.initial.out l.initial.to.out (new_streams l.file l.initial.to.file l.n)) (l.initial.to.out + length (new_streams l.file l.initial.to.file l.n)) (rows_left (stream_at l.file) (next_stream l.file) stream_bytes l.to.file l.n l.counter) l.out l.to.out
