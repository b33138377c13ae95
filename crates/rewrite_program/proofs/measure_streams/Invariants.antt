-- A turn goes on behind one stream and by the bytes that it has in the new file.
use Prim.Native.Nat.{◌+◌}
use lib.ListN.{length}
use Rattle.format.specs.Programs.{stream_at, next_stream}
use Rattle.format.specs.Rewriting.{stream_bytes}
use Rattle.format.proofs.Sweep.{Along}
use Rattle.row_bytes.proofs.Storing.{Adding}
use Rattle.rewrite_program.specs.Programs.{new_streams}
use Rattle.rewrite_program.proofs.measure_streams.Given as goal

abbrev pub invariant-loop : goal.invariant-loop
invariant-loop l =
    Along (next_stream l.file) (length l.file) l.initial.to.file l.n l.to.file l.counter × Adding (stream_at l.file) (next_stream l.file) stream_bytes (l.initial.to.out + length (new_streams l.file l.initial.to.file l.n)) l.to.out l.to.file l.n l.counter
