-- Where a stream passes the end, so do all of them.
use lib.ListN.{length}
use Rattle.format.specs.Programs.{next_stream}
use Rattle.format.proofs.Sweep.{Along}
use Rattle.program_info.proofs.skip_streams.Given as goal

abbrev pub invariant-loop : goal.invariant-loop
invariant-loop l = Along (next_stream l.file) (length l.file) l.fn.r.pos l.n l.next.pos l.counter
