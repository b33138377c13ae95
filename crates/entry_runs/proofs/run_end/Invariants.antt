-- Each turn passes an entry that is in the run of the first and fits.
use Rattle.entry_runs.proofs.Runs.{Along}
use Rattle.entry_runs.proofs.run_end.Given as goal

abbrev pub invariant-loop-k : goal.invariant-loop-k
invariant-loop-k l = Along l.entries.bytes.now l.entries.first l.entries.count l.map_type l.from l.k
