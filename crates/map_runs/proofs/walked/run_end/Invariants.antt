-- Each turn goes on by the fine rows of a coarse row that are in the run of the first.
use Prim.Native.Nat.{◌-◌}
use Rattle.map_runs.specs.Entries.{Along}
use Rattle.map_runs.proofs.walked.run_end.Given as goal

abbrev pub invariant-loop-k : goal.invariant-loop-k
invariant-loop-k l = Along l.file l.m l.from l.walk l.k

abbrev pub decreases-loop-k : goal.decreases-loop-k
decreases-loop-k l = l.m.num_fine - l.k
