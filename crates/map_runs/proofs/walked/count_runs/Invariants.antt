-- Each turn goes from a run to the next.
use Prim.Native.Nat.{◌-◌}
use Rattle.map_runs.proofs.Turns.{Counted}
use Rattle.map_runs.proofs.walked.count_runs.Given as goal

abbrev pub invariant-loop-k : goal.invariant-loop-k
invariant-loop-k l = Counted l.file l.m l.walk l.count l.k

abbrev pub decreases-loop-k : goal.decreases-loop-k
decreases-loop-k l = l.m.num_fine - l.k
