-- Each turn goes from a run whose entries fit to the next.
use Prim.Native.Nat.{◌-◌}
use Rattle.entry_runs.proofs.Runs.{Counted}
use Rattle.entry_runs.proofs.count_runs.Given as goal

abbrev pub invariant-loop-k : goal.invariant-loop-k
invariant-loop-k l = Counted l.entries.bytes.now l.entries.first l.entries.count l.map_type l.count l.k

abbrev pub decreases-loop-k : goal.decreases-loop-k
decreases-loop-k l = l.entries.count - l.k
