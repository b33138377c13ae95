-- Each turn stores the coarse row of one run and goes to the next; what is left goes behind it.
use Prim.Native.Nat.{◌-◌}
use Rattle.map_runs.proofs.Bodies.{Coarse}
use Rattle.map_runs.proofs.body.put_coarse.Given as goal

abbrev pub invariant-loop-k : goal.invariant-loop-k
invariant-loop-k l = Coarse l.file l.m l.initial.out l.at l.out l.walk l.to l.k

abbrev pub decreases-loop-k : goal.decreases-loop-k
decreases-loop-k l = l.m.num_fine - l.k
