-- Each turn passes a fine row that is in the run.
use Prim.Native.Nat.{◌≤◌}
use Rattle.map_runs.specs.Entries.{IsMet, Along}
use Prim.Native.Nat.{ℕ}
use Rattle.map_runs.proofs.walked.first_outside.Given as goal

abbrev pub invariant-loop-k : goal.invariant-loop-k
invariant-loop-k l = (l.from ≤ l.k) × (l.k ≤ l.end) × ((start : ℕ) → IsMet l.file l.m start l.first → Along l.file l.m start l.w l.from → Along l.file l.m start l.w l.k)
