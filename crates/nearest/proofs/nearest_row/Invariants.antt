-- The rows passed are looked at.
use Rattle.std.proofs.Common.{ℕ, List, ◌<◌}
use Rattle.nearest.specs.Nearest.{Tells}
use Rattle.nearest.proofs.Steps.{Scan}
use Rattle.nearest.proofs.nearest_row.Given as goal

abbrev pub invariant-loop-k : goal.invariant-loop-k
invariant-loop-k g l = (l.nearest < l.rows) × ((times : List ℕ) → Tells (goal.F-post g l.time_of) l.rows times → Scan l.side l.at times l.k l.nearest l.least)
