-- Each turn passes a row that fails the test.
use mathlib.Core.Path.{◌≡◌}
use mathlib.Core.List.{List}
use lib.ListN.{length}
use Rattle.std.proofs.Common.{Bool}
use Rattle.format.specs.ClipRecord.{Row}
use Rattle.row_search.specs.FirstRow.{Computes}
use Rattle.row_search.proofs.FirstRow.{Searched}
use Rattle.row_search.proofs.first_of.Given as goal

abbrev pub invariant-loop-row : goal.invariant-loop-row
invariant-loop-row g l = (test : Row → Bool) (rows : List Row) → length rows ≡ l.count → Computes (goal.F-post g l.passes) test rows → Searched rows l.from test l.row
