-- Each turn keeps the earlier start.
use Rattle.ticks.specs.Times.{as45}
use Rattle.format.specs.Questions.{least_start}
use Rattle.sequence_queries.specs.Rows.{stcs_in}
use Rattle.sequence_queries.proofs.Laws.{Least}
use Rattle.sequence_queries.proofs.Stcs.least_start.Given as goal

abbrev pub invariant-loop-k : goal.invariant-loop-k
invariant-loop-k l = Least (stcs_in l.self) (least_start (as45 l.fn.first) (stcs_in l.self)) l.k (as45 l.least)
