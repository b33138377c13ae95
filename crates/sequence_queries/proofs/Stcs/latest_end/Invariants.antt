-- Each turn keeps the later end.
use Rattle.ticks.specs.Times.{as45}
use Rattle.sequence_queries.specs.Rows.{stcs_in}
use Rattle.sequence_queries.proofs.Laws.{Latest}
use Rattle.sequence_queries.proofs.Stcs.latest_end.Given as goal

abbrev pub invariant-loop-k : goal.invariant-loop-k
invariant-loop-k l = Latest (stcs_in l.self) l.k (as45 l.latest)
