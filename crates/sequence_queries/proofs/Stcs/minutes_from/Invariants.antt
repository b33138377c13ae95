-- What is left of the STC is added up first, then each turn adds the duration of a later one.
use Rattle.ticks.specs.Times.{as90}
use Rattle.sequence_queries.specs.Rows.{stcs_in}
use Rattle.sequence_queries.proofs.Laws.{Added, whole_from}
use Rattle.sequence_queries.proofs.Stcs.minutes_from.Given as goal

-- what is added up keeps to the whole
abbrev pub invariant-loop-k : goal.invariant-loop-k
invariant-loop-k l = Added (stcs_in l.self) (whole_from (stcs_in l.self) l.fn.stc (as90 l.fn.at)) l.k l.left
