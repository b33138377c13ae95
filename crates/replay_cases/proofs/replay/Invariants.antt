-- What is counted, with what is left, is the whole.
use lib.ListN.{length}
use Rattle.replay_cases.proofs.SampleLaws.{Counted}
use Rattle.replay_cases.proofs.replay.Given as goal

abbrev pub invariant-loop-rest : goal.invariant-loop-rest
invariant-loop-rest l = Counted l.sample l.cases l.same l.rest

abbrev pub decreases-loop-rest : goal.decreases-loop-rest
decreases-loop-rest l = length l.rest
