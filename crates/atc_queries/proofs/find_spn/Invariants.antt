-- Each turn keeps the later row that the packet has reached.
use Rattle.std.proofs.Common.{Ok}
use Rattle.queries.specs.Answers.{found_of}
use Rattle.atc_queries.proofs.Atcs.{Spns}
use Rattle.atc_queries.proofs.find_spn.Given as goal

abbrev pub invariant-loop-k : goal.invariant-loop-k
invariant-loop-k l = Spns l.stcs l.own.first l.own.count l.spn l.k (found_of (Ok l.found))
