-- Each number has its cell, and what is left after those that are the same decides.
use Rattle.replay_bytes.proofs.PartLaws.{Told}
use Rattle.replay_bytes.proofs.pass_numbers.Given as goal

abbrev pub invariant-loop-k : goal.invariant-loop-k
invariant-loop-k l = Told l.answer l.numbers l.k
