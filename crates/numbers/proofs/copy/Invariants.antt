-- What is left of the part, put from here, gives the whole.
use Rattle.numbers.proofs.Parts.{Copying}
use Rattle.numbers.proofs.copy.Given as goal

abbrev pub invariant-loop-k : goal.invariant-loop-k
invariant-loop-k l = Copying l.s l.from l.n l.initial.out l.at l.out l.k
