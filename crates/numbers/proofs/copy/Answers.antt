-- A turn copies one byte; what is left of the part, put from here, gives the whole.
use Rattle.numbers.proofs.Parts.{copying_first, copying_turn, copying_done}
use Rattle.numbers.proofs.copy.Goals as goal

pub loop-k-init : goal.loop-k-init
loop-k-init c = let a = c.args in copying_first a.s.now a.from a.n a.out.now a.at

pub loop-k-preserved : goal.loop-k-preserved
loop-k-preserved c =
    let a = c.args in
    copying_turn a.s.now a.from a.n a.out.now a.at c.loop-k.invariant c.loop-k-test.true c.requires.0

pub returns : goal.returns
returns c =
    let a = c.args in
    copying_done a.s.now a.from a.n a.out.now a.at c.loop-k.invariant c.loop-k-test.false
