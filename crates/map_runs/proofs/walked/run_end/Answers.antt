-- Each turn goes on by the fine rows of a coarse row that are in the run of the first.
use Rattle.map_runs.proofs.Turns.{along_first, along_done}
use Rattle.map_runs.proofs.walked.run_end.Goals as goal

pub loop-k-init : goal.loop-k-init
loop-k-init c =
    let a = c.args in
    along_first a.file.now a.m a.from a.first c.requires.2 c.requires.1

pub returns : goal.returns
returns c =
    let a = c.args in
    let l = c.loop-k in
    along_done a.file.now a.m a.from l.walk l.k l.invariant c.loop-k-test.false
