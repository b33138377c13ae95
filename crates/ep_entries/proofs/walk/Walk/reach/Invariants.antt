-- Each turn steps to the next coarse row, which is there; a row less is left.
use Rattle.ep_entries.proofs.Walks.{Walking}
use Rattle.ep_entries.proofs.walk.Walk.reach.Given as goal

abbrev pub invariant-loop-w : goal.invariant-loop-w
invariant-loop-w l = Walking l.file l.m.num_fine l.k l.initial.w l.w

abbrev pub decreases-loop-w : goal.decreases-loop-w
decreases-loop-w l = l.w.left
