-- Each turn stores the entries before the next coarse row's first fine row and steps to that row; those that are left are stored behind the loop.
use Rattle.ep_entries.proofs.Joined.{Filled}
use Rattle.ep_entries.proofs.entries.put_entries.Given as goal

abbrev pub invariant-loop-w : goal.invariant-loop-w
invariant-loop-w g l = Filled g.F.EntryForm.bytes g.F.EntryForm.SIZE l.file l.m l.initial.out l.at l.out l.w l.k

abbrev pub decreases-loop-w : goal.decreases-loop-w
decreases-loop-w g l = l.w.left
