-- After each turn what is left, put behind what is stored, gives the whole.
use Prim.Native.Nat.{◌+◌, ◌*◌}
use Rattle.extension.proofs.Laws.{Stored}
use Rattle.extension.proofs.fill_entries.Given as goal

abbrev pub invariant-loop-k : goal.invariant-loop-k
invariant-loop-k l = Stored l.file l.start l.head.n (l.start + 12 + 12 * l.k) l.k l.at l.initial.table l.table
