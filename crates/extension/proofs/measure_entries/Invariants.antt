-- After each turn what is counted and found, with what is left, is the whole.
use Prim.Native.Nat.{◌+◌, ◌*◌}
use Rattle.extension.proofs.Laws.{Counted}
use Rattle.extension.proofs.measure_entries.Given as goal

abbrev pub invariant-loop-k : goal.invariant-loop-k
invariant-loop-k l = Counted l.file l.start l.head.n (l.start + 12 + 12 * l.k) l.k l.rows l.list
