-- Each turn stores the rows of one entry below those of the entries behind it.
use Prim.Native.Nat.{◌-◌}
use Rattle.encode_map.proofs.Bodies.{Turning}
use Rattle.encode_map.proofs.put_rows.Given as goal

abbrev pub invariant-loop-k : goal.invariant-loop-k
invariant-loop-k l = Turning l.entries.bytes.now l.entries.first l.entries.count l.initial.out l.fine l.out l.to (l.k - 1) l.entry
