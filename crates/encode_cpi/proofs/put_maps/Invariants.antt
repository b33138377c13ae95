-- Each turn stores one map, whose header and body stand before those of the maps behind it.
use Rattle.encode_cpi.proofs.Section.{Putting}
use Rattle.encode_cpi.proofs.put_maps.Given as goal

abbrev pub invariant-loop-k : goal.invariant-loop-k
invariant-loop-k l = Putting l.maps.bytes.now l.maps.rows l.entries.bytes.now l.entries.rows l.initial.out l.at l.end l.out l.body l.row l.k
