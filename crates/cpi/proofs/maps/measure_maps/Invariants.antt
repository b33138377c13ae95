-- Each turn counts a map's entries; the first map that is refused ends the loop.
use Rattle.cpi.proofs.Sections.{Counting}
use Rattle.cpi.proofs.maps.measure_maps.Given as goal

abbrev pub invariant-loop-k : goal.invariant-loop-k
invariant-loop-k l = Counting l.file l.start l.maps.count l.entries l.k
