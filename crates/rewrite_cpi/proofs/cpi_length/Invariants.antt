-- Each turn measures a map's body; the first map with too many runs ends the loop.
use Rattle.rewrite_cpi.proofs.Lengths.{MeasuredBefore}
use Rattle.rewrite_cpi.proofs.cpi_length.Given as goal

abbrev pub invariant-loop-k : goal.invariant-loop-k
invariant-loop-k l = MeasuredBefore l.file l.start l.count l.len l.k
