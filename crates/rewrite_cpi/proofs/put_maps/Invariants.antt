-- Each turn stores a map's body and header; what is left goes behind them.
use Rattle.rewrite_cpi.proofs.Sections.{Putting}
use Rattle.rewrite_cpi.proofs.put_maps.Given as goal

abbrev pub invariant-loop-k : goal.invariant-loop-k
invariant-loop-k l = Putting l.file l.from.file l.count l.initial.out l.from.out l.out l.body l.k
