-- Each turn stores a map's row and its entries; what is left goes behind them.
use Rattle.cpi_fill.proofs.Filling.{Filling}
use Rattle.cpi_fill.proofs.fill.Given as goal

abbrev pub invariant-loop-k : goal.invariant-loop-k
invariant-loop-k l = Filling l.file l.start l.count l.initial.maps l.initial.entries l.maps l.entries l.at l.k
