-- Each turn measures one map whose entries fit.
use Rattle.encode_cpi.proofs.Lengths.{MeasuredTo}
use Rattle.encode_cpi.proofs.cpi_length.Given as goal

abbrev pub invariant-loop-k : goal.invariant-loop-k
invariant-loop-k l = MeasuredTo l.maps.bytes.now l.maps.rows l.entries.bytes.now l.entries.rows l.len l.few l.row l.k
