-- Each turn passes an ATC that has not the id, and counts its STCs.
use Rattle.table_rows.specs.AllRows.{rows_in}
use Rattle.atc_queries.proofs.Atcs.{Ids}
use Rattle.atc_queries.proofs.find_id.Given as goal

abbrev pub invariant-loop-k : goal.invariant-loop-k
invariant-loop-k l = Ids (rows_in l.atcs) l.id l.k l.first
