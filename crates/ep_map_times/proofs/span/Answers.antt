-- No entries span nothing; else the last time is lessened by the first.
use Rattle.entry_rows.specs.Entries.{rows_in}
use Rattle.ep_map_times.proofs.Lasts.{no_span, span_is}
use Rattle.ep_map_times.proofs.span.Goals as goal

pub returns-in-Some : goal.returns-in-Some
returns-in-Some c = span_is (rows_in c.args.entries) c.in-Some.ensures c.time_of.ensures c.less.ensures

pub returns-in-None : goal.returns-in-None
returns-in-None c = no_span (rows_in c.args.entries) c.in-None.ensures
