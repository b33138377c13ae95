-- From the first record to the last; no records span nothing.
use mathlib.Core.Path.{◌∙◌}
use Rattle.ep_entry_steps.proofs.Laws.{span_is, no_span}
use Rattle.ep_entry_steps.proofs.span.Goals as goal

pub returns-in-Some : goal.returns-in-Some
returns-in-Some c = c.between.ensures ∙ span_is c.args.rows.now c.in-Some.ensures

pub returns-in-None : goal.returns-in-None
returns-in-None c = no_span c.args.rows.now c.in-None.ensures
