-- The place that was answered says whether the call is refused.
use mathlib.Core.Path.{◌∙◌}
use Rattle.extension_entry.proofs.Laws.{given, not_given}
use Rattle.extension_entry.proofs.data_refusal.Goals as goal

pub returns-in-Ok : goal.returns-in-Ok
returns-in-Ok c = (given _ _ _ c.in-Ok.ensures.same).0

pub returns-in-Err : goal.returns-in-Err
returns-in-Err c = c.number.ensures ∙ (not_given _ _ _ c.in-Err.ensures.same).0
