-- Each return, by what was found.
use mathlib.Core.Path.{◌∙◌}
use Rattle.clip_prepare.proofs.ListLaws.{list_none, list_measured}
use Rattle.clip_prepare.proofs.list.measure_list.Goals as goal

pub returns-in_err-data : goal.returns-in_err-data
returns-in_err-data c = rw c.in_err-data.was (c.from_residual.ensures ∙ list_none c.args.file.now)

pub returns : goal.returns
returns c = rw c.in_ok-data.was (list_measured c.args.file.now c.in_ok-data.data c.measure.ensures)
