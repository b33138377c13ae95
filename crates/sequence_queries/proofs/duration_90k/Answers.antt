-- A duration by the other clock, doubled behind the same tests.
use mathlib.Core.Path.{ap, ◌∙◌}
use Rattle.format.specs.Questions.{ticks90}
use Rattle.queries.specs.Answers.{time90_of}
use Rattle.queries.proofs.Asking.{passed_on}
use Rattle.sequence_queries.proofs.Laws.{twice, twice_asked}
use Rattle.sequence_queries.proofs.duration_90k.Goals as goal

pub returns-in_err-duration_45k : goal.returns-in_err-duration_45k
returns-in_err-duration_45k c = ap time90_of (passed_on c.from_residual.result c.from_residual.ensures.1) ∙ ap twice c.in_err-duration_45k.ensures ∙ twice_asked c.args.stc _

pub returns : goal.returns
returns c = ap (λ x. ticks90 x) c.doubled.ensures ∙ ap twice c.in_ok-duration_45k.ensures ∙ twice_asked c.args.stc _
