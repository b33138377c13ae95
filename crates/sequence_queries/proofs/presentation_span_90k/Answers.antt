-- Rows that are not there are refused; else there is no span, or that of the rows.
use mathlib.Core.Path.{refl, ap, ◌∙◌}
use Rattle.format.specs.Questions.{presentation_span_90k}
use Rattle.queries.specs.Answers.{time90_of}
use Rattle.queries.proofs.Asking.{passed_on}
use Rattle.sequence_queries.proofs.Laws.{refused_by, rows_answer, no_span, span_is}
use Rattle.sequence_queries.proofs.presentation_span_90k.Goals as goal

pub returns-in_err-stcs : goal.returns-in_err-stcs
returns-in_err-stcs c = ap time90_of (passed_on c.from_residual.result c.from_residual.ensures.1) ∙ refused_by (presentation_span_90k) _ refl c.in_err-stcs.ensures

pub returns-then-stcs-eq0 : goal.returns-then-stcs-eq0
returns-then-stcs-eq0 c = no_span _ c.if-stcs-eq0.true ∙ rows_answer presentation_span_90k _ refl _ c.in_ok-stcs.ensures

pub returns : goal.returns
returns c =
    span_is _ c.if-stcs-eq0.false c.latest_end.ensures c.doubled-latest.ensures c.start.ensures c.least_start.ensures c.doubled-least.ensures c.less.ensures
    ∙ rows_answer presentation_span_90k _ refl _ c.in_ok-stcs.ensures
