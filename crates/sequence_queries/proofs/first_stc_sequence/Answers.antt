-- Rows that are not there are refused; else there is a first or none.
use mathlib.Core.Path.{refl, ap, ◌∙◌}
use Rattle.format.specs.Questions.{first_stc_sequence}
use Rattle.queries.specs.Answers.{found_of}
use Rattle.queries.proofs.Asking.{passed_on}
use Rattle.sequence_queries.proofs.Laws.{refused_by, rows_answer, no_first, a_first}
use Rattle.sequence_queries.proofs.first_stc_sequence.Goals as goal

pub returns-in_err-stcs : goal.returns-in_err-stcs
returns-in_err-stcs c = ap found_of (passed_on c.from_residual.result c.from_residual.ensures.1) ∙ refused_by (first_stc_sequence) _ refl c.in_err-stcs.ensures

pub returns-then-stcs-eq0 : goal.returns-then-stcs-eq0
returns-then-stcs-eq0 c = no_first _ c.if-stcs-eq0.true ∙ rows_answer first_stc_sequence _ refl _ c.in_ok-stcs.ensures

pub returns : goal.returns
returns c = a_first _ c.if-stcs-eq0.false ∙ rows_answer first_stc_sequence _ refl _ c.in_ok-stcs.ensures
