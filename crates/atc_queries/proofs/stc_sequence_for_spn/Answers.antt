-- A refusal stands in front of the ATC's own STCs; of these the last that is reached answers.
use mathlib.Core.Path.{ap, ◌∙◌}
use Rattle.queries.specs.Answers.{found_of}
use Rattle.queries.proofs.Asking.{passed_on}
use Rattle.atc_queries.proofs.Atcs.{spn_refused, stcs_inside, spn_answered}
use Rattle.atc_queries.proofs.stc_sequence_for_spn.Goals as goal

pub returns-in_err-own : goal.returns-in_err-own
returns-in_err-own c = ap found_of (passed_on c.from_residual.result c.from_residual.ensures.1) ∙ spn_refused _ _ c.args.atc c.args.spn c.in_err-own.ensures

pub find_spn-requires : goal.find_spn-requires
find_spn-requires c = stcs_inside _ _ c.args.atc c.args.spn c.in_ok-own.ensures

pub returns : goal.returns
returns c = c.find_spn.ensures ∙ spn_answered _ _ c.args.atc c.args.spn c.in_ok-own.ensures
