-- Tables that do not add up are refused; else the ATCs are searched.
use mathlib.Core.Path.{ap, ◌∙◌}
use Rattle.queries.specs.Answers.{found_of}
use Rattle.table_rows.proofs.AllRows.{told, returned}
use Rattle.table_rows.proofs.OwnRows.{count_fails, count_passes}
use Rattle.atc_queries.proofs.Atcs.{of_told, id_asked}
use Rattle.atc_queries.proofs.stc_sequence_by_id.Goals as goal

pub returns-in_err-atcs : goal.returns-in_err-atcs
returns-in_err-atcs c =
    let r = returned _ _ c.from_residual.result c.from_residual.ensures.1 c.in_err-atcs.ensures in
    ap found_of r.1 ∙ count_fails _ _ _ _ _ r.0 ∙ id_asked _ _ c.args.id

pub returns : goal.returns
returns c =
    let r = told _ _ c.in_ok-atcs.ensures in
    of_told c.args.id r.1 (rw c.from.ensures at c.find_id.ensures) ∙ count_passes _ _ _ _ _ r.0 ∙ id_asked _ _ c.args.id
