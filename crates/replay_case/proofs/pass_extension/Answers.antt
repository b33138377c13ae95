-- Ids, length and data are those of the row's extension; where one isn't there, none is behind it.
use mathlib.Core.Path.{refl, sym, ◌∙◌}
use Rattle.std.specs.Prelude.{Some, None}
use Rattle.format.specs.Refusals.{data_asked}
use Rattle.format.specs.Tables.{stated}
use Rattle.replay_bytes.proofs.PartLaws.{part_none}
use Rattle.replay_case.proofs.ExtensionLaws.{one_extension}
use Rattle.replay_case.proofs.pass_extension.Goals as goal

pub returns-in_err-ids : goal.returns-in_err-ids
returns-in_err-ids c =
    let a = c.args in
    let asked = data_asked a.file.now (stated a.table.now a.rows) a.row in
    c.from_residual.ensures
    ∙ one_extension a.file.now a.table.now (λ i. (c.type_inv.table i).fits) a.rows a.row c.requires.0 c.requires.1 a.answer.now (Some a.at) {p = None} {q = None} {r = None} {d = asked}
    c.in_err-ids.ensures (sym (part_none _ _ _ _)) refl (sym (part_none _ _ _ _))

pub returns-in_err-length : goal.returns-in_err-length
returns-in_err-length c =
    let a = c.args in
    let asked = data_asked a.file.now (stated a.table.now a.rows) a.row in
    c.from_residual-in_err-length.ensures
    ∙ one_extension a.file.now a.table.now (λ i. (c.type_inv.table i).fits) a.rows a.row c.requires.0 c.requires.1 a.answer.now (Some a.at) {q = None} {r = None} {d = asked}
    c.in_ok-ids.ensures c.in_err-length.ensures refl (sym (part_none _ _ _ _))

pub returns : goal.returns
returns c =
    let a = c.args in
    one_extension a.file.now a.table.now (λ i. (c.type_inv.table i).fits) a.rows a.row c.requires.0 c.requires.1 a.answer.now (Some a.at)
    c.in_ok-ids.ensures c.in_ok-length.ensures c.data-data.ensures c.pass-3.ensures
