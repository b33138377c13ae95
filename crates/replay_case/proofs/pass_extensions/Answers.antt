-- After each row the place is behind the extensions so far.
use mathlib.Core.Path.{refl, sym, ◌∙◌}
use Rattle.format.specs.Tables.{rows_of, extension_cells, stated}
use Rattle.replay_case.specs.Places.{extensions_bytes}
use Rattle.replay_bytes.proofs.PartLaws.{beyond}
use Rattle.replay_case.proofs.ExtensionLaws.{none_passed, one_passed, none_there, all_passed}
use Rattle.replay_case.proofs.pass_extensions.Goals as goal

pub returns-then-at-answer : goal.returns-then-at-answer
returns-then-at-answer c =
    let a = c.args in
    sym (beyond a.answer.now a.at (extensions_bytes a.file.now (rows_of extension_cells (stated a.table.now a.rows))) c.if-at-answer.true)

pub loop-row-init : goal.loop-row-init
loop-row-init c =
    let a = c.args in
    none_passed a.answer.now a.at a.file.now a.table.now a.rows c.if-at-answer.false

pub returns-in_err-p : goal.returns-in_err-p
returns-in_err-p c =
    let a = c.args in
    c.from_residual.ensures
    ∙ none_there a.answer.now a.at a.file.now a.table.now a.rows c.loop-row-test.true c.loop-row.invariant c.in_err-p.ensures refl

pub loop-row-preserved : goal.loop-row-preserved
loop-row-preserved c =
    let a = c.args in
    one_passed a.answer.now a.at a.file.now a.table.now a.rows c.loop-row-test.true c.loop-row.invariant c.in_ok-p.ensures refl

pub returns : goal.returns
returns c =
    let a = c.args in
    all_passed a.answer.now a.at a.file.now a.table.now a.rows c.loop-row-test.false c.loop-row.invariant
