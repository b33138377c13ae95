-- Each number has its cell, and what is left after those that are the same decides.
use mathlib.Core.Path.{sym, ◌∙◌}
use Rattle.replay_bytes.proofs.PartLaws.{none_told, one_told, one_untold, all_told, too_few_cells}
use Rattle.replay_bytes.proofs.pass_numbers.Goals as goal

pub returns-then-answer-numbers : goal.returns-then-answer-numbers
returns-then-answer-numbers c = too_few_cells c.args.answer.now c.args.numbers.now c.if-answer-numbers.true

pub loop-k-init : goal.loop-k-init
loop-k-init c = none_told c.args.answer.now c.args.numbers.now

pub returns-then-cell_at-n : goal.returns-then-cell_at-n
returns-then-cell_at-n c =
    let a = c.args in
    let l = c.loop-k in
    let cell = c.cell_at.ensures.same in
    one_untold a.answer.now a.numbers.now (λ i. (c.type_inv.answer i).fits) c.if-answer-numbers.false c.loop-k-test.true (c.type_inv.numbers l.k).fits l.invariant (λ e. c.if-cell_at-n.true (cell ∙ e))

pub loop-k-preserved : goal.loop-k-preserved
loop-k-preserved c =
    let a = c.args in
    let l = c.loop-k in
    let cell = c.cell_at.ensures.same in
    one_told a.answer.now a.numbers.now (λ i. (c.type_inv.answer i).fits) c.if-answer-numbers.false c.loop-k-test.true (c.type_inv.numbers l.k).fits l.invariant (sym cell ∙ c.if-cell_at-n.false)

pub returns : goal.returns
returns c = all_told c.args.answer.now c.args.numbers.now c.loop-k-test.false c.loop-k.invariant
