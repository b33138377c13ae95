-- Each test that fails is one of the definition's, and so is the last.
use mathlib.Core.Path.{sym, ◌∙◌}
use borrow.Author.Tests.{eqb-true, eqb-false}
use borrow.Author.Rules.{rules}
use Rattle.entry_runs.proofs.Words.{other_time, other_packet, angles_tell}
use Rattle.entry_runs.proofs.goes_on.Goals as goal
use Rattle.entry_runs.proofs.goes_on.Goals.{then-words-first, else-words-first}

pub returns-then-words-first-2 : goal.returns-then-words-first-2
returns-then-words-first-2 c =
    let a = c.args in
    elim c.if-words-first.branch [
      | then-words-first w ↦ angles_tell a.first a.words (search rules) (search rules) c.requires w.if-words-first.true (eqb-true _ _ (sym w.value-is ∙ c.if-words-first-2.true))
      | else-words-first w ↦ absurd (w.if-words-first.false (eqb-true _ _ (sym w.value-is ∙ c.if-words-first-2.true)))
    ]

pub returns-else-words-first-2 : goal.returns-else-words-first-2
returns-else-words-first-2 c =
    let a = c.args in
    elim c.if-words-first.branch [
      | then-words-first w ↦ c.if-words-first-2.false ∙ other_packet a.first a.words (search rules) (search rules) c.requires w.if-words-first.true (eqb-false _ _ (sym w.value-is ∙ c.if-words-first-2.false))
      | else-words-first w ↦ c.if-words-first-2.false ∙ other_time a.first a.words (search rules) (search rules) c.requires w.if-words-first.false
    ]
