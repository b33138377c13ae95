-- Each return, by the tests that led to it.
use Rattle.std.proofs.Common.{inl, inr}
use Rattle.clip_sections.proofs.Laws.{marks_zero, marks_far, marks_near}
use Rattle.clip_sections.proofs.sections.marks_in.Goals as goal

pub returns-then-start-eq0 : goal.returns-then-start-eq0
returns-then-start-eq0 c =
    let a = c.args in
    elim c.then-start-eq0.either [
      | inl zero ↦ marks_zero a.file.now a.start zero
      | inr far ↦ marks_far a.file.now a.start far.0 far.1
    ]

pub returns : goal.returns
returns c = marks_near c.args.file.now c.args.start c.if-start-eq0.false c.if-len-start.false
