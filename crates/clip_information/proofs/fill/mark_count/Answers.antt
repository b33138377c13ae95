-- Each return, by the tests that led to it.
use mathlib.Core.Path.{◌∙◌}
use native.Mathlib.Omega.{arith}
use Rattle.clip_information.proofs.FillLaws.{no_marks, marks_past, marks_counted, count_in_lem}
use Rattle.clip_information.proofs.fill.mark_count.Goals as goal

pub returns-then-start-eq0 : goal.returns-then-start-eq0
returns-then-start-eq0 c = no_marks c.args.file.now c.args.start c.if-start-eq0.true

pub returns-then-file-start : goal.returns-then-file-start
returns-then-file-start c =
    marks_past c.args.file.now c.args.start c.if-start-eq0.false c.if-file-start.true

pub u32_at-requires : goal.u32_at-requires
u32_at-requires c =
    omega (arith, count_in_lem c.args.file.now c.args.start c.requires c.if-start-eq0.false c.if-file-start.false)

pub returns : goal.returns
returns c =
    c.u32_at.ensures.same ∙ marks_counted c.args.file.now c.args.start c.if-start-eq0.false c.if-file-start.false
