-- The test on what is left is the test on the sum, which the code never forms.
use mathlib.Core.Path.{◌∙◌}
use borrow.Author.Tests.{lt-leb}
use Rattle.common.proofs.Laws.{past, rest}
use Rattle.common.proofs.reader.within.Goals as goal

pub returns-then-pos-len : goal.returns-then-pos-len
returns-then-pos-len c = let a = c.args in rest a.pos a.n a.len c.if-pos-len.true

pub returns-else-pos-len : goal.returns-else-pos-len
returns-else-pos-len c =
    let a = c.args in
    let h = c.if-pos-len.false in
    lt-leb a.pos a.len h ∙ past a.pos a.n a.len h
