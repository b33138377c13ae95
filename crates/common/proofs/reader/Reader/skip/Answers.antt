-- What `within` answers decides between the two answers.
use lib.ListN.{length}
use Prim.Native.Nat.{◌+◌}
use mathlib.Core.Path.{sym, ◌∙◌}
use native.Mathlib.Omega.{arith}
use Rattle.common.proofs.Laws.{passed}
use Rattle.common.proofs.reader.Reader.skip.Goals as goal

pub overflow_add-result : goal.overflow_add-result
overflow_add-result c =
    let a = c.args in
    omega (arith, passed (a.self.pos + a.n) (length a.buf.now) c.within.ensures c.if-within.true)

pub returns-then-within : goal.returns-then-within
returns-then-within c = rw (sym c.within.ensures ∙ c.if-within.true)

pub returns-else-within : goal.returns-else-within
returns-else-within c = rw (sym c.within.ensures ∙ c.if-within.false)
