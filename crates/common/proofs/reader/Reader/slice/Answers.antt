-- What `within` answers decides between the part and the empty part.
use native.Mathlib.Nat.{add-sub_cancel_left}
use lib.ListN.{length}
use Prim.Native.Nat.{◌+◌}
use mathlib.Core.Path.{sym, ◌∙◌}
use native.Mathlib.Omega.{arith}
use Rattle.common.proofs.Laws.{passed}
use Rattle.common.proofs.reader.Reader.slice.Goals as goal

pub overflow_add-end : goal.overflow_add-end
overflow_add-end c =
    let a = c.args in
    omega (arith, passed (a.self.pos + a.n) (length a.buf.now) c.within.ensures c.if-within.true)

pub returns-then-within : goal.returns-then-within
returns-then-within c = simp (sym c.within.ensures ∙ c.if-within.true, add-sub_cancel_left)

pub returns-else-within : goal.returns-else-within
returns-else-within c = rw (sym c.within.ensures ∙ c.if-within.false)
