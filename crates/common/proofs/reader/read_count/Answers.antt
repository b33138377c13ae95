-- What the move and the read answer says where the count stands.
use Prim.Native.Nat.{◌+◌}
use lib.ListN.{length}
use native.Mathlib.Omega.{arith}
use borrow.Author.Tests.{lt-leb}
use Rattle.common.proofs.Laws.{went, stayed, number_past}
use Rattle.common.proofs.reader.read_count.Goals as goal

pub returns-in_err-skip : goal.returns-in_err-skip
returns-in_err-skip c =
    let f = c.args.file.now in
    let p = c.args.r.pos + c.args.n in
    let cut = stayed f p c.in_err-skip.ensures in
    rw c.from_residual.ensures (number_past f p 1 (lt-leb (p + 1) (length f) (omega arith)))

pub returns : goal.returns
returns c =
    let a = c.args in
    let at = went a.file.now (a.r.pos + a.n) c.in_ok-skip.ensures in
    rw at.1 at c.read.ensures
