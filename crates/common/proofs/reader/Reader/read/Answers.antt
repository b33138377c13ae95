-- Where the bytes pass the end no number is read.
use Prim.Native.Nat.{◌+◌}
use lib.ListN.{length}
use borrow.Author.Tests.{lt-leb}
use Rattle.common.proofs.Laws.{stayed, number_past}
use Rattle.common.proofs.reader.Reader.read.Goals as goal

pub returns-in_err-next : goal.returns-in_err-next
returns-in_err-next g c =
    let f = c.args.buf.now in
    let p = c.args.self.pos in
    rw c.from_residual.ensures (number_past f p g.row.N (lt-leb (p + g.row.N) (length f) (stayed f (p + g.row.N) c.in_err-next.ensures)))
