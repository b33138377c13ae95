-- Packet, start and end have 32 bits.
use Prim.Native.Nat.{◌+◌}
use borrow.Author.Rules.{rules}
use Rattle.row_limits.proofs.Fits.{any_cell}
use Rattle.row_limits.proofs.stc_fits.Goals as goal

pub returns : goal.returns
returns c =
    let a = c.args in
    let any = any_cell a.t.now (λ i. (c.type_inv.t i).fits) in
    let packet = any (a.p + 4) in
    let start = any (a.p + 4 + 4) in
    let end = any (a.p + 4 + 4 + 4) in
    search rules
