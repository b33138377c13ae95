-- As many zeros are put in place.
use Prim.Native.Nat.{◌+◌, ◌-◌}
use mathlib.Core.Path.{◌≡◌, ◌∙◌}
use native.Mathlib.Omega.{arith}
use Rattle.format.proofs.Lists.{part_length}
use Rattle.numbers.proofs.Laws.{zero_bytes, bytes_stored}
use Rattle.numbers.proofs.put_zeros.Goals as goal

pub returns : goal.returns
returns g c =
    let a = c.args in
    let n = g.row.N in
    let count : a.at + n - a.at ≡ n = omega arith in
    bytes_stored a.out.now a.at n 0 (c.fill.ensures.after (λ y e. e) ∙ rw (count, part_length a.out.now a.at n c.requires) (zero_bytes n)) c.requires
