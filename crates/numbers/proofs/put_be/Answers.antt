-- The last N of the number's eight bytes are put in place of as many.
use mathlib.Core.Path.{◌∙◌}
use Rattle.numbers.proofs.Laws.{last_bytes, bytes_stored}
use Rattle.numbers.proofs.put_be.Goals as goal

pub returns : goal.returns
returns g c =
    let a = c.args in
    let n = g.row.N in
    bytes_stored a.out.now a.at n a.v (c.copy_from_slice.ensures.after ∙ last_bytes n a.v c.requires.1 c.to_be_bytes.ensures) c.requires.0
