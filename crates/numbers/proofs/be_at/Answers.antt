-- The bytes behind zeros are one number of eight bytes.
use Rattle.numbers.proofs.Wide.{number_read}
use Rattle.numbers.proofs.be_at.Goals as goal

pub returns : goal.returns
returns g c =
    let a = c.args in
    number_read a.s.now (λ i. (c.type_inv.s i).fits) a.at g.row.N c.requires.1 c.requires.0 c.copy_from_slice.ensures.after c.from_be_bytes.ensures
