-- Four fields, one behind the other.
use Rattle.encode_cpi.proofs.Section.{top_stored}
use Rattle.encode_cpi.proofs.put_top.Goals as goal

pub returns : goal.returns
returns c =
    let a = c.args in
    top_stored a.out.now a.at a.behind a.n c.put_u32.ensures c.put_u32-2.ensures c.put_u32-3.ensures c.put_u32-4.ensures
