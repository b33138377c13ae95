-- Three fields, one behind the other.
use Rattle.map_rows.proofs.Puts.{header_stored}
use Rattle.map_rows.proofs.put_header.Goals as goal

pub returns : goal.returns
returns c =
    let a = c.args in
    header_stored a.out.now a.at a.pid a.header.ep_stream_type a.header.num_coarse a.header.num_fine a.address c.requires.0 c.requires.1 c.requires.2
    c.map_header_word.ensures c.put_u32.ensures c.put_be.ensures c.put_u32-2.ensures
