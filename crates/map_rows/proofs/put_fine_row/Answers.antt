-- The fields fit, so their low bits are the fields.
use Rattle.map_rows.proofs.Puts.{fine_stored}
use Rattle.map_rows.proofs.put_fine_row.Goals as goal

pub returns : goal.returns
returns c =
    let a = c.args in
    fine_stored a.out.now a.at a.entry.angle a.entry.i_end a.entry.time a.entry.packet c.requires.0 c.requires.1
    c.fine_time_of.ensures c.fine_packet_of.ensures c.fine_row_word-word.ensures c.put_u32.ensures
