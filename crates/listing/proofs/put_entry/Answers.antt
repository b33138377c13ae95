-- The two numbers are the entry's time and packet.
use Rattle.text_lines.proofs.Laws.{in_as}
use Rattle.listing.proofs.Laws.{entry_line}
use Rattle.listing.proofs.put_entry.Goals as goal

pub overflow_cast-time : goal.overflow_cast-time
overflow_cast-time c = record { fits = rw c.at-entry.ensures.time_is.same c.requires.1 }

pub returns : goal.returns
returns c =
    let a = c.args in
    in_as (entry_line a.entries.now a.row c.at-entry.ensures.time_is c.at-entry.ensures.packet_is) c.put_line.ensures
