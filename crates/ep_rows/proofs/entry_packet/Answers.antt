-- `ep_rows::entry_packet` meets its contract: a mask and an OR replace the low bits.
use borrow.Author.Rules.{rules}
use Rattle.format.specs.EntryPoints.{join_packet}
use Rattle.format.proofs.Fields.{replace_low}
use Rattle.ep_rows.proofs.entry_packet.Goals as goal

pub returns : goal.returns
unfolding join_packet
returns c = replace_low c.args.coarse 15 17 c.args.fine (search rules) (search rules)
