-- The packet number is within the count or not.
use Rattle.clip_info_queries.proofs.Laws.{byte_told}
use Rattle.clip_info_queries.proofs.spn_to_byte.Goals as goal

pub returns : goal.returns
returns c = byte_told c.args.packets c.args.spn (rw c.from.ensures at c.then_some.ensures)
