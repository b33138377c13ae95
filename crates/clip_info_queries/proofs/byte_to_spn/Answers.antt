-- The quotient is below the count or not.
use Rattle.clip_info_queries.proofs.Laws.{spn_told}
use Rattle.clip_info_queries.proofs.byte_to_spn.Goals as goal

pub returns : goal.returns
returns c = spn_told c.args.packets c.args.byte (rw c.from.ensures at c.then_some.ensures)
