-- The packets times the bytes of one.
use Rattle.clip_info_queries.proofs.Laws.{len_is}
use Rattle.clip_info_queries.proofs.clip_byte_len.Goals as goal

pub returns : goal.returns
returns c = rw c.from.ensures (len_is c.args.packets)
