-- The row at p, and the first fine row of the one behind it.
use Rattle.ep_entries.proofs.Walks.{coarse_read, walk_is}
use Rattle.ep_entries.proofs.walk.at_row.Goals as goal

pub returns : goal.returns
returns c =
    let f = c.args.file.now in
    let r = coarse_read f c.args.p c.be_at.result c.coarse_row-row.result c.be_at.ensures.same c.coarse_row-row.ensures in
    walk_is f c.args.p c.args.n c.args.last c.next_first-end.result c.coarse_row-row.result r c.next_first-end.ensures
