-- The walk reaches the coarse row of fine row k, and the row's word is joined with it.
use Rattle.map_runs.proofs.Turns.{met_is}
use Rattle.map_runs.proofs.walked.meet.Goals as goal

pub returns : goal.returns
returns c =
    let a = c.args in
    met_is a.file.now a.m a.k a.from c.u32_at.result c.reach-walk.result c.join-entry.result c.requires c.reach-walk.ensures c.u32_at.ensures.same c.join-entry.ensures
