-- Entry k of the map stands k places behind its first.
use mathlib.Core.Path.{ap, ◌∙◌}
use Rattle.format.specs.ClipRecord.{Row, time}
use Rattle.entry_rows.proofs.Laws.{entry_is}
use Rattle.ep_map_times.proofs.time_of.Goals as goal

pub returns : goal.returns
returns c =
    let es = c.args.entries in
    ap (λ x. record { ticks = x }) (c.entry.ensures.time_is.same ∙ ap (λ (r : Row). time r) (entry_is es.bytes.now es.first es.count c.args.k c.requires))
