-- The closure tells the time of each record.
use mathlib.Core.Path.{◌≡◌, ◌∙◌}
use lib.ListN.{get_or, length-map}
use Rattle.std.proofs.Common.{rules}
use Rattle.format.specs.ClipRecord.{time}
use Rattle.nearest.proofs.Steps.{times_told}
use Rattle.ep_entry_steps.specs.Records.{as_row, as_rows, no_entry}
use Rattle.ep_entry_steps.proofs.Laws.{time_at}
use Rattle.ep_entry_steps.proofs.find.Goals as goal

pub returns : goal.returns
returns c =
    let es = c.args.rows.now in
    rw c.from.ensures at (c.nearest_row.ensures _ (times_told (as_rows es) (length-map es as_row) (λ k x h p. let told : x ≡ time (as_row (get_or es k no_entry)) = search rules in told ∙ time_at es k)))
