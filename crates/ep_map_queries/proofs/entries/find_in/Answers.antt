-- The closure tells the time of each of the map's own entries.
use Prim.Native.Nat.{◌+◌, ◌*◌}
use mathlib.Core.Path.{◌≡◌, ap, ◌∙◌}
use Rattle.std.proofs.Common.{rules}
use Rattle.format.specs.ClipRecord.{Row, time, entry_cells, entry_size}
use Rattle.format.specs.Tables.{cells_at}
use Rattle.nearest.proofs.Steps.{times_told}
use Rattle.entry_rows.specs.Entries.{rows_in}
use Rattle.entry_rows.proofs.Laws.{entries_length, entry_is}
use Rattle.ep_map_queries.proofs.entries.find_in.Goals as goal

pub returns : goal.returns
returns c =
    let es = c.args.entries in
    c.nearest_row.ensures _ (times_told (rows_in es) (entries_length es.bytes.now es.first es.count)
    (λ k x h p. let told : x ≡ time (cells_at es.bytes.now entry_cells (es.first + entry_size * k)) = search rules in told ∙ ap (λ (r : Row). time r) (entry_is es.bytes.now es.first es.count k h)))
