-- The row that is found is one of the map's own.
use Prim.Native.Nat.{◌<◌}
use mathlib.Core.Path.{◌≡◌, ap, ◌∙◌}
use mathlib.Core.List.{[]}
use lib.ListN.{get_or}
use Rattle.std.proofs.Common.{rules}
use Rattle.format.specs.ClipRecord.{Row, packet}
use Rattle.nearest.proofs.Steps.{row_below}
use Rattle.entry_rows.specs.Entries.{rows_in}
use Rattle.entry_rows.proofs.Laws.{entries_length, entry_is}
use Rattle.ep_map_queries.proofs.entries.seek_in.Goals as goal
use Rattle.ep_map_queries.proofs.entries.seek_in.Goals.{In_ok-row}

-- it is one of theirs
row_there : (c : In_ok-row) → c.in_ok-row.row < c.args.entries.count
row_there c =
    let es = c.args.entries in
    rw (entries_length es.bytes.now es.first es.count) at (row_below c.args.side (rows_in es) c.args.at c.in_ok-row.row c.in_ok-row.ensures)

pub entry-requires : goal.entry-requires
entry-requires c = row_there (goal.at.entry-requires c).In_ok-row

pub returns : goal.returns
returns c =
    let es = c.args.entries in
    let row = c.in_ok-row.row in
    let told : c.entry.result.packet ≡ packet (get_or (rows_in es) row []) = c.entry.ensures.packet_is.same ∙ ap (λ (r : Row). packet r) (entry_is es.bytes.now es.first es.count row (row_there (goal.at.returns c).In_ok-row)) in
    search rules
