-- The three cells are the map's PID, type and count of entries.
use Rattle.text_lines.proofs.Laws.{in_as}
use Rattle.listing.proofs.Laws.{map_line_lem}
use Rattle.listing.proofs.put_map.Goals as goal

pub returns : goal.returns
returns c =
    let a = c.args in
    in_as (map_line_lem a.maps.now a.row c.cell_at-pid.ensures c.cell_at-kind.ensures c.cell_at-count.ensures) c.put_line.ensures
