-- The header's fields are the map's row.
use Rattle.ep_rows.proofs.Headers.{header_read}
use Rattle.cpi_fill.proofs.Filling.{map_stored}
use Rattle.cpi_fill.proofs.put_map.Goals as goal

pub returns : goal.returns
returns c =
    let a = c.args in
    let f = a.file.now in
    let n = header_read f a.q c.be_at.result c.map_header-header.result c.be_at.ensures.same c.map_header-header.ensures in
    map_stored f a.table.now a.q a.at c.u32_at-pid.result c.map_header-header.result.ep_stream_type c.map_header-header.result.num_fine
    c.u32_at-pid.ensures.same n.0 n.2 c.put_row.ensures
