-- The packet is sought in the primary map; without maps there must be no entries.
use Prim.Native.Nat.{◌<◌}
use mathlib.Core.Path.{◌≡◌, ap, ◌∙◌}
use native.Mathlib.Omega.{arith}
use Rattle.format.specs.Questions.{primary_video_ep_map, number, ask}
use Rattle.format.specs.Tables.{stated}
use Rattle.queries.specs.Answers.{found_of}
use Rattle.queries.specs.Asked.{only_maps}
use Rattle.queries.proofs.Asking.{passed_on}
use Rattle.cpi_queries.proofs.Choice.{not_there, no_maps_refused, no_maps_none, map_below, sought}
use Rattle.cpi_queries.proofs.primary_seek.Goals as goal

pub returns-in_err-row : goal.returns-in_err-row
returns-in_err-row c =
    let a = c.args in
    ap found_of (passed_on c.from_residual.result c.from_residual.ensures.1)
    ∙ not_there a.side a.at.0 (stated a.maps.bytes.now a.maps.rows) (stated a.entries.bytes.now a.entries.rows) c.in_err-row.ensures

pub overflow_cast-row : goal.overflow_cast-row
overflow_cast-row c =
    let a = c.args in
    let found : number c.in-Some.row ≡ ask primary_video_ep_map (only_maps (stated a.maps.bytes.now a.maps.rows)) = rw c.in-Some.is at c.in_ok-row.ensures in
    let below : c.in-Some.row < a.maps.rows = map_below a.side a.at.0 (stated a.maps.bytes.now a.maps.rows) (stated a.entries.bytes.now a.entries.rows) found in
    record { fits = omega arith }

pub returns-in-Some : goal.returns-in-Some
returns-in-Some c =
    let a = c.args in
    c.seek.ensures ∙ sought a.side a.at.0 (stated a.maps.bytes.now a.maps.rows) (stated a.entries.bytes.now a.entries.rows) (rw c.in-Some.is at c.in_ok-row.ensures)

pub returns-in-None : goal.returns-in-None
returns-in-None c =
    let a = c.args in
    no_maps_refused a.side a.at.0 (stated a.maps.bytes.now a.maps.rows) (stated a.entries.bytes.now a.entries.rows) (rw c.in-None.is at c.in_ok-row.ensures) c.if-entries-ne0.true

pub returns-in-None-2 : goal.returns-in-None-2
returns-in-None-2 c =
    let a = c.args in
    no_maps_none a.side a.at.0 (stated a.maps.bytes.now a.maps.rows) (stated a.entries.bytes.now a.entries.rows) (rw c.in-None.is at c.in_ok-row.ensures) c.if-entries-ne0.false
