-- Each turn stores a map's row and its entries; what is left goes behind them.
use native.Mathlib.Omega.{arith}
use Rattle.ep_entries.proofs.Bodies.{there, left_map}
use Rattle.cpi_fill.proofs.Filling.{filling_first, map_room, entries_room, filling_next, filling_done}
use Rattle.cpi_fill.proofs.fill.Goals as goal

pub loop-k-init : goal.loop-k-init
loop-k-init c =
    let a = c.args in
    filling_first a.file.now a.start a.count a.maps.now a.entries.now c.requires

pub put_map-requires : goal.put_map-requires
put_map-requires c =
    let a = c.args in
    let more = c.loop-k-test.true in
    (omega (arith, (there a.file.now a.start a.count c.requires.section (omega (arith, more))).headers), map_room c.loop-k.invariant more)

pub put_map_entries-n-requires : goal.put_map_entries-n-requires
put_map_entries-n-requires c =
    let a = c.args in
    let l = c.loop-k in
    let more = c.loop-k-test.true in
    record { map_in_lem = left_map a.file.now a.start a.count l.k more c.requires.section l.invariant.left; fits = entries_room l.invariant more }

pub loop-k-preserved : goal.loop-k-preserved
loop-k-preserved c =
    let l = c.loop-k in
    filling_next l.invariant c.loop-k-test.true c.put_map_entries-n.result c.put_map_entries-n.ensures.value c.put_map.ensures c.put_map_entries-n.ensures.table_after

pub returns : goal.returns
returns c =
    let r = filling_done c.loop-k.invariant c.loop-k-test.false in
    record { maps_after = r.0; entries_after = r.1 }
