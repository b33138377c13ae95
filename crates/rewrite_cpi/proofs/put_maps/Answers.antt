-- Each turn stores a map's body and header; what is left goes behind them.
use Rattle.rewrite_cpi.proofs.Sections.{putting_first, putting_room, putting_turn, putting_done}
use Rattle.rewrite_cpi.proofs.put_maps.Goals as goal

pub loop-k-init : goal.loop-k-init
loop-k-init c =
    let a = c.args in
    putting_first a.file.now a.from.file a.count a.out.now a.from.out c.requires

pub put_map-body-requires : goal.put_map-body-requires
put_map-body-requires c =
    let a = c.args in
    let l = c.loop-k in
    putting_room a.file.now a.from.file a.count a.out.now a.from.out c.requires l.out l.body l.k l.invariant c.loop-k-test.true

pub loop-k-preserved : goal.loop-k-preserved
loop-k-preserved c =
    let a = c.args in
    let l = c.loop-k in
    putting_turn a.file.now a.from.file a.count a.out.now a.from.out c.requires l.out l.body l.k l.invariant c.loop-k-test.true c.put_map-body.ensures.value c.put_map-body.ensures.out_after

pub returns : goal.returns
returns c =
    let a = c.args in
    let l = c.loop-k in
    let r = putting_done a.file.now a.from.file a.count a.out.now a.from.out c.requires l.out l.body l.k l.invariant c.loop-k-test.false in
    record { value = r.0; out_after = r.1 }
