-- Each turn adds the next map's line and those of its own entries.
use mathlib.Core.Path.{◌≡◌, refl}
use native.Mathlib.Omega.{arith}
use Rattle.format.specs.Listing.{map_lines}
use Rattle.text_lines.proofs.Laws.{puts_none, in_then, in_as, in_room}
use Rattle.listing.proofs.Laws.{counts_more, count_is, own_within, maps_more, times_turn}
use Rattle.listing.proofs.put_maps.Goals as goal

pub loop-i-init : goal.loop-i-init
unfolding map_lines
loop-i-init c = (refl, puts_none c.args.text.now)

pub put_map-requires : goal.put_map-requires
put_map-requires c =
    let a = c.args in
    let l = c.loop-i in
    let so-far = l.invariant.1 in
    let own = own_within a.maps.bytes.now l.i a.maps.count a.entries.count l.k c.loop-i-test.true l.invariant.0 c.requires.0 c.cell_at-count.ensures in
    (omega (arith, a.maps.inside), omega (arith, so-far.short, so-far.text.size, c.requires.1))

pub put_entries-requires : goal.put_entries-requires
put_entries-requires c =
    let a = c.args in
    let l = c.loop-i in
    let lines = in_then l.invariant.1 c.put_map.ensures in
    let own = own_within a.maps.bytes.now l.i a.maps.count a.entries.count l.k c.loop-i-test.true l.invariant.0 c.requires.0 c.cell_at-count.ensures in (
      omega (arith, a.entries.inside),
      omega (arith, lines.short, lines.text.size, c.requires.1),
      times_turn a.entries.bytes.now a.entries.count l.k c.cell_at-count.result own c.requires.2,
    )

pub overflow_mul-k : goal.overflow_mul-k
overflow_mul-k c =
    let a = c.args in
    let l = c.loop-i in
    let own = own_within a.maps.bytes.now l.i a.maps.count a.entries.count l.k c.loop-i-test.true l.invariant.0 c.requires.0 c.cell_at-count.ensures in
    record { fits = omega arith }

pub overflow_add-k : goal.overflow_add-k
overflow_add-k c =
    let a = c.args in
    let l = c.loop-i in
    let own = own_within a.maps.bytes.now l.i a.maps.count a.entries.count l.k c.loop-i-test.true l.invariant.0 c.requires.0 c.cell_at-count.ensures in
    record { fits = omega arith }

pub loop-i-preserved : goal.loop-i-preserved
loop-i-preserved c =
    let a = c.args in
    let l = c.loop-i in
    let count = count_is a.maps.bytes.now l.i c.cell_at-count.ensures in
    let own = own_within a.maps.bytes.now l.i a.maps.count a.entries.count l.k c.loop-i-test.true l.invariant.0 c.requires.0 c.cell_at-count.ensures in
    let lines = in_then l.invariant.1 (in_then c.put_map.ensures c.put_entries.ensures) in (
      rw (l.invariant.0, count) (counts_more a.maps.bytes.now l.i),
      in_room (omega arith) (in_as (maps_more a.maps.bytes.now a.entries.bytes.now l.i a.entries.count l.k c.cell_at-count.result l.invariant.0 count own) lines),
    )

pub returns : goal.returns
returns c =
    let a = c.args in
    let e : c.loop-i.i ≡ a.maps.count = omega arith in
    let all = rw e at c.loop-i.invariant in
    in_room (omega (arith, all.0, c.requires.0)) all.1
