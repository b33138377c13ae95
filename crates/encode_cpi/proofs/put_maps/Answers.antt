-- Each turn stores one map, whose header and body stand before those of the maps behind it.
use Prim.Native.Nat.{◌+◌, ◌*◌, ◌-◌, ◌<◌, ◌≤◌}
use native.Mathlib.Omega.{arith}
use lib.ListN.{length}
use Rattle.encode_cpi.proofs.Maps.{map_room}
use Rattle.encode_cpi.proofs.Section.{Putting, putting_first, putting_before, row_within, own_there, putting_room, putting_turn, putting_done}
use Rattle.encode_cpi.proofs.put_maps.Goals as goal
use Rattle.encode_cpi.proofs.put_maps.Goals.{In-loop-k}

-- there is a map before those that are stored
less : (c : In-loop-k) → c.loop-k.k - 1 < c.args.maps.rows
less c = omega (arith, c.loop-k-test.true, c.loop-k.invariant.reached.walk.turns)

-- its row is there
row_there : (c : In-loop-k) → 12 * (c.loop-k.k - 1) + 12 ≤ length c.args.maps.bytes.now
row_there c = let a = c.args in map_room a.maps.bytes.now a.maps.rows a.entries.bytes.now a.entries.rows c.requires.rows_there (c.loop-k.k - 1) (less c)

-- what is stored is behind it
stored : (c : In-loop-k) → let a = c.args in let l = c.loop-k in Putting a.maps.bytes.now a.maps.rows a.entries.bytes.now a.entries.rows a.out.now a.at a.end l.out l.body l.row (l.k - 1 + 1)
stored c =
    let a = c.args in
    let l = c.loop-k in
    putting_before a.maps.bytes.now a.maps.rows a.entries.bytes.now a.entries.rows a.out.now a.at a.end l.out l.body l.row l.k l.invariant (omega (arith, c.loop-k-test.true))

pub loop-k-init : goal.loop-k-init
loop-k-init c = let a = c.args in putting_first a.maps.bytes.now a.maps.rows a.entries.bytes.now a.entries.rows a.out.now a.at a.end c.requires.writable

pub overflow_mul-k : goal.overflow_mul-k
overflow_mul-k c = omega (arith, row_there (goal.at.overflow_mul-k c).In-loop-k)

pub overflow_add-k : goal.overflow_add-k
overflow_add-k c = omega (arith, row_there (goal.at.overflow_add-k c).In-loop-k)

pub cell_at-count-requires : goal.cell_at-count-requires
cell_at-count-requires c = omega (arith, row_there (goal.at.cell_at-count-requires c).In-loop-k)

pub overflow_sub-row : goal.overflow_sub-row
overflow_sub-row c =
    let a = c.args in
    let l = c.loop-k in
    let p = (goal.at.overflow_sub-row c).In-loop-k in
    row_within a.maps.bytes.now a.maps.rows a.entries.bytes.now a.entries.rows a.out.now a.at a.end c.requires l.out l.body l.row (l.k - 1) (stored p) (less p) c.cell_at-count.ensures

pub overflow_mul-own : goal.overflow_mul-own
overflow_mul-own c =
    let a = c.args in
    let l = c.loop-k in
    let p = (goal.at.overflow_mul-own c).In-loop-k in
    omega (arith, own_there a.maps.bytes.now a.maps.rows a.entries.bytes.now a.entries.rows a.out.now a.at a.end c.requires l.out l.body l.row (l.k - 1) (stored p) (less p) c.cell_at-count.ensures)

pub invariant_of-own : goal.invariant_of-own
invariant_of-own c =
    let a = c.args in
    let l = c.loop-k in
    let p = (goal.at.invariant_of-own c).In-loop-k in
    record { inside = own_there a.maps.bytes.now a.maps.rows a.entries.bytes.now a.entries.rows a.out.now a.at a.end c.requires l.out l.body l.row (l.k - 1) (stored p) (less p) c.cell_at-count.ensures }

pub put_map-body-requires : goal.put_map-body-requires
put_map-body-requires c =
    let a = c.args in
    let l = c.loop-k in
    let p = (goal.at.put_map-body-requires c).In-loop-k in
    putting_room a.maps.bytes.now a.maps.rows a.entries.bytes.now a.entries.rows a.out.now a.at a.end c.requires l.out l.body l.row (l.k - 1) (stored p) (less p) c.cell_at-count.ensures

pub loop-k-preserved : goal.loop-k-preserved
loop-k-preserved c =
    let a = c.args in
    let l = c.loop-k in
    let p = (goal.at.loop-k-preserved c).In-loop-k in
    putting_turn a.maps.bytes.now a.maps.rows a.entries.bytes.now a.entries.rows a.out.now a.at a.end c.requires l.out l.body l.row (l.k - 1) (stored p) (less p) c.cell_at-count.ensures c.put_map-body.ensures.n_value c.put_map-body.ensures.out_after

pub shape_of-out : goal.shape_of-out
shape_of-out c = c.loop-k.invariant.long

pub returns : goal.returns
returns c =
    let a = c.args in
    let l = c.loop-k in
    putting_done a.maps.bytes.now a.maps.rows a.entries.bytes.now a.entries.rows a.out.now a.at a.end c.requires l.out l.body l.row l.k l.invariant (omega (arith, c.loop-k-test.false))
