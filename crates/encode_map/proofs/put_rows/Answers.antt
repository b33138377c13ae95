-- Each turn stores the rows of one entry below those of the entries behind it.
use Prim.Native.Nat.{◌+◌, ◌*◌, ◌-◌, ◌^◌, ◌<◌, ◌≤◌}
use mathlib.Core.Path.{◌≡◌, refl}
use native.Mathlib.Omega.{arith}
use lib.ListN.{length}
use Rattle.format.specs.ClipRecord.{entry_size}
use Rattle.entry_rows.specs.Reads.{EntryIs}
use Rattle.encode_map.proofs.Bodies.{stored_empty, turning_first, turning_room, turning_next, first_is, first_room, first_stored, entry_narrow, fine_put, row_fits}
use Rattle.encode_map.proofs.put_rows.Goals as goal
use Rattle.encode_map.proofs.put_rows.Goals.{In-loop-k, After-loop-k}

-- within the loop the entry's fine row lies inside the output
fine-there : (c : In-loop-k) → c.args.fine + 4 * (c.loop-k.k - 1) + 4 ≤ length c.loop-k.out
fine-there c = omega (arith, c.requires.room, c.loop-k.invariant.stored.within, c.loop-k.invariant.stored.long)

pub returns-then-n-eq0 : goal.returns-then-n-eq0
returns-then-n-eq0 c = let a = c.args in let r = stored_empty a.entries.bytes.now a.entries.first a.entries.count a.out.now a.fine c.if-n-eq0.true in record { n_value = r.0; out_after = r.1 }

-- the entry's numbers are narrow
narrow : (c : In-loop-k) → let e = c.loop-k.entry in (e.angle < 2 ^ 1) × (e.i_end < 2 ^ 3) × (e.time < 2 ^ 33)
narrow c =
    let a = c.args in
    let l = c.loop-k in
    entry_narrow a.entries.bytes.now (a.entries.first + entry_size * (l.k - 1)) c.requires.fit.type (row_fits a.entries.bytes.now a.entries.first a.entries.count (l.k - 1) c.requires.fit l.invariant.stored.within) l.invariant.is

-- behind the loop the first entry is left
some : (c : After-loop-k) → 0 < c.args.entries.count
some c = omega (arith, c.loop-k.invariant.stored.within)

last : (c : After-loop-k) → c.loop-k.k - 1 ≡ 0
last c = omega (arith, c.loop-k-test.false)

-- it is at hand
first_at : (c : After-loop-k) → let a = c.args in EntryIs a.entries.bytes.now a.entries.first c.loop-k.entry
first_at c = let a = c.args in let l = c.loop-k in first_is a.entries.bytes.now a.entries.first a.entries.count a.out.now a.fine (some c) l.out l.to (l.k - 1) l.entry l.invariant (last c)

-- narrow too
first_narrow : (c : After-loop-k) → let e = c.loop-k.entry in (e.angle < 2 ^ 1) × (e.i_end < 2 ^ 3) × (e.time < 2 ^ 33)
first_narrow c =
    let a = c.args in
    let first : a.entries.first + entry_size * 0 ≡ a.entries.first = omega arith in
    entry_narrow a.entries.bytes.now a.entries.first c.requires.fit.type (rw first at (row_fits a.entries.bytes.now a.entries.first a.entries.count 0 c.requires.fit (some c))) (first_at c)

-- there is room for its coarse row
deep : (c : After-loop-k) → 8 ≤ c.loop-k.to
deep c = let a = c.args in let l = c.loop-k in first_room a.entries.bytes.now a.entries.first a.entries.count a.out.now a.fine (some c) l.out l.to (l.k - 1) l.entry l.invariant (last c) c.requires.below

pub loop-k-init : goal.loop-k-init
loop-k-init c =
    let a = c.args in
    turning_first a.entries.bytes.now a.entries.first a.entries.count a.out.now a.fine (a.entries.count - 1) (omega (arith, c.if-n-eq0.false)) refl c.entry-entry.ensures

pub put_fine_row-requires : goal.put_fine_row-requires
put_fine_row-requires c = let p = (goal.at.put_fine_row-requires c).In-loop-k in let n = narrow p in (n.0, n.1, fine-there p)

pub put_coarse-to-requires : goal.put_coarse-to-requires
put_coarse-to-requires c =
    let a = c.args in
    let l = c.loop-k in
    record {
      few = omega (arith, c.requires.few, l.invariant.stored.within);
      narrow = (narrow (goal.at.put_coarse-to-requires c).In-loop-k).2;
      below = turning_room a.entries.bytes.now a.entries.first a.entries.count a.out.now a.fine l.out l.to (l.k - 1) l.entry l.invariant (omega (arith, c.loop-k-test.true)) c.entry-before.ensures c.requires.below;
      room = omega (arith, c.requires.room, l.invariant.stored.place, l.invariant.stored.long, c.put_fine_row.auto);
    }

pub loop-k-preserved : goal.loop-k-preserved
loop-k-preserved c =
    let a = c.args in
    let l = c.loop-k in
    let put = c.put_coarse-to.ensures in
    let fine = fine_put a.entries.bytes.now (a.entries.first + entry_size * (l.k - 1)) l.entry l.out (a.fine + 4 * (l.k - 1)) l.invariant.is c.put_fine_row.ensures in
    turning_next a.entries.bytes.now a.entries.first a.entries.count a.out.now a.fine l.out l.to (l.k - 1) l.entry l.invariant (omega (arith, c.loop-k-test.true)) c.entry-before.ensures fine put.value put.out_after

pub overflow_sub-to : goal.overflow_sub-to
overflow_sub-to c = deep (goal.at.overflow_sub-to c).After-loop-k

pub put_coarse_row-requires : goal.put_coarse_row-requires
put_coarse_row-requires c =
    let l = c.loop-k in
    let p = (goal.at.put_coarse_row-requires c).After-loop-k in
    (omega arith, (first_narrow p).2, omega (arith, deep p, c.requires.room, l.invariant.stored.place, l.invariant.stored.long, c.put_fine_row-2.auto))

pub overflow_sub-result : goal.overflow_sub-result
overflow_sub-result c = deep (goal.at.overflow_sub-result c).After-loop-k

pub returns : goal.returns
returns c =
    let a = c.args in
    let l = c.loop-k in
    let p = (goal.at.returns c).After-loop-k in
    let fine = fine_put a.entries.bytes.now a.entries.first l.entry l.out a.fine (first_at p) c.put_fine_row-2.ensures in
    let r = first_stored a.entries.bytes.now a.entries.first a.entries.count a.out.now a.fine (some p) l.out l.to (l.k - 1) l.entry l.invariant (last p) c.requires.below fine c.put_coarse_row.ensures in
    record { n_value = r.0; out_after = r.1 }
