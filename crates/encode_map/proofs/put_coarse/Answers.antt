-- In the run of the entry before it an entry has no coarse row, else one.
use Rattle.format.specs.Rewriting.{coarse_by}
use Prim.Native.Nat.{◌≤◌}
use mathlib.Core.Path.{◌≡◌}
use mathlib.Core.List.{[], ◌∷◌}
use native.Mathlib.Omega.{arith}
use Rattle.encode_map.specs.Bodies.{own_by}
use Rattle.encode_map.proofs.Bodies.{own_none, own_one, own_kept, own_stored}
use Rattle.encode_map.proofs.put_coarse.Goals as goal

pub returns-then-same_run : goal.returns-then-same_run
returns-then-same_run c =
    let a = c.args in
    let r = own_kept (own_by a.k a.before a.entry) a.out.now a.to (own_none a.k a.before a.entry c.same_run.ensures c.if-same_run.true) in record { value = r.0; out_after = r.1 }

pub overflow_sub-to : goal.overflow_sub-to
overflow_sub-to c =
    let one : own_by c.args.k c.args.before c.args.entry ≡ coarse_by c.args.k c.args.entry.time c.args.entry.packet ∷ [] = let a = c.args in own_one a.k a.before a.entry c.same_run.ensures c.if-same_run.false in
    let deep : 8 ≤ c.args.to = let below = rw one at c.requires.below in omega arith in
    deep

pub put_coarse_row-requires : goal.put_coarse_row-requires
put_coarse_row-requires c =
    let one : own_by c.args.k c.args.before c.args.entry ≡ coarse_by c.args.k c.args.entry.time c.args.entry.packet ∷ [] = let a = c.args in own_one a.k a.before a.entry c.same_run.ensures c.if-same_run.false in
    let deep : 8 ≤ c.args.to = let below = rw one at c.requires.below in omega arith in
    (omega (arith, c.requires.few), c.requires.narrow, omega (arith, deep, c.requires.room))

pub overflow_sub-result : goal.overflow_sub-result
overflow_sub-result c =
    let one : own_by c.args.k c.args.before c.args.entry ≡ coarse_by c.args.k c.args.entry.time c.args.entry.packet ∷ [] = let a = c.args in own_one a.k a.before a.entry c.same_run.ensures c.if-same_run.false in
    let deep : 8 ≤ c.args.to = let below = rw one at c.requires.below in omega arith in
    deep

pub returns : goal.returns
returns c =
    let one : own_by c.args.k c.args.before c.args.entry ≡ coarse_by c.args.k c.args.entry.time c.args.entry.packet ∷ [] = let a = c.args in own_one a.k a.before a.entry c.same_run.ensures c.if-same_run.false in
    let deep : 8 ≤ c.args.to = let below = rw one at c.requires.below in omega arith in
    let a = c.args in
    let r = own_stored (own_by a.k a.before a.entry) (coarse_by a.k a.entry.time a.entry.packet) a.out.now a.to one deep c.put_coarse_row.ensures in record { value = r.0; out_after = r.1 }
