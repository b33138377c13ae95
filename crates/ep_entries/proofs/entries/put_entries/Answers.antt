-- Each turn stores the entries before the next coarse row's first fine row and steps to that row; those that are left are stored behind the loop.
use Prim.Native.Nat.{◌≤◌}
use native.Mathlib.Omega.{arith}
use Rattle.ep_entries.proofs.Walks.{steps_on, walking_less}
use Rattle.ep_entries.proofs.Joined.{Filled, filled_stretch, filled_step, filled_done}
use Rattle.ep_entries.proofs.entries.put_entries.Goals as goal
use Rattle.ep_entries.proofs.entries.put_entries.Goals.{then-k-w, else-k-w}

pub step-w-requires : goal.step-w-requires
step-w-requires g c =
    let steps = c.loop-w.invariant.walk.steps in
    (steps.room, (steps_on c.args.file.now c.args.m.num_fine c.loop-w.w steps c.loop-w-test.true).0)

pub loop-w-smaller : goal.loop-w-smaller
loop-w-smaller g c =
    walking_less c.args.file.now c.args.m.num_fine c.loop-w.w c.loop-w.invariant.walk.steps c.loop-w-test.true c.step-w.ensures

pub loop-w-preserved : goal.loop-w-preserved
loop-w-preserved g c =
    let a = c.args in
    let f = a.file.now in
    let t₀ = a.out.now in
    let bytes = g.F.EntryForm.bytes in
    let size = g.F.EntryForm.SIZE in
    let long = g.met.F.EntryForm.long in
    let l = c.loop-w in
    let e = l.w.end in
    let met : Filled bytes size f a.m t₀ a.at c.if-k-w.out l.w c.if-k-w.k × (e ≤ c.if-k-w.k) =
    elim c.if-k-w.branch [
      | then-k-w w ↦ (rw (w.out-is, w.k-is) (filled_stretch bytes size f a.m t₀ a.at l.out l.w l.k l.invariant long e (omega arith) (omega arith) (omega (arith, c.loop-w-test.true)) w.put_stretch.auto.out w.put_stretch.ensures), omega arith)
      | else-k-w w ↦ (rw (w.out-is, w.k-is) l.invariant, omega arith)
    ]
    in
    filled_step bytes size f a.m t₀ a.at c.if-k-w.out l.w c.if-k-w.k met.0 met.1 c.loop-w-test.true c.step-w.ensures

pub returns : goal.returns
returns g c =
    let a = c.args in
    let f = a.file.now in
    let t₀ = a.out.now in
    let bytes = g.F.EntryForm.bytes in
    let size = g.F.EntryForm.SIZE in
    let long = g.met.F.EntryForm.long in
    let l = c.loop-w in
    let n = a.m.num_fine in
    let p = c.put_stretch-2 in
    filled_done bytes size f a.m t₀ a.at p.new.out l.w
    (filled_stretch bytes size f a.m t₀ a.at l.out l.w l.k l.invariant long n l.invariant.within c.loop-w-test.false (omega arith) p.auto.out p.ensures)
