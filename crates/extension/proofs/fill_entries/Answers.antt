-- After each turn what is left, put behind what is stored, gives the whole.
use Prim.Native.Nat.{◌+◌, ◌*◌}
use mathlib.Core.Path.{◌≡◌}
use native.Mathlib.Omega.{arith}
use Rattle.std.specs.Prelude.{Some, None}
use Rattle.extension.proofs.Laws.{room_stored, one_stored, none_put, one_put, entry_size_lem}
use Rattle.extension.proofs.fill_entries.Goals as goal
use Rattle.extension.proofs.fill_entries.Goals.{in-Some, in_default}

pub put_row-requires : goal.put_row-requires
put_row-requires c =
    let a = c.args in
    let e = c.in-Some.entry in
    let room = room_stored a.file.now a.start a.head.n (Some e) c.loop-k-test.true c.in-Some.ensures c.loop-k.invariant in
    (omega arith, omega (arith, room, entry_size_lem e))

pub loop-k-preserved : goal.loop-k-preserved
loop-k-preserved c =
    let a = c.args in
    let l = c.loop-k in
    let f = a.file.now in
    let next : a.start + 12 + 12 * (l.k + 1) ≡ a.start + 12 + 12 * l.k + 12 = omega arith in
    elim c.match-entry_at.branch [
      | in-Some w ↦
          let e = w.in-Some.entry in
          rw (next, w.table-is, w.at-is)
          (one_stored f a.start a.head.n (Some e) c.loop-k-test.true w.in-Some.ensures l.invariant (one_put e l.at l.table w.put_row.ensures))
      | in_default w ↦
          rw (next, w.table-is, w.at-is) (one_stored f a.start a.head.n None c.loop-k-test.true w.in_default.ensures l.invariant (none_put l.at l.table))
    ]
