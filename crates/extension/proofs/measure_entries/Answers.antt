-- After each turn what is counted and found, with what is left, is the whole.
use Prim.Native.Nat.{◌+◌, ◌*◌}
use mathlib.Core.Path.{◌≡◌, ap, ◌∙◌}
use native.Mathlib.Omega.{arith}
use Rattle.std.specs.Option.{option_or}
use Rattle.extension.proofs.Laws.{kept_counted, left_counted, all_counted}
use Rattle.extension.proofs.measure_entries.Goals as goal
use Rattle.extension.proofs.measure_entries.Goals.{in-Some, in_default}

pub loop-k-preserved : goal.loop-k-preserved
loop-k-preserved c =
    let a = c.args in
    let l = c.loop-k in
    let f = a.file.now in
    let next : a.start + 12 + 12 * (l.k + 1) ≡ a.start + 12 + 12 * l.k + 12 = omega arith in
    elim c.match-entry_at.branch [
      | in-Some w ↦
          rw (next, w.rows-is, w.list-is)
          (kept_counted f a.start a.head.n w.in-Some.entry c.loop-k-test.true w.in-Some.ensures (w.or-list.ensures ∙ ap (option_or l.list) w.list_of.ensures) l.invariant)
      | in_default w ↦ rw (next, w.rows-is, w.list-is) (left_counted f a.start a.head.n c.loop-k-test.true w.in_default.ensures l.invariant)
    ]

pub returns : goal.returns
returns c = all_counted c.args.file.now c.args.start c.args.head.n c.loop-k-test.false c.requires.few c.loop-k.invariant
