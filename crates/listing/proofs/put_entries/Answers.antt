-- Each turn adds the next entry's line.
use mathlib.Core.Path.{◌≡◌}
use native.Mathlib.Omega.{arith}
use Rattle.text_lines.proofs.Laws.{in_then, in_as, in_room}
use Rattle.listing.proofs.Laws.{entries_more}
use Rattle.listing.proofs.put_entries.Goals as goal

pub put_entry-requires : goal.put_entry-requires
put_entry-requires c =
    let l = c.loop-k in
    let so-far = l.invariant in
    (omega arith, c.requires.2.narrow l.k c.loop-k-test.true, omega (arith, so-far.short, so-far.text.size))

pub loop-k-preserved : goal.loop-k-preserved
loop-k-preserved c =
    let a = c.args in
    let l = c.loop-k in
    in_room (omega arith) (in_as (entries_more a.entries.now a.row l.k) (in_then l.invariant c.put_entry.ensures))

pub returns : goal.returns
returns c =
    let e : c.loop-k.k ≡ c.args.count = omega arith in
    rw e at c.loop-k.invariant
