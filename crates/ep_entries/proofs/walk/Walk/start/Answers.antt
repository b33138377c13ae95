-- The walk at the first row, or with no rows.
use mathlib.Core.Path.{refl}
use native.Mathlib.Omega.{arith}
use Rattle.ep_entries.proofs.Walks.{walk_first, walk_none}
use Rattle.ep_entries.proofs.walk.Walk.start.Goals as goal

pub returns-then-m-eq0 : goal.returns-then-m-eq0
returns-then-m-eq0 c =
    let m = c.args.m in
    walk_none c.args.file.now m.coarse m.num_coarse m.num_fine _ c.if-m-eq0.true (omega arith) refl

pub returns : goal.returns
returns c =
    let m = c.args.m in
    rw c.at_row.ensures (walk_first c.args.file.now m.coarse m.num_coarse m.num_fine (omega arith) (omega arith))
