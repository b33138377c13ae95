-- Too many rows fail, else each is tested.
use native.Mathlib.Omega.{arith}
use Rattle.limits.proofs.Clips.{too_many, few}
use Rattle.limits.proofs.tables.heads_fit.Goals as goal

pub returns-then-heads-le-MOST : goal.returns-then-heads-le-MOST
returns-then-heads-le-MOST c = let h = c.args.heads in few h.kind h.table.bytes.now h.table.rows c.if-heads-le-MOST.true c.fit.ensures

pub returns-else-heads-le-MOST : goal.returns-else-heads-le-MOST
returns-else-heads-le-MOST c = let h = c.args.heads in too_many h.kind h.table.bytes.now h.table.rows (omega arith)
