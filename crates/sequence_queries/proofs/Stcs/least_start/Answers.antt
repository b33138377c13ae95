-- Each turn keeps the earlier start.
use Prim.Native.Nat.{◌<◌, ◌≤◌, min}
use mathlib.Core.Path.{◌≡◌, refl}
use native.Mathlib.Omega.{arith}
use lib.ListN.{length}
use Rattle.std.proofs.Common.{rules}
use Rattle.format.specs.Tables.{stc_cells}
use Rattle.format.proofs.Tables.{rows_stated}
use Rattle.ticks.specs.Times.{as45}
use Rattle.sequence_queries.specs.Rows.{stcs_in}
use Rattle.sequence_queries.proofs.Laws.{least_turn, least_done}
use Rattle.sequence_queries.proofs.Stcs.least_start.Goals as goal

pub loop-k-init : goal.loop-k-init
loop-k-init c = refl

pub loop-k-preserved : goal.loop-k-preserved
loop-k-preserved c =
    let within : c.loop-k.k < length (stcs_in c.args.self) = omega (arith, c.loop-k-test.true, rows_stated stc_cells c.args.self.rows.bytes.now c.args.self.rows.count) in
    let earlier : (as45 c.min-least.result).ticks ≡ min (as45 c.loop-k.least).ticks (as45 c.start.result).ticks = search rules in
    least_turn (stcs_in c.args.self) c.loop-k.k (as45 c.loop-k.least) within c.start.ensures earlier c.loop-k.invariant

pub returns : goal.returns
returns c =
    let all : length (stcs_in c.args.self) ≤ c.loop-k.k = omega (arith, c.loop-k-test.false, rows_stated stc_cells c.args.self.rows.bytes.now c.args.self.rows.count) in
    least_done (stcs_in c.args.self) c.loop-k.k (as45 c.loop-k.least) all c.loop-k.invariant
