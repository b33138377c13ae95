-- Each turn keeps the later end.
use Prim.Native.Nat.{◌<◌, ◌≤◌, max}
use mathlib.Core.Path.{◌≡◌}
use native.Mathlib.Omega.{arith}
use lib.ListN.{length}
use Rattle.std.proofs.Common.{rules}
use Rattle.format.specs.Tables.{stc_cells}
use Rattle.format.proofs.Tables.{rows_stated}
use Rattle.ticks.specs.Times.{as45}
use Rattle.sequence_queries.specs.Rows.{stcs_in}
use Rattle.sequence_queries.proofs.Laws.{latest_first, latest_turn, latest_done}
use Rattle.sequence_queries.proofs.Stcs.latest_end.Goals as goal

pub loop-k-init : goal.loop-k-init
loop-k-init c = latest_first (stcs_in c.args.self)

pub loop-k-preserved : goal.loop-k-preserved
loop-k-preserved c =
    let within : c.loop-k.k < length (stcs_in c.args.self) = omega (arith, c.loop-k-test.true, rows_stated stc_cells c.args.self.rows.bytes.now c.args.self.rows.count) in
    let later : (as45 c.max-latest.result).ticks ≡ max (as45 c.loop-k.latest).ticks (as45 c.end.result).ticks = search rules in
    latest_turn (stcs_in c.args.self) c.loop-k.k (as45 c.loop-k.latest) within c.end.ensures later c.loop-k.invariant

pub returns : goal.returns
returns c =
    let all : length (stcs_in c.args.self) ≤ c.loop-k.k = omega (arith, c.loop-k-test.false, rows_stated stc_cells c.args.self.rows.bytes.now c.args.self.rows.count) in
    latest_done (stcs_in c.args.self) c.loop-k.k (as45 c.loop-k.latest) all c.loop-k.invariant
