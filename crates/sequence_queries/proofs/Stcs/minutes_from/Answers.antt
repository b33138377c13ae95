-- What is left of the STC is added up first, then each turn adds the duration of a later one.
use Prim.Native.Nat.{◌^◌, ◌<◌, ◌≤◌}
use native.Mathlib.Omega.{arith}
use lib.ListN.{length}
use Rattle.format.specs.Tables.{stc_cells}
use Rattle.format.proofs.Tables.{rows_stated}
use Rattle.ticks.specs.Times.{as45, as90}
use Rattle.sequence_queries.specs.Rows.{stcs_in}
use Rattle.sequence_queries.proofs.Laws.{added_first, few_minutes, added_turn, added_done}
use Rattle.sequence_queries.proofs.Stcs.minutes_from.Goals as goal

pub loop-k-init : goal.loop-k-init
loop-k-init c =
    let left-fits : (as90 c.left.result).ticks < 2 ^ 64 = c.left.type_inv.1.1.0.1 in
    added_first (stcs_in c.args.self) c.args.stc (as90 c.args.at) c.none.ensures c.left.ensures left-fits c.plus-left.ensures

pub plus-left-requires-in-loop-k : goal.plus-left-requires-in-loop-k
plus-left-requires-in-loop-k c = few_minutes (stcs_in c.args.self) (omega arith) c.loop-k.invariant

pub loop-k-preserved : goal.loop-k-preserved
loop-k-preserved c =
    let within : c.loop-k.k < length (stcs_in c.args.self) = omega (arith, c.loop-k-test.true, rows_stated stc_cells c.args.self.rows.bytes.now c.args.self.rows.count) in
    let duration-fits : (as45 c.duration.result).ticks < 2 ^ 32 = c.duration.type_inv.1.1.0.1 in
    added_turn (stcs_in c.args.self) _ c.loop-k.k within c.duration.ensures duration-fits c.doubled.ensures c.plus-left-in-loop-k.ensures c.loop-k.invariant

pub returns : goal.returns
returns c =
    let all : length (stcs_in c.args.self) ≤ c.loop-k.k = omega (arith, c.loop-k-test.false, rows_stated stc_cells c.args.self.rows.bytes.now c.args.self.rows.count) in
    added_done (stcs_in c.args.self) c.loop-k.k c.args.stc (as90 c.args.at) all c.loop-k.invariant
