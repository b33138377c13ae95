-- Each turn goes from a run whose entries fit to the next.
use mathlib.Core.Path.{◌∙◌}
use native.Mathlib.Omega.{arith}
use Rattle.entry_runs.proofs.Runs.{NextRun, next_run, run_unfit, counted_first, counted_turn, counted_unfit, counted_done}
use Rattle.entry_runs.proofs.count_runs.Goals as goal
use Rattle.entry_runs.proofs.count_runs.Goals.{In_ok-k}

-- the next run begins where this one ends
next : (c : In_ok-k) → let a = c.args in NextRun a.entries.bytes.now a.entries.first a.entries.count a.map_type c.loop-k.k c.in_ok-k.k
next c =
    let a = c.args in
    next_run a.entries.bytes.now a.entries.first a.entries.count a.map_type c.loop-k.k c.loop-k-test.true c.run_end.ensures c.in_ok-k.was

pub loop-k-init : goal.loop-k-init
loop-k-init c = let a = c.args in counted_first a.entries.bytes.now a.entries.first a.entries.count a.map_type

pub returns-in_err-k : goal.returns-in_err-k
returns-in_err-k c =
    let a = c.args in
    c.from_residual.ensures ∙ counted_unfit a.entries.bytes.now a.entries.first a.entries.count a.map_type c.loop-k.count c.loop-k.k c.loop-k.invariant (run_unfit a.entries.bytes.now a.entries.first a.entries.count a.map_type c.loop-k.k c.loop-k-test.true c.run_end.ensures c.in_err-k.was)

pub loop-k-smaller : goal.loop-k-smaller
loop-k-smaller c = omega (arith, (next (goal.at.loop-k-smaller c).In_ok-k).past)

pub loop-k-preserved : goal.loop-k-preserved
loop-k-preserved c =
    let a = c.args in
    counted_turn a.entries.bytes.now a.entries.first a.entries.count a.map_type c.loop-k.count c.loop-k.k c.loop-k.invariant (next (goal.at.loop-k-preserved c).In_ok-k)

pub returns : goal.returns
returns c =
    let a = c.args in
    let l = c.loop-k in
    counted_done a.entries.bytes.now a.entries.first a.entries.count a.map_type l.count l.k l.invariant c.loop-k-test.false
