-- Each fine row that is in the run is passed, the first before the loop.
use native.Mathlib.Omega.{arith}
use Rattle.map_runs.proofs.Turns.{going_first, going_on, going_stop}
use Rattle.map_runs.proofs.walked.first_outside.Goals as goal

pub returns-then-not-in_run : goal.returns-then-not-in_run
returns-then-not-in_run c =
    let a = c.args in
    going_stop a.file.now a.m a.from a.end a.w c.requires a.first a.from (omega arith) c.requires.some (going_first a.file.now a.m a.from a.end a.w c.requires a.first) c.in_run.ensures c.if-not-in_run.true

pub returns-then-not-in_run-2 : goal.returns-then-not-in_run-2
returns-then-not-in_run-2 c =
    let a = c.args in
    let l = c.loop-k in
    going_stop a.file.now a.m a.from a.end a.w c.requires a.first l.k l.invariant.0 c.loop-k-test.true l.invariant.2 c.in_run-in-loop-k.ensures c.if-not-in_run-2.true

pub loop-k-init : goal.loop-k-init
loop-k-init c =
    let a = c.args in
    (omega arith, omega (arith, c.requires.some), going_on a.file.now a.m a.from a.end a.w c.requires a.first a.from (omega arith) c.requires.some (going_first a.file.now a.m a.from a.end a.w c.requires a.first) c.in_run.ensures c.if-not-in_run.false)

pub loop-k-preserved : goal.loop-k-preserved
loop-k-preserved c =
    let a = c.args in
    let l = c.loop-k in (
      omega (arith, l.invariant.0),
      omega (arith, c.loop-k-test.true),
      going_on a.file.now a.m a.from a.end a.w c.requires a.first l.k l.invariant.0 c.loop-k-test.true l.invariant.2 c.in_run-in-loop-k.ensures c.if-not-in_run-2.false,
    )
