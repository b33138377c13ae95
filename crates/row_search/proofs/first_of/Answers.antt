-- Each turn passes a row that fails the test.
use Prim.Native.Nat.{◌<◌, ◌≤◌}
use mathlib.Core.Path.{refl}
use native.Mathlib.Omega.{arith}
use lib.ListN.{length}
use Rattle.row_search.proofs.FirstRow.{no_row, row_is, row_fails}
use Rattle.row_search.proofs.first_of.Goals as goal

pub loop-row-init : goal.loop-row-init
loop-row-init g c = λ test rows n is. refl

pub loop-row-preserved : goal.loop-row-preserved
loop-row-preserved g c = λ test rows n is.
    let within : c.loop-row.row < length rows = omega (arith, c.loop-row-test.true, n) in
    row_fails _ _ test _ within (is _ within _ c.passes.ensures) (c.loop-row.invariant test rows n is) c.if-passes.false

pub returns-then-passes : goal.returns-then-passes
returns-then-passes g c = λ test rows n is.
    let within : c.loop-row.row < length rows = omega (arith, c.loop-row-test.true, n) in
    rw c.from.ensures (row_is _ _ test _ within (is _ within _ c.passes.ensures) (c.loop-row.invariant test rows n is) c.if-passes.true)

pub returns : goal.returns
returns g c = λ test rows n is.
    let all : length rows ≤ c.loop-row.row = omega (arith, c.loop-row-test.false, n) in
    no_row _ _ test _ all (c.loop-row.invariant test rows n is)
