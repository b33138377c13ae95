-- Each turn adds a header row's count.
use Prim.Native.Nat.{◌<◌, ◌≤◌}
use native.Mathlib.Omega.{arith}
use lib.ListN.{length}
use Rattle.format.proofs.Tables.{rows_stated}
use Rattle.table_rows.specs.AllRows.{rows_in}
use Rattle.table_rows.specs.OwnRows.{head_cells}
use Rattle.table_rows.proofs.OwnRows.{sum_first, sum_turn, sum_done}
use Rattle.table_rows.proofs.own.count_rows.Goals as goal

pub loop-k-init : goal.loop-k-init
loop-k-init c = sum_first _ _

pub overflow_add-sum : goal.overflow_add-sum
overflow_add-sum c = record { fits = omega (arith, c.loop-k.invariant.small) }

pub loop-k-preserved : goal.loop-k-preserved
loop-k-preserved c =
    let within : c.loop-k.k < length (rows_in c.args.heads) = omega (arith, c.loop-k-test.true, rows_stated head_cells c.args.heads.bytes.now c.args.heads.count) in
    rw c.from-sum.ensures (sum_turn _ _ _ _ within c.cell.ensures c.cell.type_inv c.loop-k.invariant)

pub returns : goal.returns
returns c =
    let all : length (rows_in c.args.heads) ≤ c.loop-k.k = omega (arith, c.loop-k-test.false, rows_stated head_cells c.args.heads.bytes.now c.args.heads.count) in
    sum_done _ _ _ _ all c.loop-k.invariant
