-- Each turn adds the length of one row.
use Prim.Native.Nat.{◌+◌, ◌*◌, ◌≤◌}
use mathlib.Core.Path.{◌≡◌}
use native.Mathlib.Omega.{arith}
use lib.ListN.{length}
use Rattle.format.specs.Bytes.{end_of}
use Rattle.format.specs.Tables.{cells_at, table_rows_of}
use Rattle.format.proofs.Rows.{rest_all}
use Rattle.row_values.specs.Kinds.{cells_of, bytes_by}
use Rattle.row_bytes.proofs.Storing.{row_added, rows_added}
use Rattle.encode_rows.specs.Rows.{step_of, rows_bytes}
use Rattle.encode_rows.proofs.Rows.{rows_inside, pass_first, row_inside, pass_turn, same_length, few_bytes}
use Rattle.encode_rows.proofs.rows_length.Goals as goal
use Rattle.encode_rows.proofs.rows_length.Goals.{In-loop-k}

-- the rows end inside the table
ends : (c : In-loop-k) → let a = c.args in end_of (step_of a.kind) 0 a.table.rows ≤ length a.table.bytes.now
ends c = let a = c.args in rows_inside a.kind a.table.bytes.now a.table.rows c.requires

-- so does the next one
inside : (c : In-loop-k) → let a = c.args in 4 * c.cells_of-step.result * c.loop-k.k + 4 * cells_of a.kind ≤ length a.table.bytes.now
inside c = row_inside c.args.kind c.loop-k.invariant.0 c.loop-k-test.true (ends c)

pub loop-k-init : goal.loop-k-init
loop-k-init c =
    let a = c.args in
    let t = a.table.bytes.now in
    let start : 4 * c.cells_of-step.result * 0 ≡ 0 = omega arith in
    (rw start (pass_first a.kind t 0 a.table.rows (rows_inside a.kind t a.table.rows c.requires)), omega arith, rw (start, rest_all (cells_at t (cells_of a.kind)) (step_of a.kind) 0 a.table.rows) (omega arith))

pub overflow_add-sum : goal.overflow_add-sum
overflow_add-sum c =
    let l = c.loop-k in
    record { fits = omega (arith, l.invariant.1, c.loop-k-test.true, few_bytes c.args.kind c.table_row.result c.table_row.ensures c.row_length-sum.ensures) }

pub loop-k-preserved : goal.loop-k-preserved
loop-k-preserved c =
    let a = c.args in
    let l = c.loop-k in
    let row = c.table_row in
    let more = c.loop-k-test.true in
    let step = 4 * c.cells_of-step.result in
    let next : step * (l.k + 1) ≡ step_of a.kind (step * l.k) = omega (arith, c.cells_of-step.ensures) in
    let long = same_length a.kind row.result row.ensures c.row_length-sum.ensures in
    let few = few_bytes a.kind row.result row.ensures c.row_length-sum.ensures in
    (pass_turn a.kind l.invariant.0 more (ends (goal.at.loop-k-preserved c).In-loop-k) next, omega (arith, l.invariant.1, few), row_added (cells_at a.table.bytes.now (cells_of a.kind)) (step_of a.kind) (bytes_by a.kind) (length (rows_bytes a.kind a.table.bytes.now 0 a.table.rows)) l.sum (step * l.k) a.table.rows l.k l.invariant.2 more long next)

pub returns-clause-value : goal.returns-clause-value
unfolding table_rows_of
returns-clause-value c =
    let a = c.args in
    let l = c.loop-k in
    rows_added (cells_at a.table.bytes.now (cells_of a.kind)) (step_of a.kind) (bytes_by a.kind) (length (rows_bytes a.kind a.table.bytes.now 0 a.table.rows)) l.sum (4 * c.cells_of-step.result * l.k) a.table.rows l.k l.invariant.2 c.loop-k-test.false
