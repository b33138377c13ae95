-- Each turn stores one row behind those before it.
use Prim.Native.Nat.{◌+◌, ◌*◌, ◌≤◌}
use mathlib.Core.Path.{◌≡◌, ap}
use native.Mathlib.Omega.{arith}
use lib.ListN.{length}
use Rattle.format.specs.Bytes.{flat}
use Rattle.format.specs.Tables.{cells_at}
use Rattle.format.proofs.Rows.{rest_all, rest_done}
use Rattle.row_values.specs.Kinds.{cells_of, bytes_by}
use Rattle.row_bytes.proofs.Storing.{storing_first, storing_done, row_room_lem, row_put}
use Rattle.encode_rows.specs.Rows.{step_of, rows_bytes}
use Rattle.encode_rows.proofs.Rows.{pass_first, row_inside, pass_turn, same_bytes_lem}
use Rattle.encode_rows.proofs.put_rows.Goals as goal
use Rattle.encode_rows.proofs.put_rows.Goals.{In-loop-k}

-- the next row is inside the table
inside : (c : In-loop-k) → let a = c.args in a.p + 4 * c.cells_of-step.result * c.loop-k.k + 4 * cells_of a.kind ≤ length a.t.now
inside c = row_inside c.args.kind c.loop-k.invariant.0 c.loop-k-test.true c.requires.0

pub loop-k-init : goal.loop-k-init
loop-k-init c =
    let a = c.args in
    let t = a.t.now in
    let start : a.p + 4 * c.cells_of-step.result * 0 ≡ a.p = omega arith in (
      rw start (pass_first a.kind t a.p a.n c.requires.0),
      rw start (storing_first a.out.now (rows_bytes a.kind t a.p a.n) a.at c.requires.1 (ap (flat (bytes_by a.kind)) (rest_all (cells_at t (cells_of a.kind)) (step_of a.kind) a.p a.n))),
    )

pub table_row-requires : goal.table_row-requires
table_row-requires c = inside (goal.at.table_row-requires c).In-loop-k

pub put_row-to-requires : goal.put_row-to-requires
put_row-to-requires c =
    let a = c.args in
    let l = c.loop-k in
    let row = c.table_row in
    rw (same_bytes_lem a.kind row.result row.ensures) (row_room_lem (cells_at a.t.now (cells_of a.kind)) (step_of a.kind) (bytes_by a.kind) (a.p + 4 * c.cells_of-step.result * l.k) a.n l.k l.invariant.1 c.loop-k-test.true)

pub loop-k-preserved : goal.loop-k-preserved
loop-k-preserved c =
    let a = c.args in
    let l = c.loop-k in
    let row = c.table_row in
    let put = c.put_row-to.ensures in
    let more = c.loop-k-test.true in
    let q = a.p + 4 * c.cells_of-step.result * l.k in
    let next : a.p + 4 * c.cells_of-step.result * (l.k + 1) ≡ step_of a.kind q = omega (arith, c.cells_of-step.ensures) in
    let same = same_bytes_lem a.kind row.result row.ensures in (
      pass_turn a.kind l.invariant.0 more c.requires.0 next,
      row_put (cells_at a.t.now (cells_of a.kind)) (step_of a.kind) (bytes_by a.kind) q a.n l.k l.invariant.1 more (rw same at put.out_after) (rw same at put.value) next,
    )

pub shape_of-out : goal.shape_of-out
shape_of-out c = c.loop-k.invariant.1.long

pub returns : goal.returns
returns c =
    let a = c.args in
    let l = c.loop-k in
    let done = storing_done l.invariant.1 (ap (flat (bytes_by a.kind)) (rest_done (cells_at a.t.now (cells_of a.kind)) (step_of a.kind) (a.p + 4 * c.cells_of-step.result * l.k) a.n l.k c.loop-k-test.false)) in
    record { value = done.0; out_after = done.1 }
