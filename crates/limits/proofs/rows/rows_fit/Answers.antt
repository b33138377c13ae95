-- Each turn passes a row that fits.
use Prim.Native.Nat.{◌+◌, ◌*◌, ◌≤◌}
use mathlib.Core.Path.{◌≡◌}
use native.Mathlib.Omega.{arith}
use lib.ListN.{length}
use Rattle.row_limits.specs.Kinds.{table_cells, fits_by}
use Rattle.limits.proofs.Walks.{tested_first, tested_room, tested_fails, tested_turn, tested_done}
use Rattle.limits.proofs.rows.rows_fit.Goals as goal
use Rattle.limits.proofs.rows.rows_fit.Goals.{In-loop-k}

-- the next row is there
row_there : (c : In-loop-k) → let a = c.args in a.p + c.row_bytes-size.result * c.loop-k.k + 4 * table_cells a.kind ≤ length a.t.now
row_there c =
    let a = c.args in
    let l = c.loop-k in
    tested_room (fits_by a.kind) (table_cells a.kind) a.t.now a.p a.n l.k (a.p + c.row_bytes-size.result * l.k) c.loop-k-test.true l.invariant

pub loop-k-init : goal.loop-k-init
loop-k-init c =
    let a = c.args in
    let start : a.p + c.row_bytes-size.result * 0 ≡ a.p = omega arith in
    rw start (tested_first (fits_by a.kind) (table_cells a.kind) a.t.now a.p a.n c.requires)

pub row_fits-requires : goal.row_fits-requires
row_fits-requires c = row_there (goal.at.row_fits-requires c).In-loop-k

pub returns-then-not-row_fits : goal.returns-then-not-row_fits
returns-then-not-row_fits c =
    let a = c.args in
    let l = c.loop-k in
    tested_fails (fits_by a.kind) (table_cells a.kind) a.t.now a.p a.n l.k (a.p + c.row_bytes-size.result * l.k) c.loop-k-test.true l.invariant c.row_fits.ensures c.if-not-row_fits.true

pub loop-k-preserved : goal.loop-k-preserved
loop-k-preserved c =
    let a = c.args in
    let l = c.loop-k in
    let size = c.row_bytes-size.result in
    let next : a.p + size * (l.k + 1) ≡ a.p + size * l.k + size = omega arith in
    rw next (tested_turn (fits_by a.kind) (table_cells a.kind) a.t.now a.p a.n l.k (a.p + size * l.k) c.loop-k-test.true l.invariant c.row_fits.ensures c.if-not-row_fits.false c.row_bytes-size.ensures)

pub returns : goal.returns
returns c =
    let a = c.args in
    let l = c.loop-k in
    tested_done (fits_by a.kind) (table_cells a.kind) a.t.now a.p a.n l.k (a.p + c.row_bytes-size.result * l.k) c.loop-k-test.false l.invariant
