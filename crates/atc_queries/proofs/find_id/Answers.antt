-- Each turn passes an ATC that has not the id, and counts its STCs.
use Prim.Native.Nat.{◌<◌, ◌≤◌}
use native.Mathlib.Omega.{arith}
use lib.ListN.{length}
use Rattle.std.proofs.Common.{rules}
use Rattle.format.specs.Tables.{atc_cells}
use Rattle.format.proofs.Tables.{rows_stated}
use Rattle.table_rows.specs.AllRows.{rows_in}
use Rattle.atc_queries.proofs.Atcs.{ids_first, ids_turn, id_found, id_none}
use Rattle.atc_queries.proofs.find_id.Goals as goal

pub loop-k-init : goal.loop-k-init
loop-k-init c = ids_first _ _

pub loop-k-preserved : goal.loop-k-preserved
loop-k-preserved c =
    let within : c.loop-k.k < length (rows_in c.args.atcs) = omega (arith, c.loop-k-test.true, rows_stated atc_cells c.args.atcs.bytes.now c.args.atcs.count) in
    rw c.from-first.ensures (ids_turn _ _ _ _ within c.row.ensures c.has_id.ensures c.loop-k.invariant (search rules) c.if-has_id.false)

pub returns-then-has_id : goal.returns-then-has_id
returns-then-has_id c =
    let within : c.loop-k.k < length (rows_in c.args.atcs) = omega (arith, c.loop-k-test.true, rows_stated atc_cells c.args.atcs.bytes.now c.args.atcs.count) in
    rw c.from.ensures (id_found _ _ _ _ within c.row.ensures c.has_id.ensures c.loop-k.invariant c.if-has_id.true)

pub returns : goal.returns
returns c =
    let all : length (rows_in c.args.atcs) ≤ c.loop-k.k = omega (arith, c.loop-k-test.false, rows_stated atc_cells c.args.atcs.bytes.now c.args.atcs.count) in
    id_none _ _ _ _ all c.loop-k.invariant
