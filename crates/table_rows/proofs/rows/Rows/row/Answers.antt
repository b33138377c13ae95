-- Each turn reads a cell of the row.
use Prim.Native.Nat.{◌<◌, ◌≤◌}
use lib.ListN.{length, get_or}
use mathlib.Core.List.{[]}
use Rattle.table_rows.specs.AllRows.{rows_in}
use Rattle.table_rows.proofs.AllRows.{row_length, copied_none, copied_turn, copied_all}
use Rattle.table_rows.proofs.rows.Rows.row.Goals as goal

pub loop-k-init : goal.loop-k-init
loop-k-init g c = copied_none (row_length _ _ _ _ c.requires)

pub loop-k-preserved : goal.loop-k-preserved
loop-k-preserved g c =
    let within : c.loop-k.k < length (get_or (rows_in c.args.self) c.args.row []) = rw (row_length g.row.CELLS c.args.self.bytes.now c.args.self.count c.args.row c.requires) c.loop-k-test.true in
    copied_turn within c.cell.ensures c.loop-k.invariant

pub returns : goal.returns
returns g c =
    let all : length (get_or (rows_in c.args.self) c.args.row []) ≤ c.loop-k.k = rw (row_length g.row.CELLS c.args.self.bytes.now c.args.self.count c.args.row c.requires) c.loop-k-test.false in
    copied_all _ _ _ all c.loop-k.invariant
