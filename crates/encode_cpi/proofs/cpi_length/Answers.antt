-- Each turn measures one map whose entries fit.
use Prim.Native.Nat.{◌+◌, ◌*◌, ◌≤◌}
use native.Mathlib.Omega.{arith}
use lib.Dec.{leb}
use lib.ListN.{length}
use borrow.Author.Rules.{rules}
use Rattle.format.specs.ClipRecord.{entry_size}
use Rattle.encode_cpi.proofs.Maps.{maps_few, map_room, entries_room, count_few, own_within}
use Rattle.encode_cpi.proofs.Lengths.{and_both, measured_first, measured_unfit, runs_within_count, measured_turn, measured_many, measured_done, measured_none}
use Rattle.encode_cpi.proofs.cpi_length.Goals as goal
use Rattle.encode_cpi.proofs.cpi_length.Goals.{In-loop-k, After-cell_at-count, In_ok-runs}

pub returns-then-maps-eq0 : goal.returns-then-maps-eq0
returns-then-maps-eq0 c =
    let a = c.args in measured_none a.maps.bytes.now a.maps.rows a.entries.bytes.now a.entries.rows c.if-maps-eq0.true

pub loop-k-init : goal.loop-k-init
loop-k-init c =
    measured_first c.args.maps.bytes.now c.args.maps.rows c.args.entries.bytes.now c.args.entries.rows c.requires.1

-- the row of the map is there
row_there : (c : In-loop-k) → 12 * c.loop-k.k + 12 ≤ length c.args.maps.bytes.now
row_there c = let a = c.args in map_room a.maps.bytes.now a.maps.rows a.entries.bytes.now a.entries.rows c.requires.0 c.loop-k.k c.loop-k-test.true

-- so are its entries
entries_there : (c : After-cell_at-count) → entry_size * c.loop-k.row + entry_size * c.cell_at-count.result ≤ length c.args.entries.bytes.now
entries_there c =
    let a = c.args in
    let l = c.loop-k in
    omega (arith, entries_room a.maps.bytes.now a.maps.rows a.entries.bytes.now a.entries.rows c.requires.0, own_within a.maps.bytes.now a.maps.rows a.entries.bytes.now a.entries.rows l.row l.k l.invariant.walk c.loop-k-test.true c.cell_at-count.ensures)

-- they are few, and their runs are not more
few_runs : (c : In_ok-runs) → (c.in_ok-runs.runs ≤ c.cell_at-count.result) × (c.cell_at-count.result ≤ 262143)
few_runs c =
    let a = c.args in
    let l = c.loop-k in (
      runs_within_count a.maps.bytes.now a.maps.rows a.entries.bytes.now a.entries.rows l.len l.few l.row l.k l.invariant c.loop-k-test.true c.cell_at-map_type.ensures c.cell_at-count.ensures c.count_runs.ensures c.in_ok-runs.ensures.ok_part,
      count_few a.maps.bytes.now a.maps.rows a.entries.bytes.now a.entries.rows l.row l.k l.invariant.walk c.loop-k-test.true c.cell_at-count.ensures,
    )

pub overflow_mul-k : goal.overflow_mul-k
overflow_mul-k c = omega (arith, row_there (goal.at.overflow_mul-k c).In-loop-k)

pub overflow_add-k : goal.overflow_add-k
overflow_add-k c = omega (arith, row_there (goal.at.overflow_add-k c).In-loop-k)

pub cell_at-map_type-requires : goal.cell_at-map_type-requires
cell_at-map_type-requires c = omega (arith, row_there (goal.at.cell_at-map_type-requires c).In-loop-k)

pub overflow_mul-k-in-loop-k : goal.overflow_mul-k-in-loop-k
overflow_mul-k-in-loop-k c = omega (arith, row_there (goal.at.overflow_mul-k-in-loop-k c).In-loop-k)

pub overflow_add-k-in-loop-k : goal.overflow_add-k-in-loop-k
overflow_add-k-in-loop-k c = omega (arith, row_there (goal.at.overflow_add-k-in-loop-k c).In-loop-k)

pub cell_at-count-requires : goal.cell_at-count-requires
cell_at-count-requires c = omega (arith, row_there (goal.at.cell_at-count-requires c).In-loop-k)

pub overflow_mul-own : goal.overflow_mul-own
overflow_mul-own c = omega (arith, entries_there (goal.at.overflow_mul-own c).After-cell_at-count)

pub invariant_of-own : goal.invariant_of-own
invariant_of-own c = record { inside = entries_there (goal.at.invariant_of-own c).After-cell_at-count }

pub overflow_add-row : goal.overflow_add-row
overflow_add-row c = omega (arith, entries_there (goal.at.overflow_add-row c).After-cell_at-count)

pub returns-in_err-runs : goal.returns-in_err-runs
returns-in_err-runs c =
    let a = c.args in
    let l = c.loop-k in
    let e = measured_unfit a.maps.bytes.now a.maps.rows a.entries.bytes.now a.entries.rows l.len l.few l.row l.k l.invariant c.loop-k-test.true c.cell_at-map_type.ensures c.cell_at-count.ensures c.count_runs.ensures c.in_err-runs.ensures.ok_part in
    let y = c.from_residual.ensures in let v = c.in_err-runs.ensures.value in search rules

pub overflow_mul-len-in-loop-k : goal.overflow_mul-len-in-loop-k
overflow_mul-len-in-loop-k c = omega (arith, few_runs (goal.at.overflow_mul-len-in-loop-k c).In_ok-runs)

pub overflow_add-len-in-loop-k : goal.overflow_add-len-in-loop-k
overflow_add-len-in-loop-k c = omega (arith, few_runs (goal.at.overflow_add-len-in-loop-k c).In_ok-runs)

pub overflow_add-len-in-loop-k-2 : goal.overflow_add-len-in-loop-k-2
overflow_add-len-in-loop-k-2 c = omega (arith, few_runs (goal.at.overflow_add-len-in-loop-k-2 c).In_ok-runs)

pub overflow_add-len-in-loop-k-3 : goal.overflow_add-len-in-loop-k-3
overflow_add-len-in-loop-k-3 c =
    let a = c.args in
    omega (arith, few_runs (goal.at.overflow_add-len-in-loop-k-3 c).In_ok-runs, maps_few a.maps.bytes.now a.maps.rows a.entries.bytes.now a.entries.rows c.requires.1, c.loop-k.invariant.small, c.loop-k-test.true)

pub loop-k-preserved : goal.loop-k-preserved
loop-k-preserved c =
    let a = c.args in
    let l = c.loop-k in
    measured_turn a.maps.bytes.now a.maps.rows a.entries.bytes.now a.entries.rows l.len l.few l.row l.k l.invariant c.loop-k-test.true c.cell_at-map_type.ensures c.cell_at-count.ensures c.count_runs.ensures c.in_ok-runs.ensures.ok_part (and_both l.few (leb c.in_ok-runs.runs 65535))

pub returns-then-few : goal.returns-then-few
returns-then-few c =
    let a = c.args in
    let l = c.loop-k in
    measured_done a.maps.bytes.now a.maps.rows a.entries.bytes.now a.entries.rows l.len l.few l.row l.k l.invariant c.loop-k-test.false c.if-few.true c.if-maps-eq0.false

pub returns-else-few : goal.returns-else-few
returns-else-few c =
    let a = c.args in
    let l = c.loop-k in
    measured_many a.maps.bytes.now a.maps.rows a.entries.bytes.now a.entries.rows l.len l.few l.row l.k l.invariant c.loop-k-test.false c.if-few.false
