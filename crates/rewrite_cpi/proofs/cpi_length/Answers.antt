-- Each turn measures a map's body; the first map with too many runs ends the loop.
use Prim.Native.Nat.{◌+◌, ◌*◌, ◌≤◌}
use native.Mathlib.Omega.{arith}
use Rattle.ep_entries.specs.Body.{RowsIn}
use Rattle.ep_entries.proofs.Bodies.{rows_in_lem, there, left_map}
use Rattle.rewrite_cpi.proofs.Lengths.{measured_first, measured_turn, measured_refused, measured_done, measured_none}
use Rattle.rewrite_cpi.proofs.cpi_length.Goals as goal

pub returns-then-count-eq0 : goal.returns-then-count-eq0
returns-then-count-eq0 c =
    measured_none c.args.file.now c.args.start c.args.count c.requires c.if-count-eq0.true

pub overflow_mul-len : goal.overflow_mul-len
overflow_mul-len c =
    let bound : c.args.start + 8 + 12 * c.args.count ≤ 536870912 = omega (arith, (there c.args.file.now c.args.start c.args.count c.requires (omega (arith, c.if-count-eq0.false))).headers, c.requires.small) in
    omega (arith, bound)

pub overflow_add-len : goal.overflow_add-len
overflow_add-len c =
    let bound : c.args.start + 8 + 12 * c.args.count ≤ 536870912 = omega (arith, (there c.args.file.now c.args.start c.args.count c.requires (omega (arith, c.if-count-eq0.false))).headers, c.requires.small) in
    omega (arith, bound)

pub loop-k-init : goal.loop-k-init
loop-k-init c = measured_first c.args.file.now c.args.start c.args.count c.requires

pub overflow_mul-k : goal.overflow_mul-k
overflow_mul-k c =
    let bound : c.args.start + 8 + 12 * c.args.count ≤ 536870912 = omega (arith, (there c.args.file.now c.args.start c.args.count c.requires (omega (arith, c.if-count-eq0.false))).headers, c.requires.small) in omega (arith, bound, c.loop-k-test.true)

pub overflow_add-start-in-loop-k : goal.overflow_add-start-in-loop-k
overflow_add-start-in-loop-k c =
    let bound : c.args.start + 8 + 12 * c.args.count ≤ 536870912 = omega (arith, (there c.args.file.now c.args.start c.args.count c.requires (omega (arith, c.if-count-eq0.false))).headers, c.requires.small) in omega (arith, bound, c.loop-k-test.true)

pub map_body-m-requires : goal.map_body-m-requires
map_body-m-requires c =
    let l = c.loop-k in
    left_map c.args.file.now c.args.start c.args.count l.k c.loop-k-test.true c.requires l.invariant.left

pub returns-then-runs-gt-MOST_RUNS : goal.returns-then-runs-gt-MOST_RUNS
returns-then-runs-gt-MOST_RUNS c =
    let a = c.args in
    let l = c.loop-k in
    measured_refused a.file.now a.start a.count l.len l.k l.invariant c.loop-k-test.true c.map_body-m.result c.map_body-m.ensures c.count_runs-runs.ensures c.if-runs-gt-MOST_RUNS.true

pub overflow_add-len-in-loop-k-3 : goal.overflow_add-len-in-loop-k-3
overflow_add-len-in-loop-k-3 c =
    let bound : c.args.start + 8 + 12 * c.args.count ≤ 536870912 = omega (arith, (there c.args.file.now c.args.start c.args.count c.requires (omega (arith, c.if-count-eq0.false))).headers, c.requires.small) in
    let rows : RowsIn c.args.file.now c.map_body-m.result = let a = c.args in
    let l = c.loop-k in
    rows_in_lem a.file.now a.start (a.start + 8 + 12 * l.k) c.map_body-m.result c.map_body-m.ensures
    (left_map a.file.now a.start a.count l.k c.loop-k-test.true c.requires l.invariant.left) in
    omega (arith, rows.few, c.if-runs-gt-MOST_RUNS.false, c.loop-k.invariant.small, bound, c.loop-k-test.true)

pub loop-k-preserved : goal.loop-k-preserved
loop-k-preserved c =
    let a = c.args in
    let l = c.loop-k in
    measured_turn a.file.now a.start a.count l.len l.k l.invariant c.loop-k-test.true c.map_body-m.result c.map_body-m.ensures c.count_runs-runs.ensures c.if-runs-gt-MOST_RUNS.false

pub returns : goal.returns
returns c =
    let l = c.loop-k in
    measured_done c.args.file.now c.args.start c.args.count l.len l.k c.requires l.invariant c.loop-k-test.false c.if-count-eq0.false
