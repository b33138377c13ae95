-- Each turn stores one header row with its own rows.
use Prim.Native.Nat.{ℕ, ◌+◌, ◌*◌, ◌≤◌}
use mathlib.Core.Path.{◌≡◌, refl, ap}
use native.Mathlib.Omega.{arith}
use lib.ListN.{length}
use Rattle.format.specs.Bytes.{end_of}
use Rattle.format.proofs.Sweep.{end_steps}
use Rattle.row_values.specs.Kinds.{cells_of, row_of}
use Rattle.row_bytes.proofs.Storing.{storing_first, part_room, part_put, storing_done}
use Rattle.encode_rows.specs.Rows.{step_of}
use Rattle.encode_sections.specs.Sections.{head_kind, row_kind, group_bytes, items_in}
use Rattle.row_values.proofs.Cells.{cells_few}
use Rattle.encode_rows.proofs.Rows.{rows_inside, pass_first, row_inside, pass_turn}
use Rattle.encode_sections.proofs.Groups.{count_all, groups_all, groups_none, head_step, head_at, field_own, own_inside, later_inside, groups_turn}
use Rattle.encode_sections.proofs.put_groups.Goals as goal
use Rattle.encode_sections.proofs.put_groups.Goals.{In-loop-k, After-table_row-head, After-own_count}

-- the header rows end inside their table
ends : (c : In-loop-k) → let a = c.args in end_of (step_of (head_kind a.section)) 0 a.heads.rows ≤ length a.heads.bytes.now
ends c = let a = c.args in rows_inside (head_kind a.section) a.heads.bytes.now a.heads.rows c.requires.heads_there

-- the next one's own rows end inside theirs
own : (c : In-loop-k) → let a = c.args in end_of (step_of (row_kind a.section)) c.loop-k.q (field_own a.section a.heads.bytes.now (12 * c.loop-k.k)) ≤ length a.rows.now
own c = let a = c.args in let l = c.loop-k in own_inside a.section a.heads.bytes.now a.heads.rows (12 * l.k) l.q l.k c.loop-k-test.true l.invariant.1

-- it is read
head_is : (c : After-table_row-head) → let a = c.args in row_of (head_kind a.section) c.table_row-head.result ≡ head_at a.section a.heads.bytes.now (12 * c.loop-k.k)
head_is c = rw c.head_kind.ensures at c.table_row-head.ensures

-- and how many bytes its own rows have in their table
own_bytes : (c : After-own_count) → let a = c.args in 4 * c.cells_of-step.result * c.own_count.result ≡ 4 * cells_of (row_kind a.section) * field_own a.section a.heads.bytes.now (12 * c.loop-k.k)
own_bytes c = let head = rw c.head_kind.ensures at c.table_row-head.ensures in rw (c.cells_of-step.ensures, c.row_kind.ensures, c.own_count.ensures, head)

pub overflow_mul-step : goal.overflow_mul-step
overflow_mul-step c = record { fits = omega (arith, c.cells_of-step.ensures, cells_few c.row_kind.result) }

pub loop-k-init : goal.loop-k-init
loop-k-init c =
    let a = c.args in
    let hs = a.heads.bytes.now in (
      pass_first (head_kind a.section) hs 0 a.heads.rows (rows_inside (head_kind a.section) hs a.heads.rows c.requires.heads_there),
      rw (count_all a.section hs a.heads.rows) (rows_inside (row_kind a.section) a.rows.now _ c.requires.rows_there),
      storing_first a.out.now (items_in a.section hs a.heads.rows a.rows.now) a.at c.requires.room (groups_all a.section hs a.heads.rows a.rows.now),
    )

pub table_row-head-requires : goal.table_row-head-requires
table_row-head-requires c = rw c.head_kind.ensures (row_inside (head_kind c.args.section) c.loop-k.invariant.0 c.loop-k-test.true (ends (goal.at.table_row-head-requires c).In-loop-k))

pub put_group-to-requires : goal.put_group-to-requires
put_group-to-requires c =
    let a = c.args in
    let l = c.loop-k in
    let hs = a.heads.bytes.now in
    let p = goal.at.put_group-to-requires c in
    rw (head_is p.After-table_row-head) (record { rows_end = own p.In-loop-k; room = part_room l.invariant.2 (group_bytes a.section (head_at a.section hs (12 * l.k)) a.rows.now l.q) _ (groups_turn a.section hs a.heads.rows (12 * l.k) l.q l.k c.loop-k-test.true a.rows.now refl) })

pub overflow_mul-q : goal.overflow_mul-q
overflow_mul-q c =
    let a = c.args in
    let l = c.loop-k in
    let p = goal.at.overflow_mul-q c in
    record { fits = omega (arith, own_bytes p.After-own_count, own p.In-loop-k, end_steps (4 * cells_of (row_kind a.section)) l.q (field_own a.section a.heads.bytes.now (12 * l.k))) }

pub overflow_add-q : goal.overflow_add-q
overflow_add-q c =
    let a = c.args in
    let l = c.loop-k in
    let p = goal.at.overflow_add-q c in
    record { fits = omega (arith, own_bytes p.After-own_count, own p.In-loop-k, end_steps (4 * cells_of (row_kind a.section)) l.q (field_own a.section a.heads.bytes.now (12 * l.k))) }

pub loop-k-preserved : goal.loop-k-preserved
loop-k-preserved c =
    let a = c.args in
    let l = c.loop-k in
    let hs = a.heads.bytes.now in
    let rs = a.rows.now in
    let p = goal.at.loop-k-preserved c in
    let more = c.loop-k-test.true in
    let step : 12 * (l.k + 1) ≡ step_of (head_kind a.section) (12 * l.k) = omega (arith, head_step a.section (12 * l.k)) in
    let next = ap (λ (x : ℕ). l.q + x) (own_bytes p.After-own_count) in
    let put = rw (head_is p.After-table_row-head) at c.put_group-to.ensures in
    rw step (
      pass_turn (head_kind a.section) l.invariant.0 more (ends p.In-loop-k) refl,
      later_inside a.section hs a.heads.rows (12 * l.k) l.q l.k more l.invariant.1 next,
      part_put l.invariant.2 (group_bytes a.section (head_at a.section hs (12 * l.k)) rs l.q) _ (groups_turn a.section hs a.heads.rows (12 * l.k) l.q l.k more rs next) put.out_after put.value,
    )

pub shape_of-out : goal.shape_of-out
shape_of-out c = c.loop-k.invariant.2.long

pub returns : goal.returns
returns c =
    let a = c.args in
    let l = c.loop-k in
    let done = storing_done l.invariant.2 (groups_none a.section a.heads.bytes.now a.heads.rows a.rows.now (12 * l.k) l.q l.k c.loop-k-test.false) in
    record { value = done.0; out_after = done.1 }
