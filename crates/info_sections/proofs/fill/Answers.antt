-- A turn stores one header row and its own rows; the section ends within the file, so each of them does.
use Prim.Native.Nat.{◌+◌, ◌*◌}
use mathlib.Core.Path.{◌≡◌}
use native.Mathlib.Omega.{arith}
use Rattle.info_sections.proofs.Sections.{ends_within, passing_first, count_in_lem, group_there, passing_turn, passing_done}
use Rattle.info_sections.proofs.fill.Goals as goal

pub overflow_add-start : goal.overflow_add-start
overflow_add-start c = let a = c.args in omega (arith, ends_within a.section a.file.now a.start c.requires.ends)

pub u32_at-count-requires : goal.u32_at-count-requires
u32_at-count-requires c = let a = c.args in omega (arith, ends_within a.section a.file.now a.start c.requires.ends)

pub overflow_add-p : goal.overflow_add-p
overflow_add-p c = let a = c.args in omega (arith, ends_within a.section a.file.now a.start c.requires.ends)

pub loop-k-init : goal.loop-k-init
loop-k-init c = passing_first c.requires c.u32_at-count.ensures.same

pub own_count-n-requires : goal.own_count-n-requires
own_count-n-requires c = count_in_lem c.requires c.u32_at-count.ensures.same c.loop-k.invariant c.loop-k-test.true

pub put_group-p-requires : goal.put_group-p-requires
put_group-p-requires c = group_there c.requires c.u32_at-count.ensures.same c.loop-k.invariant c.loop-k-test.true c.own_count-n.ensures.same

pub loop-k-preserved : goal.loop-k-preserved
loop-k-preserved c =
    let k = c.loop-k.k in
    let put = c.put_group-p.ensures in
    let cell : 12 * k + 12 ≡ 12 * (k + 1) = omega arith in
    rw (c.row_size-step.ensures, ← cell)
    (passing_turn c.requires c.u32_at-count.ensures.same c.loop-k.invariant c.loop-k-test.true c.own_count-n.ensures.same put.value put.heads_after put.rows_after)

pub returns : goal.returns
returns c =
    let done = passing_done c.requires c.u32_at-count.ensures.same c.loop-k.invariant c.loop-k-test.false in
    record { heads_after = done.0; rows_after = done.1 }
