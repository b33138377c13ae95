-- The pass counts the rows behind each header row; where one passes the end, so does the section.
use Prim.Native.Nat.{◌+◌}
use mathlib.Core.Path.{sym, ◌∙◌}
use native.Mathlib.Nat.{le_trans}
use native.Mathlib.Omega.{arith}
use Rattle.std.specs.Prelude.{None}
use Rattle.format.proofs.Sweep.{along_first, along_turn, counted_first, counted_turn, section_done, section_past, section_short}
use Rattle.common.proofs.Laws.{got, not_got, went, stayed}
use Rattle.info_sections.specs.Sections.{head_at, group_rows, next_head, counts_told}
use Rattle.info_sections.proofs.Sections.{own_length, count_before, up_head, measured_as}
use Rattle.info_sections.proofs.measure.Goals as goal

pub returns-in_err-count : goal.returns-in_err-count
returns-in_err-count c =
    let a = c.args in
    let s = a.section in
    let f = a.file.now in
    let cut = not_got f (a.start + 5) 1 c.in_err-count.ensures.same in
    c.from_residual.ensures ∙ section_short counts_told None (head_at s f) (group_rows s f) (next_head s f) f a.start (up_head s f) (omega arith) ∙ measured_as s f a.start

pub loop-init : goal.loop-init
loop-init c =
    let a = c.args in
    let front = got a.file.now (a.start + 5) 1 c.in_ok-count.ensures.same in
    (along_first (next_head a.section a.file.now) (omega (arith, front.inside, front.behind)), counted_first (group_rows a.section a.file.now) (next_head a.section a.file.now))

pub returns-in_err-next : goal.returns-in_err-next
returns-in_err-next c =
    let a = c.args in
    let s = a.section in
    let f = a.file.now in
    let l = c.loop in
    let front = got f (a.start + 5) 1 c.in_ok-count.ensures.same in
    c.from_residual-in_err-next.ensures
    ∙ section_past counts_told None (head_at s f) (group_rows s f) (next_head s f) f a.start front.value (omega (arith, front.behind)) l.invariant.0 (up_head s f)
    c.loop-test.true (stayed f (next_head s f l.head.pos) c.in_err-next.ensures)
    ∙ measured_as s f a.start

pub own_count-requires : goal.own_count-requires
own_count-requires c =
    let a = c.args in
    let p = c.loop.head.pos in
    le_trans (count_before a.section a.file.now p) (went a.file.now (next_head a.section a.file.now p) c.in_ok-next.ensures).0

pub loop-preserved : goal.loop-preserved
loop-preserved c =
    let a = c.args in
    let l = c.loop in
    let more = c.loop-test.true in
    let next = went a.file.now (next_head a.section a.file.now l.head.pos) c.in_ok-next.ensures in (
      along_turn l.invariant.0 more next.1 (omega (arith, next.0, next.1)),
      counted_turn l.invariant.1 more next.1 (c.own_count.ensures.same ∙ sym (own_length a.section a.file.now l.head.pos)) c.own_count.ensures.below,
    )

pub returns : goal.returns
returns c =
    let a = c.args in
    let s = a.section in
    let f = a.file.now in
    let l = c.loop in
    let front = got f (a.start + 5) 1 c.in_ok-count.ensures.same in
    section_done counts_told None (head_at s f) (group_rows s f) (next_head s f) f a.start front.value (omega (arith, front.behind)) l.invariant.0 l.invariant.1 c.loop-test.false
    ∙ measured_as s f a.start
