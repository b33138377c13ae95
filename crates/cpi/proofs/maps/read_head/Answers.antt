-- Each return, by the tests that led to it.
use Prim.Native.Nat.{◌+◌, ◌*◌, ◌≤◌}
use mathlib.Core.Path.{◌≡◌}
use native.Mathlib.Omega.{arith}
use lib.ListN.{length}
use Rattle.std.proofs.lemmas.Result.{err_from_is_err_and}
use Rattle.format.specs.EntryPoints.{cpi_end, cpi_type}
use Rattle.refusals.proofs.Laws.{refused_as}
use Rattle.common.proofs.Laws.{Got, got, not_got, went, stayed}
use Rattle.cpi.proofs.Heads.{head_zero, head_far, head_past, head_two, head_type, head_four, head_headers, head_maps}
use Rattle.cpi.proofs.maps.read_head.Goals as goal
use Rattle.cpi.proofs.maps.read_head.Goals.{In_ok-len, In_ok-last, Else-u32_at-ne1}

pub returns-then-start-eq0 : goal.returns-then-start-eq0
returns-then-start-eq0 c = let a = c.args in head_zero a.file.now a.start c.if-start-eq0.true

pub returns-then-file-start : goal.returns-then-file-start
returns-then-file-start c = let a = c.args in head_far a.file.now a.start c.if-file-start.true

pub returns-in_err-len : goal.returns-in_err-len
returns-in_err-len c =
    let a = c.args in
    let f = a.file.now in
    let p = err_from_is_err_and c.from_residual.result c.from_residual.ensures.1 in
    let none = c.in_err-len.ensures.ok_part in
    rw (p.1, p.2, refused_as c.in_err-len.ensures.value none)
    (head_past f a.start c.if-start-eq0.false c.if-file-start.false (omega (arith, not_got f a.start 4 (rw none at c.read.ensures.same))))

-- the length that was read
length_read : (c : In_ok-len) → Got c.args.file.now c.args.start 4 c.in_ok-len.len c.in_ok-len.body
length_read c = got c.args.file.now c.args.start 4 (rw c.in_ok-len.ensures.ok_part at c.read.ensures.same)

pub returns-in_err-last : goal.returns-in_err-last
returns-in_err-last c =
    let a = c.args in
    let f = a.file.now in
    let p = err_from_is_err_and c.from_residual-in_err-last.result c.from_residual-in_err-last.ensures.1 in
    let none = c.in_err-last.ensures.ok_part in
    let g = length_read (goal.at.returns-in_err-last c).In_ok-len in
    let cut = stayed f (c.in_ok-len.body.pos + c.in_ok-len.len) (rw none at c.skip.ensures) in
    rw (p.1, p.2, refused_as c.in_err-last.ensures.value none)
    (head_past f a.start c.if-start-eq0.false c.if-file-start.false (omega (arith, cut, g.value, g.behind)))

-- the section's end was reached, and it is in the file
end_reached : (c : In_ok-last) → (c.in_ok-last.last.pos ≡ cpi_end c.args.file.now c.args.start) × (cpi_end c.args.file.now c.args.start ≤ length c.args.file.now)
end_reached c =
    let f = c.args.file.now in
    let g = length_read (goal.at.In_ok-last c).In_ok-len in
    let moved = went f (c.in_ok-len.body.pos + c.in_ok-len.len) (rw c.in_ok-last.ensures.ok_part at c.skip.ensures) in
    (omega (arith, g.value, g.behind, moved.1), omega (arith, g.value, g.behind, moved.0))

pub returns-then-len-lt2 : goal.returns-then-len-lt2
returns-then-len-lt2 c =
    let a = c.args in
    let value = (length_read (goal.at.returns-then-len-lt2 c).In_ok-len).value in
    let inside = (end_reached (goal.at.returns-then-len-lt2 c).In_ok-last).1 in
    head_two a.file.now a.start c.if-start-eq0.false c.if-file-start.false inside (omega (arith, value))

pub u32_at-requires : goal.u32_at-requires
u32_at-requires c =
    let value = (length_read (goal.at.u32_at-requires c).In_ok-len).value in
    omega (arith, value, (end_reached (goal.at.u32_at-requires c).In_ok-last).1)

pub returns-then-u32_at-ne1 : goal.returns-then-u32_at-ne1
returns-then-u32_at-ne1 c =
    let a = c.args in
    let value = (length_read (goal.at.returns-then-u32_at-ne1 c).In_ok-len).value in
    let inside = (end_reached (goal.at.returns-then-u32_at-ne1 c).In_ok-last).1 in
    head_type a.file.now a.start c.if-start-eq0.false c.if-file-start.false inside (omega (arith, value)) (λ e. c.if-u32_at-ne1.true (rw c.u32_at.ensures.same e))

-- the type is 1
type_one : (c : Else-u32_at-ne1) → cpi_type c.args.file.now c.args.start ≡ 1
type_one c = rw (← c.u32_at.ensures.same) c.if-u32_at-ne1.false

pub returns-then-len-lt4 : goal.returns-then-len-lt4
returns-then-len-lt4 c =
    let a = c.args in
    let value = (length_read (goal.at.returns-then-len-lt4 c).In_ok-len).value in
    let inside = (end_reached (goal.at.returns-then-len-lt4 c).In_ok-last).1 in
    let one = type_one (goal.at.returns-then-len-lt4 c).Else-u32_at-ne1 in
    head_four a.file.now a.start c.if-start-eq0.false c.if-file-start.false inside (omega (arith, value)) one (omega (arith, value))

pub u32_at-count-requires : goal.u32_at-count-requires
u32_at-count-requires c =
    let value = (length_read (goal.at.u32_at-count-requires c).In_ok-len).value in
    omega (arith, value, (end_reached (goal.at.u32_at-count-requires c).In_ok-last).1)

pub returns-in_err-ok_or : goal.returns-in_err-ok_or
returns-in_err-ok_or c =
    let a = c.args in
    let f = a.file.now in
    let p = err_from_is_err_and c.from_residual-in_err-ok_or.result c.from_residual-in_err-ok_or.ensures.1 in
    let none = c.in_err-ok_or.ensures.ok_part in
    let value = (length_read (goal.at.returns-in_err-ok_or c).In_ok-len).value in
    let inside = (end_reached (goal.at.returns-in_err-ok_or c).In_ok-last).1 in
    let one = type_one (goal.at.returns-in_err-ok_or c).Else-u32_at-ne1 in
    let cut = stayed f (a.start + 8 + 12 * c.u32_at-count.result) (rw none at c.skip-2.ensures) in
    rw (p.1, p.2, refused_as c.in_err-ok_or.ensures.value none)
    (head_headers f a.start c.if-start-eq0.false c.if-file-start.false inside one (omega (arith, value)) (omega (arith, cut, c.u32_at-count.ensures.same)))

pub returns : goal.returns
returns c =
    let a = c.args in
    let f = a.file.now in
    let value = (length_read (goal.at.returns c).In_ok-len).value in
    let end = end_reached (goal.at.returns c).In_ok-last in
    let one = type_one (goal.at.returns c).Else-u32_at-ne1 in
    let there = went f (a.start + 8 + 12 * c.u32_at-count.result) (rw c.in_ok-ok_or.ensures.ok_part at c.skip-2.ensures) in
    rw (c.u32_at-count.ensures.same, end.0)
    (head_maps f a.start c.if-start-eq0.false c.if-file-start.false end.1 one (omega (arith, value)) (rw c.u32_at-count.ensures.same at there.0))
