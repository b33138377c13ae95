-- Each read that fails shows that the entries pass the end; the numbers are those of the head.
use Prim.Native.Nat.{◌+◌, ◌*◌}
use mathlib.Core.Path.{◌≡◌, ◌∙◌}
use native.Mathlib.Omega.{arith}
use Rattle.common.proofs.Laws.{Got, got, not_got, went, stayed}
use Rattle.extension.proofs.Laws.{at_zero, at_end, no_length, too_short_lem, entries, seven}
use Rattle.extension.proofs.head_at.Goals as goal
use Rattle.extension.proofs.head_at.Goals.{In_ok-front, In_ok-length, In_ok-skip, In_ok-n}

pub returns-then-start-eq0 : goal.returns-then-start-eq0
returns-then-start-eq0 c = at_zero c.args.file.now c.args.start c.if-start-eq0.true

pub returns-then-start-file : goal.returns-then-start-file
returns-then-start-file c = at_end c.args.file.now c.args.start c.if-start-file.true

-- the reader stands at the start
at_front : (c : In_ok-front) → c.in_ok-front.front.pos ≡ c.args.start
at_front c = (went c.args.file.now c.args.start c.in_ok-front.ensures).1

pub returns-in_err-length : goal.returns-in_err-length
returns-in_err-length c =
    let f = c.args.file.now in
    let start = c.args.start in
    let front = at_front (goal.at.returns-in_err-length c).In_ok-front in
    c.from_residual-in_err-length.ensures ∙ too_short_lem f start (omega (arith, not_got f start 4 (rw front at c.in_err-length.ensures.same)))

-- the length is read
length_read : (c : In_ok-length) → Got c.args.file.now c.args.start 4 c.in_ok-length.length c.in_ok-length.ignored
length_read c = got c.args.file.now c.args.start 4 (rw (at_front (goal.at.In_ok-length c).In_ok-front) at c.in_ok-length.ensures.same)

pub returns-then-length-eq0 : goal.returns-then-length-eq0
returns-then-length-eq0 c = no_length c.args.file.now c.args.start (length_read (goal.at.returns-then-length-eq0 c).In_ok-length).value c.if-length-eq0.true

pub returns-in_err-skip : goal.returns-in_err-skip
returns-in_err-skip c =
    let f = c.args.file.now in
    let g = length_read (goal.at.returns-in_err-skip c).In_ok-length in
    c.from_residual-in_err-skip.ensures ∙ too_short_lem f c.args.start (omega (arith, g.behind, stayed f (c.in_ok-length.ignored.pos + 7) c.in_err-skip.ensures))

-- the reader stands before the count
at_count : (c : In_ok-skip) → c.in_ok-skip.field-0.pos ≡ c.args.start + 11
at_count c =
    let g = length_read (goal.at.In_ok-skip c).In_ok-length in
    (went c.args.file.now (c.args.start + 11) (rw (g.behind, seven c.args.start) at c.in_ok-skip.ensures)).1

pub returns-in_err-n : goal.returns-in_err-n
returns-in_err-n c =
    let f = c.args.file.now in
    let start = c.args.start in
    let count = at_count (goal.at.returns-in_err-n c).In_ok-skip in
    c.from_residual-in_err-n.ensures ∙ too_short_lem f start (omega (arith, not_got f (start + 11) 1 (rw count at c.in_err-n.ensures.same)))

-- the count is read
count_read : (c : In_ok-n) → Got c.args.file.now (c.args.start + 11) 1 c.in_ok-n.n c.in_ok-n.entries
count_read c = got c.args.file.now (c.args.start + 11) 1 (rw (at_count (goal.at.In_ok-n c).In_ok-skip) at c.in_ok-n.ensures.same)

pub returns-in_err-skip-2 : goal.returns-in_err-skip-2
returns-in_err-skip-2 c =
    let f = c.args.file.now in
    let g = count_read (goal.at.returns-in_err-skip-2 c).In_ok-n in
    c.from_residual-in_err-skip-2.ensures
    ∙ too_short_lem f c.args.start (omega (arith, g.value, g.behind, stayed f (c.in_ok-n.entries.pos + 12 * c.in_ok-n.n) c.in_err-skip-2.ensures))

pub returns : goal.returns
returns c =
    let f = c.args.file.now in
    let start = c.args.start in
    let length = length_read (goal.at.returns c).In_ok-length in
    let count = count_read (goal.at.returns c).In_ok-n in
    let all = went f (c.in_ok-n.entries.pos + 12 * c.in_ok-n.n) c.in_ok-skip-2.ensures in
    entries f start c.if-start-eq0.false c.if-start-file.false length.value c.if-length-eq0.false count.value (omega (arith, count.behind, all.0)) c.min.ensures
