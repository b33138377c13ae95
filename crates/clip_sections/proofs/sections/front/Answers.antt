-- Each return, by the tests that led to it.
use native.Mathlib.Omega.{arith}
use Rattle.std.proofs.lemmas.Result.{err_from_is_err_and}
use Rattle.clip_sections.proofs.Laws.{too_long, parse_refused, under_40, under_194, info_past, front_passes}
use Rattle.clip_sections.proofs.sections.front.Goals as goal

pub returns-then-len-gt-MOST : goal.returns-then-len-gt-MOST
returns-then-len-gt-MOST c = too_long c.args.file.now c.if-len-gt-MOST.true

pub returns-in_err-parse : goal.returns-in_err-parse
returns-in_err-parse c =
    let p = err_from_is_err_and c.from_residual.result c.from_residual.ensures.1 in
    rw (p.1, p.2) (parse_refused c.args.file.now (omega arith) c.in_err-parse.ensures)

pub returns-then-len-lt40 : goal.returns-then-len-lt40
returns-then-len-lt40 c = under_40 c.args.file.now (omega arith) _ c.in_ok-parse.ensures c.if-len-lt40.true

pub returns-then-len-lt194 : goal.returns-then-len-lt194
returns-then-len-lt194 c = under_194 c.args.file.now (omega arith) _ c.in_ok-parse.ensures (omega arith) c.if-len-lt194.true

pub returns-then-len-u32_at : goal.returns-then-len-u32_at
returns-then-len-u32_at c = info_past c.args.file.now (omega arith) _ c.in_ok-parse.ensures (omega arith) (omega (arith, c.u32_at.ensures.same))

pub returns : goal.returns
returns c = front_passes c.args.file.now (omega arith) _ c.in_ok-parse.ensures (omega arith) (omega (arith, c.u32_at.ensures.same))
