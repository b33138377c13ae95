-- Behind the count stand a spare byte and the streams.
use Prim.Native.Nat.{◌+◌}
use mathlib.Core.Path.{◌∙◌}
use native.Mathlib.Omega.{arith}
use Rattle.common.proofs.Laws.{got, not_got, stayed}
use Rattle.program_info.proofs.Laws.{program_cut}
use Rattle.program_info.proofs.skip_program.Goals as goal

pub returns-in_err-num_streams : goal.returns-in_err-num_streams
returns-in_err-num_streams c =
    let a = c.args in
    let f = a.file.now in
    c.from_residual.ensures ∙ program_cut f a.r.pos (omega (arith, not_got f (a.r.pos + 6) 1 c.in_err-num_streams.ensures.same))

pub returns-in_err-first : goal.returns-in_err-first
returns-in_err-first c =
    let a = c.args in
    let f = a.file.now in
    let spare = c.in_ok-num_streams.spare in
    let count = got f (a.r.pos + 6) 1 c.in_ok-num_streams.ensures.same in
    c.from_residual-in_err-first.ensures ∙ program_cut f a.r.pos (omega (arith, stayed f (spare.pos + 1) c.in_err-first.ensures, count.behind))
