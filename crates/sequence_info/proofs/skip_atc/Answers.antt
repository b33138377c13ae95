-- Behind the count stand one more byte and 14 for each STC.
use Prim.Native.Nat.{◌+◌}
use mathlib.Core.Path.{◌∙◌}
use Rattle.common.proofs.Laws.{got, not_got}
use Rattle.sequence_info.proofs.Laws.{atc_passed, atc_cut}
use Rattle.sequence_info.proofs.skip_atc.Goals as goal

pub returns-in_err-num_stc : goal.returns-in_err-num_stc
returns-in_err-num_stc c =
    let a = c.args in
    c.from_residual.ensures ∙ atc_cut a.file.now a.r.pos (not_got a.file.now (a.r.pos + 4) 1 c.in_err-num_stc.ensures.same)

pub returns : goal.returns
returns c =
    let a = c.args in
    atc_passed a.file.now a.r.pos (got a.file.now (a.r.pos + 4) 1 c.in_ok-num_stc.ensures.same) c.skip.ensures
