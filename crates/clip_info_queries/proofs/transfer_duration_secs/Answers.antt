-- No rate, or the quotient.
use mathlib.Core.Path.{ap, ◌∙◌, subst⁻¹}
use native.Mathlib.Omega.{arith}
use lib.Ieee.{Float}
use Rattle.format.specs.Questions.{seconds, IsTransfer}
use Rattle.clip_info_queries.proofs.Laws.{no_rate_lem, seconds_are, near}
use Rattle.clip_info_queries.proofs.transfer_duration_secs.Goals as goal

pub returns-then-rate-eq0 : goal.returns-then-rate-eq0
returns-then-rate-eq0 c = let a = c.args in record { result_value = no_rate_lem a.rate a.packets c.if-rate-eq0.true; transfer = c.if-rate-eq0.true }

pub returns : goal.returns
returns c =
    let a = c.args in
    let some = c.if-rate-eq0.false in
    let is = rw (c.from-bytes.ensures, c.from.ensures) at c.divide.ensures in record { result_value = ap seconds is ∙ seconds_are a.rate a.packets some; transfer = subst⁻¹ (λ (q : Float). IsTransfer a.rate a.packets (seconds q)) is (near a.rate a.packets some (omega arith) (omega arith)) }
