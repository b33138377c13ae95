-- Each turn works out one digit more; with 53 of them the bits are those of the quotient.
use Prim.Native.Nat.{◌-◌}
use Rattle.clip_info_queries.proofs.Quotients.{Digits}
use Rattle.clip_info_queries.proofs.division.divide.Given as goal

abbrev pub invariant-loop-quotient : goal.invariant-loop-quotient
invariant-loop-quotient l =
    Digits l.dividend l.divisor l.quotient l.remainder l.shift

abbrev pub decreases-loop-quotient : goal.decreases-loop-quotient
decreases-loop-quotient l = 84 - l.shift
