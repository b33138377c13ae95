-- Each turn works out one digit more; with 53 of them the bits are those of the quotient.
use Prim.Native.Nat.{◌+◌, ◌-◌, ◌*◌, ◌/◌, ◌%◌, ◌^◌, ◌≤◌, ◌<◌}
use native.Mathlib.Omega.{arith}
use Rattle.clip_info_queries.proofs.Quotients.{Digits, whole_part, few, next_digit, bits_under, no_nan, quotient_bits, zero_bits}
use Rattle.clip_info_queries.proofs.division.divide.Goals as goal

pub returns-then-dividend-eq0 : goal.returns-then-dividend-eq0
returns-then-dividend-eq0 c =
    zero_bits c.args.dividend c.args.divisor c.if-dividend-eq0.true c.requires.divisor_positive c.requires.divisor_small

pub loop-quotient-init : goal.loop-quotient-init
loop-quotient-init c =
    whole_part c.args.dividend c.args.divisor c.requires.dividend_small c.requires.divisor_positive

pub overflow_add-quotient : goal.overflow_add-quotient
overflow_add-quotient c =
    let some : 0 < c.args.dividend = omega (arith, c.if-dividend-eq0.false) in
    let turned : Digits c.args.dividend c.args.divisor (c.loop-quotient.quotient * 2 + c.loop-quotient.remainder * 2 / c.args.divisor) (c.loop-quotient.remainder * 2 % c.args.divisor) (c.loop-quotient.shift + 1) = let a = c.args in next_digit a.dividend a.divisor c.loop-quotient.quotient c.loop-quotient.remainder c.loop-quotient.shift some c.requires.divisor_small c.loop-quotient-test.true c.loop-quotient.invariant in
    omega (arith, turned.2)

pub loop-quotient-smaller : goal.loop-quotient-smaller
loop-quotient-smaller c =
    let some : 0 < c.args.dividend = omega (arith, c.if-dividend-eq0.false) in
    let short : c.loop-quotient.shift < 84 = let a = c.args in few a.dividend a.divisor c.loop-quotient.quotient c.loop-quotient.remainder c.loop-quotient.shift some c.requires.divisor_small c.loop-quotient-test.true c.loop-quotient.invariant in
    omega (arith, short)

pub loop-quotient-preserved : goal.loop-quotient-preserved
loop-quotient-preserved c =
    let some : 0 < c.args.dividend = omega (arith, c.if-dividend-eq0.false) in
    let turned : Digits c.args.dividend c.args.divisor (c.loop-quotient.quotient * 2 + c.loop-quotient.remainder * 2 / c.args.divisor) (c.loop-quotient.remainder * 2 % c.args.divisor) (c.loop-quotient.shift + 1) = let a = c.args in next_digit a.dividend a.divisor c.loop-quotient.quotient c.loop-quotient.remainder c.loop-quotient.shift some c.requires.divisor_small c.loop-quotient-test.true c.loop-quotient.invariant in
    turned

pub overflow_add-result : goal.overflow_add-result
overflow_add-result c =
    let under : (1074 - c.loop-quotient.shift) * 2 ^ 52 + c.round_half_even-digits.result ≤ 1076 * 2 ^ 52 = bits_under c.loop-quotient.quotient c.loop-quotient.remainder c.args.divisor c.loop-quotient.shift c.round_half_even-digits.result c.round_half_even-digits.ensures c.loop-quotient.invariant.2 in
    omega (arith, under)

pub float_from_bits-result : goal.float_from_bits-result
float_from_bits-result c =
    let under : (1074 - c.loop-quotient.shift) * 2 ^ 52 + c.round_half_even-digits.result ≤ 1076 * 2 ^ 52 = bits_under c.loop-quotient.quotient c.loop-quotient.remainder c.args.divisor c.loop-quotient.shift c.round_half_even-digits.result c.round_half_even-digits.ensures c.loop-quotient.invariant.2 in
    no_nan _ under

pub returns : goal.returns
returns c =
    let a = c.args in
    let l = c.loop-quotient in
    rw c.round_half_even-digits.ensures (quotient_bits a.dividend a.divisor l.quotient l.remainder l.shift c.requires.dividend_small c.requires.divisor_small (omega arith) l.invariant)
