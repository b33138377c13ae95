-- Each turn adds the next number, and the newline stands behind the last.
use native.Mathlib.Omega.{arith}
use mathlib.Core.Path.{ap}
use lib.Seq.{take_all}
use Rattle.format.specs.Bytes.{flat}
use Rattle.format.specs.Listing.{spaced, line}
use Rattle.text_lines.proofs.Laws.{puts_then, in_then, in_as, in_room, flat_more}
use Rattle.text_lines.proofs.Text.put_line.Goals as goal

pub loop-n-preserved : goal.loop-n-preserved
loop-n-preserved c =
    let l = c.loop-n in
    in_room (omega arith) (in_as (flat_more spaced c.args.numbers.now l.n-index 0 c.loop-n-test.true) (in_then l.invariant c.put_number.ensures))

pub returns : goal.returns
unfolding line
returns c =
    let all = take_all c.loop-n.n-index c.args.numbers.now c.loop-n-test.false in
    let numbers = in_as (ap (flat spaced) all) c.loop-n.invariant in
    let end = c.put_word-2.ensures in
    record { text = puts_then c.put_word.ensures (puts_then numbers.text end); short = omega (arith, numbers.short, c.put_word.ensures.place, end.place) }
