-- A space, and the digits behind it.
use mathlib.Core.Path.{ap, ◌∙◌}
use mathlib.Core.List.{◌∷◌}
use native.Mathlib.Omega.{arith}
use lib.ListN.{length}
use Rattle.text_lines.proofs.Laws.{puts_then, in_as, decimal_few, decimal_same}
use Rattle.text_lines.proofs.Text.put_number.Goals as goal

pub returns : goal.returns
returns c =
    let n = c.args.n in
    let small = c.ranges.n.fits in
    let is = c.as_bytes.ensures.value ∙ c.format.ensures.text in
    let text = puts_then c.put_word.ensures c.put_word-2.ensures in
    let few = decimal_few n small in
    in_as (ap (λ ds. 32 ∷ ds) (is ∙ decimal_same n small)) record { text = text; short = omega (arith, text.place, ap length is) }
