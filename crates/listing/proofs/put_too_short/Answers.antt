-- One line from the front of the output.
use mathlib.Core.Path.{refl, sym}
use borrow.Author.Rules.{rules}
use Rattle.listing.proofs.Laws.{shows}
use Rattle.listing.proofs.put_too_short.Goals as goal

pub returns : goal.returns
returns c =
    let same = sym c.put_line.ensures.text.same in
    shows c.put_line.ensures refl (search rules) (search rules)
