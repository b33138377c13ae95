-- `bits::take_bits` meets its contract: a shift and a mask, at every place and width.
use Prim.Native.Nat.{◌-◌}
use borrow.Author.Rules.{rules}
use Rattle.format.proofs.Fields.{shift_mask}
use Rattle.bits.proofs.Laws.{none_taken, taken_fits}
use Rattle.bits.proofs.take_bits.Goals as goal

pub returns-then-below-eq64 : goal.returns-then-below-eq64
returns-then-below-eq64 c = let a = c.args in none_taken a.word a.left a.n (search rules) (search rules)

pub returns : goal.returns
returns c = let a = c.args in rw c.mask.ensures (shift_mask a.word (a.left - a.n) a.n)

pub overflow_cast-result-2 : goal.overflow_cast-result-2
overflow_cast-result-2 c =
    let a = c.args in
    record { fits = rw (returns c) (taken_fits a.word a.left a.n (search rules)) }
