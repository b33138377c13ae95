-- `bits::put_bits` meets its contract: a shift, a mask and an OR, at every width.
use borrow.Author.Rules.{rules}
use Rattle.bits.proofs.Laws.{put}
use Rattle.bits.proofs.put_bits.Goals as goal

pub returns : goal.returns
returns c = let a = c.args in rw (c.from.ensures, c.mask.ensures) (put a.word a.value a.n (search rules))
