-- `bits::mask` meets its contract: a 1 moved up by at most 32 of 64 bits is a power of two.
use lib.Pow.{pow_pos}
use Rattle.bits.proofs.Laws.{one_shifted}
use Rattle.bits.proofs.mask.Goals as goal

pub overflow_sub-result : goal.overflow_sub-result
overflow_sub-result c = rw (one_shifted c.args.n c.requires) (pow_pos c.args.n)

pub returns : goal.returns
returns c = rw (one_shifted c.args.n c.requires)
