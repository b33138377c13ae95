-- The letters are HDMV, or else the answer is the test for CLPI.
use borrow.Author.Tests.{eq-eqb, ne_eqb}
use Rattle.common.proofs.header.is_clip.Goals as goal

pub returns-then-letters-eq-HDMV : goal.returns-then-letters-eq-HDMV
returns-then-letters-eq-HDMV c = rw (eq-eqb _ _ c.if-letters-eq-HDMV.true)

pub returns-else-letters-eq-HDMV : goal.returns-else-letters-eq-HDMV
returns-else-letters-eq-HDMV c = rw (ne_eqb _ _ c.if-letters-eq-HDMV.false)
