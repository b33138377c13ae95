-- The test decides between the two answers.
use borrow.Author.Tests.{le-leb, lt-leb}
use Rattle.common.proofs.reader.Reader.seek.Goals as goal

pub returns-then-pos-buf : goal.returns-then-pos-buf
returns-then-pos-buf c = rw (lt-leb _ _ c.if-pos-buf.true)

pub returns : goal.returns
returns c = rw (le-leb _ _ c.if-pos-buf.false)
