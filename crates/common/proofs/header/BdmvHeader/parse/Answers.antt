-- Each answer follows from the tests that led to it.
use borrow.Author.Tests.{lt-leb}
use Rattle.common.proofs.Laws.{clip_parsed, other_parsed}
use Rattle.common.proofs.header.BdmvHeader.parse.Goals as goal

pub returns-then-buf-lt-SIZE : goal.returns-then-buf-lt-SIZE
returns-then-buf-lt-SIZE c = rw (lt-leb _ _ c.if-buf-lt-SIZE.true)

pub returns-then-is_clip : goal.returns-then-is_clip
returns-then-is_clip c =
    clip_parsed c.args.buf.now c.if-buf-lt-SIZE.false c.read-header.ensures c.is_clip.ensures c.if-is_clip.true

pub returns-else-is_clip : goal.returns-else-is_clip
returns-else-is_clip c =
    other_parsed c.args.buf.now c.if-buf-lt-SIZE.false c.read-header.ensures c.is_clip.ensures c.if-is_clip.false
