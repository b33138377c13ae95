-- The test decides.
use borrow.Author.Tests.{le-leb, lt-leb}
use Rattle.nine_tables.specs.Room.{room_in}
use Rattle.nine_tables.proofs.room.Goals as goal

pub returns-then-bytes-size : goal.returns-then-bytes-size
unfolding room_in
returns-then-bytes-size c = simp (lt-leb _ _ c.if-bytes-size.true)

pub returns-else-bytes-size : goal.returns-else-bytes-size
unfolding room_in
returns-else-bytes-size c = simp (le-leb _ _ c.if-bytes-size.false)
