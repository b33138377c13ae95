-- The scalars and the number of marks, of a file whose header and marks are there.
use native.Mathlib.Omega.{arith}
use Rattle.clip_sections.proofs.Laws.{accepted_bounds}
use Rattle.clip_information.proofs.ReadLaws.{marks_there, accepted_as}
use Rattle.clip_information.proofs.read.Accepted.of.Goals as goal

pub clip_info-requires : goal.clip_info-requires
clip_info-requires c = (accepted_bounds c.args.file.now c.requires).1

pub read-requires : goal.read-requires
read-requires c = omega (arith, accepted_bounds c.args.file.now c.requires)

pub mark_count-requires : goal.mark_count-requires
mark_count-requires c = marks_there c.args.file.now c.requires c.read.ensures.marks

pub returns : goal.returns
returns c = accepted_as c.args.file.now c.clip_info.ensures c.read.ensures.marks c.mark_count.ensures c.is_some.ensures
