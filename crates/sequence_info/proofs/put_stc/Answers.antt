-- The cells are read where the definition reads them.
use mathlib.Core.Path.{◌∙◌}
use Rattle.sequence_info.proofs.put_stc.Goals as goal

pub returns : goal.returns
returns c = c.put_row.ensures ∙ rw (c.u32_at.ensures.same, c.u32_at-2.ensures.same, c.u32_at-3.ensures.same, c.u32_at-4.ensures.same)
