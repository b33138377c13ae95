-- Six bytes, the header rows and the rows.
use Rattle.encode_sections.proofs.Sections.{section_is_long}
use Rattle.encode_sections.proofs.section_length.Goals as goal

pub rows_length-requires : goal.rows_length-requires
rows_length-requires c = rw c.head_kind.ensures c.requires.heads_there

pub rows_length-requires-2 : goal.rows_length-requires-2
rows_length-requires-2 c = rw c.row_kind.ensures c.requires.rows_there

pub returns : goal.returns
returns c = section_is_long c.requires (rw c.head_kind.ensures at c.rows_length.ensures.value) (rw c.row_kind.ensures at c.rows_length-2.ensures.value)
