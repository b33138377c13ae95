-- The rows of the (2, 5) list.
use Rattle.std.specs.Prelude.{length, Option, None}
use Rattle.format.specs.Bytes.{pick}
use Rattle.format.specs.Programs.{programs_from, streams_from}
use Rattle.format.specs.Extensions.{Found, nothing, found, list_in}
use Rattle.info_sections.specs.Sections.{counts_told}
use Rattle.info_sections.specs.declared.SectionCounts.{SectionCounts}

-- how many programs and streams it has; absent without data, and where it passes the end of its data
unfoldable pub list_rows_of : Found → Option SectionCounts
list_rows_of nothing = None
list_rows_of (found d) = pick (list_in (found d)) (counts_told (length (programs_from d 0)) (length (streams_from d 0))) None
