-- Rows that are not there are refused; the search of those that are answers the question.
use Prim.Native.Nat.{◌%◌}
use mathlib.Core.Path.{ap, ◌∙◌}
use Rattle.format.specs.Questions.{is_video_map}
use Rattle.std.proofs.Common.{rules}
use Rattle.queries.specs.Answers.{found_of}
use Rattle.table_rows.specs.OwnRows.{cell_in}
use Rattle.table_rows.proofs.AllRows.{told, returned}
use Rattle.row_search.proofs.FirstRow.{not_stated, asked_row}
use Rattle.cpi_queries.proofs.Choice.{video_asked}
use Rattle.cpi_queries.proofs.next_video_ep_map.Goals as goal

pub returns-in_err-maps : goal.returns-in_err-maps
returns-in_err-maps c = let r = returned _ _ c.from_residual.result c.from_residual.ensures.1 c.in_err-maps.ensures in ap found_of r.1 ∙ not_stated _ _ _ _ r.0 ∙ video_asked _ c.args.from

pub returns : goal.returns
returns c = c.first_row.ensures (λ r. is_video_map (cell_in 1 r % 16)) (λ k within passes post. search rules) ∙ asked_row _ _ _ _ (told _ _ c.in_ok-maps.ensures) ∙ video_asked _ c.args.from
