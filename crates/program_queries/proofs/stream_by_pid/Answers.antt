-- Rows that are not there are refused; the search of those that are answers the question.
use mathlib.Core.Path.{ap, ◌∙◌}
use lib.Dec.{eqb}
use Rattle.std.proofs.Common.{rules}
use Rattle.queries.specs.Answers.{found_of}
use Rattle.table_rows.specs.OwnRows.{cell_in}
use Rattle.table_rows.proofs.AllRows.{told, returned}
use Rattle.row_search.proofs.FirstRow.{not_stated, asked_row}
use Rattle.program_queries.proofs.Laws.{stream_asked}
use Rattle.program_queries.proofs.stream_by_pid.Goals as goal

pub returns-in_err-streams : goal.returns-in_err-streams
returns-in_err-streams c = let r = returned _ _ c.from_residual.result c.from_residual.ensures.1 c.in_err-streams.ensures in ap found_of r.1 ∙ not_stated _ _ _ _ r.0 ∙ stream_asked _ c.args.pid

pub returns : goal.returns
returns c = c.first_row.ensures (λ r. eqb (cell_in 0 r) c.args.pid) (λ k within passes post. search rules) ∙ asked_row _ _ _ _ (told _ _ c.in_ok-streams.ensures) ∙ stream_asked _ c.args.pid
