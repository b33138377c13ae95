-- Rows that are not there are refused; the search of those that are answers the question.
use mathlib.Core.Path.{ap, ◌∙◌}
use lib.Dec.{eqb}
use Rattle.std.proofs.Common.{rules}
use Rattle.queries.specs.Answers.{found_of}
use Rattle.table_rows.specs.OwnRows.{cell_in}
use Rattle.table_rows.proofs.AllRows.{told, returned}
use Rattle.row_search.proofs.FirstRow.{not_stated, asked_row}
use Rattle.program_queries.proofs.Laws.{program_asked}
use Rattle.program_queries.proofs.program_by_pmt_pid.Goals as goal

pub returns-in_err-programs : goal.returns-in_err-programs
returns-in_err-programs c = let r = returned _ _ c.from_residual.result c.from_residual.ensures.1 c.in_err-programs.ensures in ap found_of r.1 ∙ not_stated _ _ _ _ r.0 ∙ program_asked _ c.args.pid

pub returns : goal.returns
returns c = c.first_row.ensures (λ r. eqb (cell_in 1 r) c.args.pid) (λ k within passes post. search rules) ∙ asked_row _ _ _ _ (told _ _ c.in_ok-programs.ensures) ∙ program_asked _ c.args.pid
