-- Rows that are not there are refused; the search of those that are answers the question.
use mathlib.Core.Path.{ap, ◌∙◌}
use Rattle.std.proofs.Common.{rules}
use Rattle.queries.specs.Answers.{found_of}
use Rattle.table_rows.proofs.AllRows.{told, returned}
use Rattle.row_search.proofs.FirstRow.{not_stated, asked_row}
use Rattle.extension_queries.proofs.Search.{has_ids, entry_asked}
use Rattle.extension_queries.proofs.entry.Goals as goal

pub returns-in_err-extensions : goal.returns-in_err-extensions
returns-in_err-extensions c =
    let r = returned _ _ c.from_residual.result c.from_residual.ensures.1 c.in_err-extensions.ensures in
    ap found_of r.1 ∙ not_stated _ _ _ _ r.0 ∙ entry_asked c.args.id1 c.args.id2 _

pub returns : goal.returns
returns c = c.first_row.ensures (has_ids c.args.id1 c.args.id2) (λ k within passes post. search rules) ∙ asked_row _ _ _ _ (told _ _ c.in_ok-extensions.ensures) ∙ entry_asked c.args.id1 c.args.id2 _
