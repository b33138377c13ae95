-- Rows that are not there, and a row number outside them, are refused; else the minutes are added up from the row on.
use Prim.Native.Nat.{ℕ, suc}
use mathlib.Core.Path.{◌≡◌, refl, ap, ◌∙◌}
use lib.ListN.{drop}
use Rattle.format.specs.Ticks.{Ticks90}
use Rattle.format.specs.Questions.{minutes_remaining, number, minutes_left, of_stc, answer}
use Rattle.format.specs.Tables.{Table, rows_of, stc_cells, clip_in}
use Rattle.ticks.specs.Times.{as90}
use Rattle.queries.specs.Asked.{only_stcs}
use Rattle.queries.specs.Answers.{found_of}
use Rattle.queries.proofs.Asking.{passed_on}
use Rattle.sequence_queries.proofs.Laws.{refused_by, no_row, row_answers}
use Rattle.sequence_queries.proofs.minutes_remaining.Goals as goal

-- the question is about one row, with those behind it
asks : (k : ℕ) (at : Ticks90) (u : Table) → answer (minutes_remaining k at) (clip_in (only_stcs u)) ≡ of_stc (rows_of stc_cells u) k (λ s. number (minutes_left s (drop (suc k) (rows_of stc_cells u)) at))
unfolding answer clip_in
asks k at u = refl

pub returns-in_err-stcs : goal.returns-in_err-stcs
returns-in_err-stcs c = ap found_of (passed_on c.from_residual.result c.from_residual.ensures.1) ∙ refused_by (minutes_remaining c.args.stc (as90 c.args.at)) _ refl c.in_err-stcs.ensures

pub returns-then-stc-stcs : goal.returns-then-stc-stcs
returns-then-stc-stcs c =
    ap number c.minutes_from.ensures ∙ row_answers (minutes_remaining c.args.stc (as90 c.args.at)) _ refl _ c.in_ok-stcs.ensures c.args.stc _ (asks c.args.stc (as90 c.args.at) _) c.if-stc-stcs.true

pub returns : goal.returns
returns c = no_row (minutes_remaining c.args.stc (as90 c.args.at)) _ refl _ c.in_ok-stcs.ensures c.args.stc _ (asks c.args.stc (as90 c.args.at) _) c.if-stc-stcs.false
