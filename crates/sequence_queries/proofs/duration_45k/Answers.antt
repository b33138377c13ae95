-- Rows that are not there, and a row number outside them, are refused; else the row answers.
use Prim.Native.Nat.{ℕ}
use mathlib.Core.Path.{◌≡◌, refl, ap, ◌∙◌}
use Rattle.format.specs.Questions.{duration45k, ticks45, duration_of, of_stc, answer}
use Rattle.format.specs.Tables.{Table, rows_of, stc_cells, clip_in}
use Rattle.queries.specs.Asked.{only_stcs}
use Rattle.queries.specs.Answers.{time45_of}
use Rattle.queries.proofs.Asking.{passed_on}
use Rattle.sequence_queries.proofs.Laws.{refused_by, no_row, row_answers}
use Rattle.sequence_queries.proofs.duration_45k.Goals as goal

-- the question is about one row
asks : (k : ℕ) (u : Table) → answer (duration45k k) (clip_in (only_stcs u)) ≡ of_stc (rows_of stc_cells u) k (λ s. ticks45 (duration_of s))
unfolding answer clip_in
asks k u = refl

pub returns-in_err-stcs : goal.returns-in_err-stcs
returns-in_err-stcs c = ap time45_of (passed_on c.from_residual.result c.from_residual.ensures.1) ∙ refused_by (duration45k c.args.stc) _ refl c.in_err-stcs.ensures

pub returns-then-stc-stcs : goal.returns-then-stc-stcs
returns-then-stc-stcs c = no_row (duration45k c.args.stc) _ refl _ c.in_ok-stcs.ensures c.args.stc _ (asks c.args.stc _) c.if-stc-stcs.true

pub returns : goal.returns
returns c = ap (λ x. ticks45 x) c.duration.ensures ∙ row_answers (duration45k c.args.stc) _ refl _ c.in_ok-stcs.ensures c.args.stc _ (asks c.args.stc _) c.if-stc-stcs.false
