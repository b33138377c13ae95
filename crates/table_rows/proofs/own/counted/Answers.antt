-- Rows that are not there are refused; with both tables there the counts decide.
use mathlib.Core.Path.{sym, ap, ◌∙◌}
use borrow.Author.Tests.{ne_eqb}
use Rattle.std.proofs.Common.{Ok}
use Rattle.std.proofs.lemmas.Bool.{eq-eqb}
use Rattle.format.specs.Tables.{Table}
use Rattle.table_rows.proofs.AllRows.{told, returned}
use Rattle.table_rows.proofs.OwnRows.{no_heads, no_rows, counted_lem}
use Rattle.table_rows.proofs.own.counted.Goals as goal

pub returns-in_err-heads : goal.returns-in_err-heads
returns-in_err-heads c =
    let r = returned _ _ c.from_residual.result c.from_residual.ensures.1 c.in_err-heads.ensures in
    rw (r.1, no_heads _ _ _ _ r.0)

pub returns-then-not-is_stated : goal.returns-then-not-is_stated
returns-then-not-is_stated c = rw (no_rows _ _ _ _ (told _ _ c.in_ok-heads.ensures).0 (sym c.is_stated.ensures ∙ c.if-not-is_stated.true))

pub returns-then-count_rows-from : goal.returns-then-count_rows-from
returns-then-count_rows-from c =
    let all = counted_lem _ _ _ _ (told _ _ c.in_ok-heads.ensures) (sym c.is_stated.ensures ∙ c.if-not-is_stated.false) c.count_rows.ensures in
    rw (all, ne_eqb _ _ (rw c.from.ensures at c.if-count_rows-from.true))

pub returns : goal.returns
returns c =
    let h = told _ _ c.in_ok-heads.ensures in
    let all = counted_lem _ _ _ _ h (sym c.is_stated.ensures ∙ c.if-not-is_stated.false) c.count_rows.ensures in
    rw (all, eq-eqb _ _ (c.if-count_rows-from.false ∙ c.from.ensures)) (ap (λ (u : Table). Ok u) h.1)
