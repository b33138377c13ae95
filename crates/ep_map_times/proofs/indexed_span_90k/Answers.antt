-- A refusal stands in front of the map's own entries; else they have their span.
use mathlib.Core.Path.{ap, ◌∙◌}
use Rattle.std.proofs.lemmas.Result.{err_from_is_err_and}
use Rattle.format.specs.Questions.{ticks90}
use Rattle.format.specs.Tables.{stated}
use Rattle.ep_map_queries.proofs.Answers.{not_asked, asked}
use Rattle.ep_map_times.proofs.Lasts.{span_asks}
use Rattle.ep_map_times.proofs.indexed_span_90k.Goals as goal

pub returns-in_err-own : goal.returns-in_err-own
returns-in_err-own c =
    let a = c.args in
    let p = err_from_is_err_and c.from_residual.result c.from_residual.ensures.1 in
    rw (p.1, p.2) (not_asked (span_asks (stated a.maps.bytes.now a.maps.rows) (stated a.entries.bytes.now a.entries.rows) a.map) c.in_err-own.ensures)

pub returns : goal.returns
returns c =
    let a = c.args in
    ap (λ x. ticks90 x) c.span.ensures ∙ asked (span_asks (stated a.maps.bytes.now a.maps.rows) (stated a.entries.bytes.now a.entries.rows) a.map) c.in_ok-own.ensures
