-- A refusal stands in front of the map's own entries; of these the nearest answers.
use mathlib.Core.Path.{◌∙◌}
use Rattle.std.proofs.lemmas.Result.{err_from_is_err_and}
use Rattle.format.specs.Tables.{stated}
use Rattle.ep_map_queries.proofs.Answers.{find_asks, not_asked, asked}
use Rattle.ep_map_queries.proofs.entries.find.Goals as goal

pub returns-in_err-own : goal.returns-in_err-own
returns-in_err-own c =
    let a = c.args in
    let p = err_from_is_err_and c.from_residual.result c.from_residual.ensures.1 in
    rw (p.1, p.2) (not_asked (find_asks (stated a.maps.bytes.now a.maps.rows) (stated a.entries.bytes.now a.entries.rows) a.map a.side a.at.0) c.in_err-own.ensures)

pub returns : goal.returns
returns c =
    let a = c.args in
    rw c.from.ensures at c.find_in.ensures ∙ asked (find_asks (stated a.maps.bytes.now a.maps.rows) (stated a.entries.bytes.now a.entries.rows) a.map a.side a.at.0) c.in_ok-own.ensures
