-- A map of type 8 that is found answers, else the later choices.
use mathlib.Core.Path.{ap, ◌∙◌}
use Rattle.format.specs.Tables.{stated}
use Rattle.queries.specs.Answers.{found_of}
use Rattle.queries.proofs.Asking.{passed_on}
use Rattle.cpi_queries.specs.PrimaryMap.{video_or_least}
use Rattle.cpi_queries.proofs.Choice.{else_refused, else_found, else_later, choice}
use Rattle.cpi_queries.proofs.primary_video_ep_map.Goals as goal

pub returns-in_err-row : goal.returns-in_err-row
returns-in_err-row c =
    let t = stated c.args.maps.bytes.now c.args.maps.rows in
    ap found_of (passed_on c.from_residual.result c.from_residual.ensures.1) ∙ else_refused (video_or_least t) c.in_err-row.ensures ∙ choice t

pub returns-in-Some : goal.returns-in-Some
returns-in-Some c =
    let t = stated c.args.maps.bytes.now c.args.maps.rows in
    else_found (video_or_least t) (rw c.in-Some.is at c.in_ok-row.ensures) ∙ choice t

pub returns-in-None : goal.returns-in-None
returns-in-None c =
    let t = stated c.args.maps.bytes.now c.args.maps.rows in
    else_later (rw c.in-None.is at c.in_ok-row.ensures) c.video_or_least.ensures ∙ choice t
