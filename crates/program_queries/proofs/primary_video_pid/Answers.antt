-- The number in the row of the first video stream.
use mathlib.Core.Path.{ap, ◌∙◌, ◌≡◌}
use native.Mathlib.Omega.{arith}
use Rattle.std.proofs.Common.{rules}
use Rattle.format.specs.ClipRecord.{stream_pid}
use Rattle.format.specs.Questions.{number, next_video_stream, of_row, ask}
use Rattle.format.specs.Tables.{rows_of, stream_cells, stated}
use Rattle.queries.specs.Answers.{found_of}
use Rattle.queries.specs.Asked.{only_streams}
use Rattle.queries.proofs.Asking.{passed_on}
use Rattle.program_queries.proofs.Laws.{pid_of, row_there, pid_found}
use Rattle.program_queries.proofs.primary_video_pid.Goals as goal

pub returns-in_err-row : goal.returns-in_err-row
returns-in_err-row c =
    let l = stated c.args.streams.bytes.now c.args.streams.rows in
    ap found_of (passed_on c.from_residual.result c.from_residual.ensures.1) ∙ ap (of_row stream_pid (rows_of stream_cells l)) c.in_err-row.ensures ∙ pid_of l

pub map-requires : goal.map-requires
map-requires c = λ row is.
    let found : number row ≡ ask (next_video_stream 0) (only_streams (stated c.args.streams.bytes.now c.args.streams.rows)) = rw is at c.in_ok-row.ensures in
    let there = row_there _ row found in
    (λ κs v x r u. record { fits = omega (arith, there) }, λ κs v x r u l. omega (arith, there))

pub returns : goal.returns
returns c = pid_found _ c.in_ok-row.row c.map.result c.in_ok-row.ensures c.map.ensures.cases (λ row pid read. search rules)
