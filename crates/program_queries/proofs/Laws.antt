-- What the searches of the tables of programs and streams answer.
use Prim.Native.Nat.{ℕ, ◌+◌, ◌*◌, ◌<◌, ◌≤◌}
use mathlib.Core.Path.{◌≡◌, refl, ap, ◌∙◌}
use native.Mathlib.Omega.{arith}
use mathlib.Core.List.{map}
use mathlib.Core.Bool.{Bool, true, false}
use lib.Dec.{eqb, lit<}
use lib.ListN.{length-map}
use borrow.Author.Tests.{leb-true}
use Rattle.std.proofs.Common.{Option, None, Some, Ok}
use Rattle.std.specs.Option.{MatchOption, IsSomeAnd}
use Rattle.format.specs.Bytes.{both}
use Rattle.format.specs.ClipRecord.{stream_pid, coding_type_of}
use Rattle.format.specs.Programs.{is_video}
use Rattle.format.specs.Questions.{number, is_audio, first_where, unless22, of_row, video_pid, primary_video_pid, stream_by_pid, program_by_pmt_pid, next_video_stream, next_audio_stream, answer, ask}
use Rattle.format.specs.Questions as of
use Rattle.format.specs.Tables.{Table, is_stated, rows_of, row_room, cells_at, table_rows_of, clip_in, program_cells, stream_cells}
use Rattle.format.proofs.Lookups.{first_row_lem}
use Rattle.format.proofs.Rows.{rows_length}
use Rattle.format.proofs.Tests.{both_true}
use Rattle.cells.specs.Reads.{CellIs}
use Rattle.queries.specs.Answers.{found_of}
use Rattle.queries.specs.Asked.{only_programs, only_streams}
use Rattle.row_search.specs.FirstRow.{ask_row}
use Rattle.queries.proofs.Asking.{through_test}
use Rattle.table_rows.specs.OwnRows.{cell_in}
use Rattle.row_search.proofs.FirstRow.{row_answers, by_number, next_by_number, of_row_lem}

-- a program by its PID
pub program_asked : (t : Table) (pid : ℕ) → ask_row program_cells 0 (λ r. eqb (cell_in 1 r) pid) t ≡ ask (program_by_pmt_pid pid) (only_programs t)
unfolding answer clip_in
program_asked t pid =
    row_answers (program_by_pmt_pid pid) (only_programs t) of.programs program_cells 0 (λ r. eqb (cell_in 1 r) pid) t refl refl
    (by_number (cell_in 1) (λ y. eqb y pid) 0 (rows_of program_cells t))

-- a stream by its PID
pub stream_asked : (t : Table) (pid : ℕ) → ask_row stream_cells 0 (λ r. eqb (cell_in 0 r) pid) t ≡ ask (stream_by_pid pid) (only_streams t)
unfolding answer clip_in
stream_asked t pid =
    row_answers (stream_by_pid pid) (only_streams t) of.streams stream_cells 0 (λ r. eqb (cell_in 0 r) pid) t refl refl
    (by_number (cell_in 0) (λ y. eqb y pid) 0 (rows_of stream_cells t))

-- the next video stream, and the next audio stream
pub video_asked : (t : Table) (from : ℕ) → ask_row stream_cells from (λ r. is_video (cell_in 1 r)) t ≡ ask (next_video_stream from) (only_streams t)
unfolding answer clip_in
video_asked t from =
    row_answers (next_video_stream from) (only_streams t) of.streams stream_cells from (λ r. is_video (cell_in 1 r)) t refl refl
    (next_by_number (cell_in 1) is_video from (rows_of stream_cells t))

-- the first row from one on whose coding type is audio is the next audio stream
pub audio_asked : (t : Table) (from : ℕ) → ask_row stream_cells from (λ r. is_audio (cell_in 1 r)) t ≡ ask (next_audio_stream from) (only_streams t)
unfolding answer clip_in
audio_asked t from =
    row_answers (next_audio_stream from) (only_streams t) of.streams stream_cells from (λ r. is_audio (cell_in 1 r)) t refl refl
    (next_by_number (cell_in 1) is_audio from (rows_of stream_cells t))

-- ---- the PID of the first video stream

-- it is that of the row that is found
pub pid_of : (t : Table) → of_row stream_pid (rows_of stream_cells t) (ask (next_video_stream 0) (only_streams t)) ≡ ask primary_video_pid (only_streams t)
unfolding ask answer clip_in video_pid
pid_of t = go (is_stated stream_cells t)
  where
    go : (b : Bool)
        → of_row stream_pid (rows_of stream_cells t) (unless22 (both b true) (first_where is_video 0 (map coding_type_of (rows_of stream_cells t))))
        ≡ unless22 (both b true) (of_row stream_pid (rows_of stream_cells t) (first_where is_video 0 (map coding_type_of (rows_of stream_cells t))))
    go true = refl
    go false = refl

-- that row is one of the table's
pub row_there : (t : Table) (k : ℕ) → number k ≡ ask (next_video_stream 0) (only_streams t) → (k < t.rows) × (t.rows ≤ row_room stream_cells t.bytes)
unfolding ask answer clip_in table_rows_of
row_there t k h =
    let codings = map coding_type_of (rows_of stream_cells t) in
    let through = through_test (both (is_stated stream_cells t) true) (first_where is_video 0 codings) h in
    let there = leb-true t.rows (row_room stream_cells t.bytes) (both_true through.0).0 in
    let row = first_row_lem is_video codings k through.1 in
    (rw (length-map (rows_of stream_cells t) coding_type_of, rows_length (cells_at t.bytes stream_cells) (λ p. p + 4 * stream_cells) 0 t.rows) at row, there)

-- the PID that is read at the found row, and none without one
pub pid_found : (t : Table) {Read : ℕ → ℕ → Type 0} (row pid : Option ℕ) → found_of (Ok row) ≡ ask (next_video_stream 0) (only_streams t) → MatchOption row (pid ≡ None) (λ k. IsSomeAnd pid (Read k))
    → ((k v : ℕ) → Read k v → CellIs t.bytes (20 * k) v) → found_of (Ok pid) ≡ ask primary_video_pid (only_streams t)
pid_found t None pid asked is cell = rw is (ap (of_row stream_pid (rows_of stream_cells t)) asked ∙ pid_of t)
pid_found t (Some k) None asked is cell = absurd is
pid_found t (Some k) (Some v) asked is cell =
    of_row_lem stream_cells 0 t k (row_there t k asked).0 (lit< tt) (omega arith) (cell k v is) ∙ ap (of_row stream_pid (rows_of stream_cells t)) asked ∙ pid_of t
