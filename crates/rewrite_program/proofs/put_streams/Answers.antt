-- A turn stores one stream and goes on behind it, in the file and in the output.
use Prim.Native.Nat.{ℕ, ◌+◌, ◌≤◌}
use mathlib.Core.Path.{ap, sym, subst}
use mathlib.Core.List.{List}
use native.Mathlib.Nat.{le_trans}
use native.Mathlib.Omega.{arith}
use lib.ListN.{length}
use Rattle.format.specs.Bytes.{flat}
use Rattle.format.specs.ClipRecord.{Row}
use Rattle.format.specs.Programs.{stream_at, next_stream}
use Rattle.format.specs.Rewriting.{stream_bytes}
use Rattle.format.proofs.Loops.{end_ge}
use Rattle.format.proofs.Places.{up_stream}
use Rattle.format.proofs.Rows.{rest_all, rest_done}
use Rattle.format.proofs.Sweep.{along_first, along_turn, along_done, along_within}
use Rattle.row_bytes.proofs.Storing.{storing_first, storing_done, row_room_lem, row_put}
use Rattle.rewrite_program.specs.Programs.{new_streams}
use Rattle.rewrite_program.proofs.Laws.{places_are, row_as}
use Rattle.rewrite_program.proofs.put_streams.Goals as goal

pub loop-init : goal.loop-init
loop-init c =
    let a = c.args in
    let f = a.file.now in (
      along_first (next_stream f) (le_trans (end_ge (next_stream f) (up_stream f) a.from.file a.n) c.requires.0),
      storing_first a.out.now (new_streams f a.from.file a.n) a.from.out c.requires.1 (ap (flat stream_bytes) (rest_all (stream_at f) (next_stream f) a.from.file a.n)),
    )

pub stream_row-requires : goal.stream_row-requires
stream_row-requires c =
    let bytes : List ℕ = c.args.file.now in
    let within : next_stream bytes c.loop.to.file ≤ length bytes = along_within c.loop.invariant.0 (up_stream bytes) c.loop-test.true c.requires.0 in
    within

pub put_row-requires : goal.put_row-requires
put_row-requires c =
    let l = c.loop in
    let f : List ℕ = c.args.file.now in
    let fits : l.to.out + length (stream_bytes (stream_at f l.to.file)) ≤ length l.out = row_room_lem (stream_at f) (next_stream f) stream_bytes l.to.file c.args.n l.counter l.invariant.1 c.loop-test.true in
    subst (λ (row : Row). l.to.out + length (stream_bytes row) ≤ length l.out) (sym c.stream_row.ensures) fits

pub next_stream-requires : goal.next_stream-requires
next_stream-requires c =
    let bytes : List ℕ = c.args.file.now in
    let within : next_stream bytes c.loop.to.file ≤ length bytes = along_within c.loop.invariant.0 (up_stream bytes) c.loop-test.true c.requires.0 in
    within

pub loop-preserved : goal.loop-preserved
loop-preserved c =
    let bytes : List ℕ = c.args.file.now in
    let within : next_stream bytes c.loop.to.file ≤ length bytes = along_within c.loop.invariant.0 (up_stream bytes) c.loop-test.true c.requires.0 in
    let l = c.loop in
    let f = bytes in
    let next = c.next_stream.ensures in
    let row = c.stream_row.ensures in
    let put = row_as stream_bytes l.out l.to.out row (c.put_row.ensures.value, c.put_row.ensures.out_after) in (
      along_turn l.invariant.0 c.loop-test.true next (omega (arith, next, within)),
      row_put (stream_at f) (next_stream f) stream_bytes l.to.file c.args.n l.counter l.invariant.1 c.loop-test.true put.1 put.0 next,
    )
