-- A turn stores one row and goes on behind the body of the file and by 20 bytes of the table.
use Prim.Native.Nat.{◌+◌, ◌*◌}
use mathlib.Core.Path.{◌≡◌, refl}
use native.Mathlib.Nat.{add-zero}
use native.Mathlib.Omega.{arith}
use Rattle.format.specs.Programs.{stream_at, next_stream}
use Rattle.format.proofs.Loops.{end_ge}
use Rattle.format.proofs.Sweep.{along_first, along_turn, along_done, along_within, filling_rows, row_room_lem, row_put, filled}
use Rattle.format.proofs.Places.{up_stream}
use Rattle.program_info.proofs.put_streams.Goals as goal

pub loop-k-init : goal.loop-k-init
loop-k-init c =
    let a = c.args in
    let f = a.file.now in
    rw (add-zero a.at) (
      along_first (next_stream f) (omega (arith, end_ge (next_stream f) (up_stream f) a.p a.n)),
      filling_rows 5 (stream_at f) (next_stream f) (λ q. refl) a.table.now a.at a.p a.n c.requires.1,
    )

pub put_stream-requires : goal.put_stream-requires
put_stream-requires c =
    let l = c.loop-k in
    let f = c.args.file.now in
    let more = c.loop-k-test.true in
    (along_within l.invariant.0 (up_stream f) more c.requires.0, row_room_lem (stream_at f) (next_stream f) l.invariant.1 more)

pub u32_at-requires : goal.u32_at-requires
u32_at-requires c =
    let f = c.args.file.now in
    omega (arith, along_within c.loop-k.invariant.0 (up_stream f) c.loop-k-test.true c.requires.0)

pub loop-k-preserved : goal.loop-k-preserved
loop-k-preserved c =
    let a = c.args in
    let l = c.loop-k in
    let f = a.file.now in
    let more = c.loop-k-test.true in
    let next : l.q + 3 + c.u32_at.result ≡ next_stream f l.q = rw c.u32_at.ensures.same in
    let cell : a.at + 20 * l.k + 20 ≡ a.at + 20 * (l.k + 1) = omega arith in (
      along_turn l.invariant.0 more next (rw next (along_within l.invariant.0 (up_stream f) more c.requires.0)),
      rw cell at (row_put (stream_at f) (next_stream f) l.invariant.1 more c.put_stream.ensures next),
    )

pub returns : goal.returns
returns c =
    let l = c.loop-k in
    record { value = along_done l.invariant.0 c.loop-k-test.false; table_after = filled (λ q. refl) l.invariant.1 c.loop-k-test.false }
