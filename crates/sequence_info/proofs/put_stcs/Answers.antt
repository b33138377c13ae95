-- A turn stores one row: the next 14 bytes of the file to the next 16 of the table.
use Prim.Native.Nat.{◌+◌, ◌*◌}
use mathlib.Core.Path.{◌≡◌, refl, sym}
use native.Mathlib.Nat.{add-zero}
use native.Mathlib.Omega.{arith}
use Rattle.format.specs.ClipRecord.{stc_at, next_stc}
use Rattle.format.proofs.Loops.{end_ge}
use Rattle.format.proofs.Sweep.{along_first, along_turn, along_within, end_steps, filling_rows, row_room_lem, row_put, filled}
use Rattle.format.proofs.Places.{up_stc}
use Rattle.sequence_info.proofs.put_stcs.Goals as goal

pub loop-k-init : goal.loop-k-init
loop-k-init c =
    let a = c.args in
    rw (add-zero a.p, add-zero a.at)
    (along_first next_stc (omega (arith, end_ge next_stc up_stc a.p a.n)), filling_rows 4 (stc_at a.file.now) next_stc (λ q. refl) a.table.now a.at a.p a.n c.requires.1)

pub put_stc-requires : goal.put_stc-requires
put_stc-requires c =
    let l = c.loop-k in
    let more = c.loop-k-test.true in
    (along_within l.invariant.0 up_stc more c.requires.0, row_room_lem (stc_at c.args.file.now) next_stc l.invariant.1 more)

pub loop-k-preserved : goal.loop-k-preserved
loop-k-preserved c =
    let a = c.args in
    let l = c.loop-k in
    let more = c.loop-k-test.true in
    let next : a.p + 14 * (l.k + 1) ≡ next_stc (a.p + 14 * l.k) = omega arith in
    let cell : a.at + 16 * l.k + 16 ≡ a.at + 16 * (l.k + 1) = omega arith in (
      along_turn l.invariant.0 more next (rw next (along_within l.invariant.0 up_stc more c.requires.0)),
      rw cell at (row_put (stc_at a.file.now) next_stc l.invariant.1 more c.put_stc.ensures next),
    )

pub returns : goal.returns
returns c =
    let a = c.args in
    let l = c.loop-k in
    record { value = sym (end_steps 14 a.p a.n); table_after = filled (λ q. refl) l.invariant.1 c.loop-k-test.false }
