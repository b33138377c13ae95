-- A turn stores one program with its streams and goes on behind them, in the file and in the output.
use Prim.Native.Nat.{ℕ, ◌≤◌}
use mathlib.Core.Path.{ap, ◌∙◌}
use mathlib.Core.List.{List}
use native.Mathlib.Nat.{le_trans}
use native.Mathlib.Omega.{arith}
use lib.ListN.{length}
use Rattle.format.specs.Bytes.{flat}
use Rattle.format.specs.Programs.{next_program}
use Rattle.format.proofs.Loops.{end_ge}
use Rattle.format.proofs.Places.{up_program}
use Rattle.format.proofs.Rows.{as_is, rest_all, rest_done}
use Rattle.format.proofs.Sweep.{along_first, along_turn, along_within}
use Rattle.row_bytes.proofs.Storing.{storing_first, storing_done, row_room_lem, row_put}
use Rattle.rewrite_program.specs.Programs.{new_program}
use Rattle.rewrite_program.specs.declared.Places.{Places}
use Rattle.rewrite_sections.specs.Sections.{new_items}
use Rattle.rewrite_sections.proofs.Groups.{flat_gather}
use Rattle.rewrite_sections.proofs.put_items.Goals as goal

pub loop-init : goal.loop-init
loop-init c =
    let a = c.args in
    let f = a.file.now in (
      along_first (next_program f) (le_trans (end_ge (next_program f) (up_program f) a.from.file a.n) c.requires.0),
      storing_first a.out.now (new_items f a.from.file a.n) a.from.out c.requires.1
          (ap (flat as_is) (rest_all (new_program f) (next_program f) a.from.file a.n) ∙ flat_gather as_is (new_program f) (next_program f) a.from.file a.n),
    )

pub put_program-to-requires : goal.put_program-to-requires
put_program-to-requires c =
    let bytes : List ℕ = c.args.file.now in
    let within : next_program bytes c.loop.to.file ≤ length bytes = along_within c.loop.invariant.0 (up_program bytes) c.loop-test.true c.requires.0 in
    let l = c.loop in
    let f = bytes in
    (within, row_room_lem (new_program f) (next_program f) as_is l.to.file c.args.n l.counter l.invariant.1 c.loop-test.true)

pub loop-preserved : goal.loop-preserved
loop-preserved c =
    let bytes : List ℕ = c.args.file.now in
    let within : next_program bytes c.loop.to.file ≤ length bytes = along_within c.loop.invariant.0 (up_program bytes) c.loop-test.true c.requires.0 in
    let l = c.loop in
    let f = bytes in
    let put = c.put_program-to.ensures in
    let next = ap (λ (r : Places). r.file) put.value in
    let place = ap (λ (r : Places). r.out) put.value in (
      along_turn l.invariant.0 c.loop-test.true next (omega (arith, next, within)),
      row_put (new_program f) (next_program f) as_is l.to.file c.args.n l.counter l.invariant.1 c.loop-test.true put.out_after place next,
    )
