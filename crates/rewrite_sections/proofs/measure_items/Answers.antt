-- A turn goes on behind one program and its streams, and by the bytes that they have in the new file.
use Prim.Native.Nat.{ℕ, ◌+◌, ◌<◌, ◌≤◌}
use mathlib.Core.Path.{◌≡◌, refl, ap, ◌∙◌}
use mathlib.Core.List.{List}
use native.Mathlib.Nat.{le_trans}
use native.Mathlib.Omega.{arith}
use lib.ListN.{length}
use Rattle.format.specs.Bytes.{flat}
use Rattle.format.specs.Programs.{next_program}
use Rattle.format.proofs.Loops.{end_ge}
use Rattle.format.proofs.Places.{up_program}
use Rattle.format.proofs.Rows.{as_is, rest_all}
use Rattle.format.proofs.Sweep.{along_first, along_turn, along_within}
use Rattle.row_bytes.proofs.Storing.{Adding, row_added, rows_added}
use Rattle.rewrite_program.specs.Programs.{new_program}
use Rattle.rewrite_program.specs.declared.Places.{Places}
use Rattle.rewrite_sections.specs.Sections.{new_items}
use Rattle.rewrite_sections.proofs.Groups.{flat_gather}
use Rattle.rewrite_sections.proofs.measure_items.Goals as goal

-- a turn adds the length of the program at q
added : (f : List ℕ) (all to q n k : ℕ) → Adding (new_program f) (next_program f) as_is all to q n k → k < n
    → {q' to' : ℕ} → q' ≡ next_program f q → to' ≡ to + length (new_program f q) → Adding (new_program f) (next_program f) as_is all to' q' n (k + 1)
added f all to q n k a more e place = rw place (row_added (new_program f) (next_program f) as_is all to q n k a more refl e)

pub loop-init : goal.loop-init
loop-init c =
    let a = c.args in
    let f = a.file.now in (
      along_first (next_program f) (le_trans (end_ge (next_program f) (up_program f) a.from.file a.n) c.requires.0),
      ap (λ (l : List ℕ). a.from.out + length l) (ap (flat as_is) (rest_all (new_program f) (next_program f) a.from.file a.n) ∙ flat_gather as_is (new_program f) (next_program f) a.from.file a.n),
    )

pub measure_program-to-requires : goal.measure_program-to-requires
measure_program-to-requires c =
    let bytes : List ℕ = c.args.file.now in
    let within : next_program bytes c.loop.to.file ≤ length bytes = along_within c.loop.invariant.0 (up_program bytes) c.loop-test.true c.requires.0 in
    (within, omega (arith, added bytes (c.args.from.out + length (new_items bytes c.args.from.file c.args.n)) c.loop.to.out c.loop.to.file c.args.n c.loop.counter c.loop.invariant.1 c.loop-test.true refl refl, c.requires.1))

pub loop-preserved : goal.loop-preserved
loop-preserved c =
    let bytes : List ℕ = c.args.file.now in
    let within : next_program bytes c.loop.to.file ≤ length bytes = along_within c.loop.invariant.0 (up_program bytes) c.loop-test.true c.requires.0 in
    let next = ap (λ (r : Places). r.file) c.measure_program-to.ensures in
    let place = ap (λ (r : Places). r.out) c.measure_program-to.ensures in
    (along_turn c.loop.invariant.0 c.loop-test.true next (omega (arith, next, within)), added bytes (c.args.from.out + length (new_items bytes c.args.from.file c.args.n)) c.loop.to.out c.loop.to.file c.args.n c.loop.counter c.loop.invariant.1 c.loop-test.true next place)
