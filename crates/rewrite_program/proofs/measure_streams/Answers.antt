-- A turn goes on behind one stream and by the bytes that it has in the new file.
use Prim.Native.Nat.{ℕ, ◌+◌, ◌≤◌}
use mathlib.Core.Path.{◌≡◌, refl, ap, ◌∙◌}
use mathlib.Core.List.{List}
use native.Mathlib.Nat.{le_trans}
use native.Mathlib.Omega.{arith}
use lib.ListN.{length}
use Rattle.format.specs.Bytes.{flat}
use Rattle.format.specs.ClipRecord.{Row}
use Rattle.format.specs.Programs.{stream_at, next_stream}
use Rattle.format.specs.Rewriting.{stream_bytes}
use Rattle.format.proofs.Loops.{end_ge}
use Rattle.format.proofs.Places.{up_stream}
use Rattle.format.proofs.Rows.{rest_all}
use Rattle.format.proofs.Sweep.{along_first, along_turn, along_done, along_within}
use Rattle.row_bytes.proofs.Storing.{row_added, rows_added}
use Rattle.rewrite_program.specs.Programs.{new_streams}
use Rattle.rewrite_program.proofs.Laws.{places_are}
use Rattle.rewrite_program.proofs.measure_streams.Goals as goal

the-same : (n : ℕ) → n ≡ n
the-same n = refl

pub loop-init : goal.loop-init
loop-init c =
    let a = c.args in
    let f = a.file.now in (
      along_first (next_stream f) (le_trans (end_ge (next_stream f) (up_stream f) a.from.file a.n) c.requires.0),
      ap (λ (l : List ℕ). a.from.out + length l) (ap (flat stream_bytes) (rest_all (stream_at f) (next_stream f) a.from.file a.n)),
    )

pub stream_row-requires : goal.stream_row-requires
stream_row-requires c =
    let bytes : List ℕ = c.args.file.now in
    let within : next_stream bytes c.loop.to.file ≤ length bytes = along_within c.loop.invariant.0 (up_stream bytes) c.loop-test.true c.requires.0 in
    within

pub overflow_add-to : goal.overflow_add-to
overflow_add-to c =
    let l = c.loop in
    let a = c.args in
    let f : List ℕ = a.file.now in
    let added = row_added (stream_at f) (next_stream f) stream_bytes (a.from.out + length (new_streams f a.from.file a.n)) l.to.out l.to.file a.n l.counter l.invariant.1 c.loop-test.true (c.row_length.ensures ∙ ap (λ (r : Row). length (stream_bytes r)) c.stream_row.ensures) (the-same (next_stream f l.to.file)) in
    record { fits = omega (arith, added, c.requires.1) }

pub next_stream-requires : goal.next_stream-requires
next_stream-requires c =
    let bytes : List ℕ = c.args.file.now in
    let within : next_stream bytes c.loop.to.file ≤ length bytes = along_within c.loop.invariant.0 (up_stream bytes) c.loop-test.true c.requires.0 in
    within

pub loop-preserved : goal.loop-preserved
loop-preserved c =
    let bytes : List ℕ = c.args.file.now in
    let within : next_stream bytes c.loop.to.file ≤ length bytes = along_within c.loop.invariant.0 (up_stream bytes) c.loop-test.true c.requires.0 in
    let next = c.next_stream.ensures in
    let l = c.loop in
    let a = c.args in
    let f : List ℕ = a.file.now in
    let added = row_added (stream_at f) (next_stream f) stream_bytes (a.from.out + length (new_streams f a.from.file a.n)) l.to.out l.to.file a.n l.counter l.invariant.1 c.loop-test.true (c.row_length.ensures ∙ ap (λ (r : Row). length (stream_bytes r)) c.stream_row.ensures) next in
    (along_turn c.loop.invariant.0 c.loop-test.true next (omega (arith, next, within)), added)
