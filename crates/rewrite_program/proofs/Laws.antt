-- Places, stored rows by other words, and a program with its streams.
use Prim.Native.Nat.{ℕ, ◌+◌, ◌≤◌}
use mathlib.Core.Path.{◌≡◌, refl, ap, ◌∙◌}
use mathlib.Core.List.{List, ◌++◌}
use native.Mathlib.Omega.{arith}
use lib.ListN.{length, length-append}
use lib.Seq.{sets}
use Rattle.format.specs.Bytes.{be_at, end_of}
use Rattle.format.specs.ClipRecord.{Row}
use Rattle.format.specs.Programs.{program_at, next_stream, next_program}
use Rattle.format.specs.Rewriting.{program_bytes}
use Rattle.row_values.proofs.Lengths.{program_length}
use Rattle.format.proofs.Stores.{part_then}
use Rattle.row_bytes.proofs.Storing.{first_room, second_room}
use Rattle.rewrite_program.specs.Programs.{new_streams, streams_behind, new_program, program_behind}
use Rattle.rewrite_program.specs.declared.Places.{Places}

-- places, by other words for each
pub places_are : {file file' out out' : ℕ} → file ≡ file' → out ≡ out' → ◌≡◌ {A = Places} (record { file = file; out = out }) (record { file = file'; out = out' })
places_are e h = rw (e, h)

-- a row that was stored, and the place behind it, by other words for its cells
pub row_as : (bytes : Row → List ℕ) (o : List ℕ) (at : ℕ) {row row' : Row} {o' : List ℕ} {r : ℕ} → row ≡ row'
    → (r ≡ at + length (bytes row)) × (o' ≡ sets o at (bytes row)) → (r ≡ at + length (bytes row')) × (o' ≡ sets o at (bytes row'))
row_as bytes o at e h = rw e at h

module _ (f : List ℕ) (p : ℕ) {n : ℕ} (count : n ≡ be_at f (p + 6) 1) where
  -- a program takes eight bytes, and then its streams
  pub program_long : length (new_program f p) ≡ 8 + length (new_streams f (p + 8) n)
  program_long =
      let head = program_at f p in
      rw count (length-append (program_bytes head) (new_streams f (p + 8) (be_at f (p + 6) 1)) ∙ rw (program_length (be_at f p 4) (be_at f (p + 4) 2) (be_at f (p + 6) 1)))

  -- where its streams end, it ends
  pub program_ends : (at : ℕ) {to : ℕ} {r : Places} → to ≡ at + 8 → r ≡ streams_behind f (p + 8) n to → r ≡ program_behind f p at
  program_ends at place e = e ∙ places_are (ap (end_of (next_stream f) (p + 8)) count) (omega (arith, place, program_long))

  -- where it ends within the file, they do
  pub streams_within : next_program f p ≤ length f → end_of (next_stream f) (p + 8) n ≤ length f
  streams_within h = rw count h

  -- its own bytes are stored from `at` on, with the place `to` behind them
  module _ (o : List ℕ) (at : ℕ) {row : Row} {to : ℕ} {o' : List ℕ} (is : row ≡ program_at f p)
      (put : (to ≡ at + length (program_bytes row)) × (o' ≡ sets o at (program_bytes row))) where
    -- that place is eight bytes on
    pub head_place : to ≡ at + 8
    head_place = (row_as program_bytes o at is put).0 ∙ ap (λ (k : ℕ). at + k) (program_length (be_at f p 4) (be_at f (p + 4) 2) (be_at f (p + 6) 1))

    -- then its streams have room
    pub streams_room : at + length (new_program f p) ≤ length o → to + length (new_streams f (p + 8) n) ≤ length o'
    streams_room h =
        let head = row_as program_bytes o at is put in
        rw count (second_room o (program_bytes (program_at f p)) (new_streams f (p + 8) (be_at f (p + 6) 1)) at h head.0 head.1)

    -- and stored behind it make the whole
    pub streams_put : {o'' : List ℕ} → o'' ≡ sets o' to (new_streams f (p + 8) n) → o'' ≡ sets o at (new_program f p)
    streams_put e =
        let head = row_as program_bytes o at is put in
        part_then o at (length (program_bytes (program_at f p))) (program_bytes (program_at f p)) (new_streams f (p + 8) n) refl head.0 head.1 e
        ∙ ap (λ (k : ℕ). sets o at (program_bytes (program_at f p) ++ new_streams f (p + 8) k)) count

-- a program's own bytes have room where it has
pub head_room : (f : List ℕ) (p : ℕ) (o : List ℕ) (at : ℕ) {row : Row} → row ≡ program_at f p → at + length (new_program f p) ≤ length o
    → at + length (program_bytes row) ≤ length o
head_room f p o at e h = rw e (first_room o (program_bytes (program_at f p)) (new_streams f (p + 8) (be_at f (p + 6) 1)) at h)
