-- How long the new sections are: counts are bytes, so that each length fits its four.
use Prim.Native.Nat.{ℕ, ◌+◌, ◌*◌, ◌^◌, ◌<◌, ◌≤◌}
use mathlib.Core.Path.{◌≡◌, refl, ap, ◌∙◌}
use mathlib.Core.List.{List, [], ◌∷◌}
use native.Mathlib.Omega.{arith}
use lib.ListN.{length, length-append}
use Rattle.format.specs.Bytes.{IsBytes, be_at, part}
use Rattle.format.specs.ClipRecord.{atc_at, stc_at, next_stc, stcs_of, next_atc, atcs_from, stcs_from, sequences_end}
use Rattle.format.specs.Programs.{is_video, coding_at, format_at, aspect_at, language_at, program_at, stream_at, next_stream, next_program}
use Rattle.format.specs.Rewriting.{program_bytes, stream_bytes}
use Rattle.format.proofs.Counts.{gather_few, byte_few}
use Rattle.format.proofs.Rows.{rows_length}
use Rattle.row_values.specs.declared.RowKind.{RowKind}
use Rattle.row_values.proofs.Lengths.{program_length, row_short}
use Rattle.section_heads.proofs.Stored.{section_head, section_head_lem}
use Rattle.rewrite_program.specs.Programs.{new_streams, new_program}
use Rattle.rewrite_sections.specs.Sections.{new_sequences, new_programs}
use Rattle.format.proofs.Lists.{part_length}
use Rattle.rewrite_sections.proofs.Groups.{flat_gather, sequences_end_lem, sequences_are, programs_long}

module _ (f : List ℕ) (bytes : IsBytes f) where
  module _ (start : ℕ) where
    -- a byte of ATCs, and behind each a byte of STCs
    pub sequences_short : 6 + 6 * length (atcs_from f start) + 14 * length (stcs_from f start) < 2 ^ 32
    unfolding atcs_from stcs_from
    sequences_short =
        let n = be_at f (start + 5) 1 in
        let stcs = gather_few (stcs_of f) (next_atc f) 255 (λ q. rw (rows_length (stc_at f) next_stc (q + 6) (be_at f (q + 4) 1)) (byte_few f bytes (q + 4))) (start + 6) n in
        omega (arith, stcs, rows_length (atc_at f) (next_atc f) (start + 6) n, byte_few f bytes (start + 5))

    -- the length of the new sequences
    pub sequences_long : sequences_end f start ≤ length f → length (new_sequences f start) ≡ 6 + 6 * length (atcs_from f start) + 14 * length (stcs_from f start)
    sequences_long h =
        let items = 6 * length (atcs_from f start) + 14 * length (stcs_from f start) in
        let long = part_length f (start + 6) items (omega (arith, sequences_end_lem f start)) in
        let head = section_head (2 + items) (length (atcs_from f start)) in
        ap length (sequences_are f start bytes h refl refl)
        ∙ omega (arith, length-append head (part f (start + 6) items), section_head_lem (2 + items) (length (atcs_from f start)), long)

  -- a stream as a row by value has at most 14 bytes
  stream_few : (q : ℕ) → length (stream_bytes (stream_at f q)) ≤ 14
  stream_few q =
      let size = be_at f (q + 2) 1 in
      let coding = coding_at f (q + 3) size in
      let v = is_video coding in
      let row : List ℕ = be_at f q 2 ∷ coding ∷ format_at f (q + 3) size ∷ aspect_at v f (q + 3) size ∷ language_at v f (q + 3) size ∷ [] in
      row_short RowKind.Stream row

  -- a program with its streams
  program_few : (q : ℕ) → length (new_program f q) ≤ 3578
  program_few q =
      let n = be_at f (q + 6) 1 in
      let own = new_streams f (q + 8) n in
      let few = gather_few (λ p. stream_bytes (stream_at f p)) (next_stream f) 14 stream_few (q + 8) n in
      omega (arith, few, ap length (flat_gather stream_bytes (stream_at f) (next_stream f) (q + 8) n), length-append (program_bytes (program_at f q)) own, program_length (be_at f q 4) (be_at f (q + 4) 2) n, byte_few f bytes (q + 6))

  -- the new programs
  pub programs_short : (start : ℕ) → length (new_programs f start) < 2 ^ 32
  programs_short start =
      let n = be_at f (start + 5) 1 in
      omega (arith, programs_long f start refl, gather_few (new_program f) (next_program f) 3578 program_few (start + 6) n, byte_few f bytes (start + 5))
