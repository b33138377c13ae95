-- What storing each section asks, from a file that can be rewritten and the places of its new sections.
use Prim.Native.Nat.{ℕ, ◌+◌, ◌-◌, ◌*◌}
use mathlib.Core.Path.{◌≡◌, refl, sym, ap, ◌∙◌}
use mathlib.Core.List.{List}
use native.Mathlib.Omega.{arith}
use lib.ListN.{length}
use Rattle.format.specs.Bytes.{IsBytes}
use Rattle.format.specs.ClipRecord.{sequences_start, programs_start, cpi_start}
use Rattle.format.specs.EntryPoints.{maps_from, entries_from}
use Rattle.format.specs.Reading.{clip_of}
use Rattle.format.specs.Rewriting.{head_bytes, sequences_bytes, programs_bytes, cpi_bytes, cpi_bytes_by}
use Rattle.format.specs.Refusals.{refusal_of, runs_fit}
use Rattle.clip_sections.specs.declared.info.ClipInfo.{ClipInfo}
use Rattle.clip_sections.specs.Infos.{clip_info_of}
use Rattle.clip_information.specs.Read.{scalars_by}
use Rattle.clip_information.proofs.FillLaws.{sound, cpi_section}
use Rattle.rewrite_sections.specs.Sections.{new_sequences, new_programs, SequencesRoom, ProgramsRoom}
use Rattle.rewrite_sections.proofs.Groups.{sequences_of_lem, programs_of_lem}
use Rattle.rewrite_sections.proofs.Lengths.{sequences_long}
use Rattle.rewrite_cpi.specs.Cpi.{CpiRoom}
use Rattle.encode_measure.proofs.Parts.{place_programs, place_cpi, place_marks, InOrder, placed_order}
use Rattle.rewrite.specs.Rewrite.{Ready}
use Rattle.rewrite.specs.declared.measure.Plan.{Plan}
use Rattle.rewrite.proofs.Refusals.{passed, marks_short}

module _ (f : List ℕ) where
  -- the lengths of the new sections
  pub sequences_size : IsBytes f → refusal_of f ≡ 0 → {atcs stcs : ℕ} → atcs ≡ length (clip_of f).atcs → stcs ≡ length (clip_of f).stcs
      → 6 + 6 * atcs + 14 * stcs ≡ length (sequences_bytes (clip_of f))
  unfolding clip_of
  sequences_size b e a s = rw (a, s) (sym (sequences_long f b (sequences_start f) (sound f e).sequences_in) ∙ ap length (sym (sequences_of_lem f)))

  -- the length of the new programs, measured on the file, is that of the programs that writing gives for its record
  pub programs_size : {start n : ℕ} → start ≡ programs_start f → n ≡ length (new_programs f start) → n ≡ length (programs_bytes (clip_of f))
  programs_size here is = rw here at is ∙ ap length (sym (programs_of_lem f))

  module _ {plan : Plan} {size : ℕ} (b : IsBytes f) (r : Ready f plan size) where
    -- the file is accepted
    pub accepted : refusal_of f ≡ 0
    accepted = (passed f r.rewritable).0

    -- the places are in order
    pub in_order : InOrder plan.places.programs plan.places.cpi plan.places.marks size
    in_order = placed_order (clip_of f) (marks_short f b r.rewritable) r.placed

    -- the sequences
    pub sequences_room : {start : ℕ} (out : List ℕ) → start ≡ sequences_start f → length out ≡ size → SequencesRoom f start plan.atcs plan.stcs out 220
    unfolding clip_of
    sequences_room out here same =
        let long = sequences_size b accepted r.atcs_are r.stcs_are in
        rw here (record {
          ends = (sound f accepted).sequences_in;
          atcs_are = r.atcs_are;
          stcs_are = r.stcs_are;
          room = omega (arith, long, same, in_order, r.placed.programs_at, place_programs (clip_of f));
        })

    -- the programs
    pub programs_room : {start : ℕ} (out : List ℕ) → start ≡ programs_start f → length out ≡ size → ProgramsRoom f start (plan.places.cpi - plan.places.programs) out plan.places.programs
    programs_room out here same =
        let long : plan.places.cpi - plan.places.programs ≡ length (programs_bytes (clip_of f)) = omega (arith, r.placed.programs_at, r.placed.cpi_at, place_cpi (clip_of f)) in
        rw here (record {
          ends = (sound f accepted).programs_in;
          size_is = long ∙ ap length (programs_of_lem f);
          room = omega (arith, same, in_order);
        })

    -- the CPI
    pub cpi_room : {start : ℕ} (bytes : ℕ) → start ≡ cpi_start f → bytes ≡ size → CpiRoom f start plan.maps (plan.places.marks - plan.places.cpi) bytes plan.places.cpi
    unfolding clip_of runs_fit cpi_bytes
    cpi_room bytes here same =
        let long : plan.places.marks - plan.places.cpi ≡ length (cpi_bytes (clip_of f)) = omega (arith, r.placed.cpi_at, r.placed.marks_at, place_marks (clip_of f)) in
        rw here (record {
          section = cpi_section f accepted refl r.maps_are;
          runs_few = (passed f r.rewritable).1;
          long = long;
          room = omega (arith, same, in_order);
        })

  -- ---- the sections as parts of the new file

  -- the new head is that of the file's own scalars
  pub head_in : {i : ClipInfo} (programs cpi marks : ℕ) → i ≡ clip_info_of f → head_bytes (scalars_by i) programs cpi marks ≡ head_bytes (clip_of f).scalars programs cpi marks
  unfolding clip_of
  head_in programs cpi marks e = ap (λ i. head_bytes (scalars_by i) programs cpi marks) e

  -- the new sequences are those that writing gives for the record of the file
  pub sequences_in : {start : ℕ} → start ≡ sequences_start f → new_sequences f start ≡ sequences_bytes (clip_of f)
  sequences_in here = rw here (sym (sequences_of_lem f))

  -- so are the new programs
  pub programs_in : {start : ℕ} → start ≡ programs_start f → new_programs f start ≡ programs_bytes (clip_of f)
  programs_in here = rw here (sym (programs_of_lem f))

  -- and so is the CPI of the maps and entries that stand in the file
  pub cpi_in_lem : {start : ℕ} → start ≡ cpi_start f → cpi_bytes_by (maps_from f start) (entries_from f start) ≡ cpi_bytes (clip_of f)
  unfolding clip_of cpi_bytes
  cpi_in_lem here = rw here refl
