-- The plan of a file's new one: where its sections stand, and that it is short.
use Prim.Native.Nat.{ℕ, ◌+◌, ◌*◌, ◌≤◌}
use mathlib.Core.Path.{◌≡◌, sym, ap}
use mathlib.Core.List.{List}
use native.Mathlib.Omega.{arith}
use lib.ListN.{length}
use Rattle.std.specs.Prelude.{Ok}
use Rattle.format.specs.Bytes.{IsBytes}
use Rattle.format.specs.ClipRecord.{programs_start, cpi_start}
use Rattle.format.specs.EntryPoints.{maps_from, entries_from}
use Rattle.format.specs.Reading.{clip_of}
use Rattle.format.specs.Rewriting.{programs_bytes}
use Rattle.clip_sections.specs.Clips.{sections_of}
use Rattle.clip_sections.specs.declared.sections.Sections.{Sections}
use Rattle.clip_sections.proofs.Laws.{SectionsAre, sections_are}
use Rattle.rewrite_sections.specs.Sections.{new_programs}
use Rattle.encode_cpi.specs.Cpi.{cpi_length_of}
use Rattle.encode_measure.specs.Places.{programs_place}
use Rattle.encode_measure.proofs.Parts.{place_programs, place_cpi, place_marks}
use Rattle.rewrite.specs.Rewrite.{rewrite_refusal, planned_of}
use Rattle.rewrite.proofs.Refusals.{runs_pass, none, marks_short, planned_by}
use Rattle.rewrite.proofs.Rooms.{sequences_size, programs_size}

module _ (f : List ℕ) (b : IsBytes f) {s : Sections} (told : Ok s ≡ sections_of f) where
  -- the file is accepted, and has these rows
  pub counted : SectionsAre f s
  counted = sections_are f (sym told)

  -- where the programs stand
  pub programs_at : 226 + 6 * s.atcs + 14 * s.stcs ≡ programs_place (clip_of f)
  programs_at =
      let same = counted.same in
      omega (arith, sequences_size f b counted.accepts (ap (λ (x : Sections). x.atcs) same) (ap (λ (x : Sections). x.stcs) same), place_programs (clip_of f))

  module _ {start len : ℕ} (here : start ≡ cpi_start f) (is : Ok len ≡ cpi_length_of (maps_from f start) (entries_from f start)) where
    -- the file is not refused
    unrefused : rewrite_refusal f ≡ 0
    unrefused = none f counted.accepts (runs_pass f here is).0

    -- the new file is short
    pub short : programs_place (clip_of f) + length (programs_bytes (clip_of f)) + len + 6 ≤ 402515706
    short = omega (arith, (runs_pass f here is).1, marks_short f b unrefused, place_cpi (clip_of f), place_marks (clip_of f))

    module _ {place own : ℕ} (from : place ≡ programs_start f) (long : own ≡ length (new_programs f place)) where
      -- so are its sums
      pub sums : 226 + 6 * s.atcs + 14 * s.stcs + own + len + 6 ≤ 402515706
      sums = omega (arith, short, programs_at, programs_size f from long)

      -- the plan
      pub planned : Ok (record { atcs = s.atcs; stcs = s.stcs; maps = s.maps; places = record { programs = 226 + 6 * s.atcs + 14 * s.stcs; cpi = 226 + 6 * s.atcs + 14 * s.stcs + own; marks = 226 + 6 * s.atcs + 14 * s.stcs + own + len } }) ≡ planned_of f
      planned =
          let same = counted.same in
          let size = programs_size f from long in
          planned_by f unrefused (ap (λ (x : Sections). x.atcs) same) (ap (λ (x : Sections). x.stcs) same) (ap (λ (x : Sections). x.maps) same) programs_at
          (omega (arith, programs_at, size, place_cpi (clip_of f))) (omega (arith, programs_at, size, (runs_pass f here is).1, place_cpi (clip_of f), place_marks (clip_of f)))
