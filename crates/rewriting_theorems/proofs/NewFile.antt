-- The new file, as reading states it.
use Prim.Native.Nat.{ℕ, ◌≤◌}
use mathlib.Core.Path.{◌≡◌, sym, ap, ◌∙◌}
use mathlib.Core.List.{List}
use native.Mathlib.Omega.{arith}
use lib.ListN.{length, length-map}
use Rattle.format.specs.ClipRecord.{Record, extensions_start}
use Rattle.format.specs.Extensions.{extension_rows, extension_of, extensions_from}
use Rattle.format.specs.Reading.{record_of}
use Rattle.format.specs.Tables.{Nine, Room}
use Rattle.format.specs.Refusals.{Stated, tables_of, stated_of}
use Rattle.theorems.specs.Rewriting.{Rewritable, rewritten, without_extensions}
use Rattle.theorems.proofs.Rewriting.{rewriting_keeps}
use Rattle.rewriting_theorems.specs.Rewriting.{kept}

-- table 7 has a row for each extension
extension_rows_lem : (f : List ℕ) → length (tables_of f).extensions ≡ length (record_of f).extensions
unfolding tables_of record_of extensions_from
extension_rows_lem f = sym (length-map (extension_rows f (extensions_start f)) (extension_of f))

-- what reading states, by the record and the rows of table 7
abbrev stated_by : Record → ℕ → Stated
stated_by r extensions = record {
  scalars = r.clip.scalars;
  marks = r.marks;
  rows = record {
    atcs = length r.clip.atcs;
    stcs = length r.clip.stcs;
    programs = length r.clip.programs;
    streams = length r.clip.streams;
    maps = length r.clip.maps;
    entries = length r.clip.entries;
    extensions = extensions;
    list_programs = length r.list_programs;
    list_streams = length r.list_streams;
  };
  has_list = r.has_list;
}

-- so many rows fit where as many did
least : {a b room : ℕ} → a ≡ b → b ≤ room → a ≤ room
least e fit = rw e fit

module _ (f : List ℕ) (h : Rewritable f) where
  -- so the new file has none
  no_rows : length (tables_of (rewritten f)).extensions ≡ 0
  no_rows = extension_rows_lem (rewritten f) ∙ ap (λ (r : Record). length r.extensions) (rewriting_keeps f h).same

  -- the scalars and the rows are the old file's; marks, extensions and list are gone
  pub stated_again : stated_of (rewritten f) ≡ kept (stated_of f)
  unfolding stated_of tables_of
  stated_again =
      ap (λ (r : Record). stated_by r (length (tables_of (rewritten f)).extensions)) (rewriting_keeps f h).same
      ∙ ap (stated_by (without_extensions (record_of f))) no_rows

  -- tables with room for the old file have room for the new one
  pub room_again : (tables : Nine (List ℕ)) → Room (tables_of f) tables → Room (tables_of (rewritten f)) tables
  unfolding stated_of
  room_again tables r = record {
    atcs = least (ap (λ (s : Stated). s.rows.atcs) stated_again) r.atcs;
    stcs = least (ap (λ (s : Stated). s.rows.stcs) stated_again) r.stcs;
    programs = least (ap (λ (s : Stated). s.rows.programs) stated_again) r.programs;
    streams = least (ap (λ (s : Stated). s.rows.streams) stated_again) r.streams;
    maps = least (ap (λ (s : Stated). s.rows.maps) stated_again) r.maps;
    entries = least (ap (λ (s : Stated). s.rows.entries) stated_again) r.entries;
    extensions = least (ap (λ (s : Stated). s.rows.extensions) stated_again) (omega arith);
    list_programs = least (ap (λ (s : Stated). s.rows.list_programs) stated_again) (omega arith);
    list_streams = least (ap (λ (s : Stated). s.rows.list_streams) stated_again) (omega arith);
  }
