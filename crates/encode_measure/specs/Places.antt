-- What writing tests and measures first: the refusal, and the places of the sections.
use Rattle.std.specs.Prelude.{ℕ, ◌+◌, ◌≤◌, ◌≡◌, length, eqb, Bool, Result, Ok, Err}
use Rattle.format.specs.Bytes.{both, pick, unless}
use Rattle.format.specs.ClipRecord.{Clip, entry_cells}
use Rattle.format.specs.Tables.{ClipTables, clip_in, stc_cells, stream_cells}
use Rattle.format.specs.Rewriting.{sequences_bytes, programs_bytes, cpi_bytes}
use Rattle.format.specs.Refusals.{all_stated, write_refusal}
use Rattle.table_rows.specs.OwnRows.{is_counted}
use Rattle.encode_measure.specs.declared.Places.{Places}

-- 22, 40, 30 or 31; 0 where the record can be written
abbrev pub refusal_in : ClipTables → ℕ
refusal_in l = unless (all_stated l) 22 (write_refusal (clip_in l))

-- the rows are there and the counts add up, pair of tables by pair of tables, else 22
unfoldable pub pairs_counted : ClipTables → Bool
pairs_counted l =
    both (is_counted 1 stc_cells l.atcs l.stcs) (both (is_counted 2 stream_cells l.programs l.streams) (is_counted 2 entry_cells l.maps l.entries))

-- where the sections of the new file stand; the sequences are at 220
unfoldable pub programs_place : Clip → ℕ
programs_place c = 220 + length (sequences_bytes c)

-- the CPI is behind the programs
unfoldable pub cpi_place : Clip → ℕ
cpi_place c = programs_place c + length (programs_bytes c)

-- the marks are behind the CPI
unfoldable pub marks_place : Clip → ℕ
marks_place c = cpi_place c + length (cpi_bytes c)

-- the three places as the code holds them
abbrev pub places_of : Clip → Places
places_of c = record { programs = programs_place c; cpi = cpi_place c; marks = marks_place c }

-- the refusal, or these places
unfoldable pub measured_by : ℕ → Clip → Result Places ℕ
measured_by refusal c = pick (eqb refusal 0) (Ok (places_of c)) (Err refusal)

-- those of a record in tables
abbrev pub measured_in : ClipTables → Result Places ℕ
measured_in l = measured_by (refusal_in l) (clip_in l)

-- the places of a record's sections, and room for its file in an output of so many bytes
pub record Placed (c : Clip) (programs cpi marks bytes : ℕ) : Type 0 where
  pub programs_at : programs ≡ programs_place c
  pub cpi_at : cpi ≡ cpi_place c
  pub marks_at : marks ≡ marks_place c
  pub room : marks + 6 ≤ bytes

-- a record that can be written
pub record Ready (l : ClipTables) (at : Places) (bytes : ℕ) : Type 0 where
  pub writable : refusal_in l ≡ 0
  pub placed : Placed (clip_in l) at.programs at.cpi at.marks bytes
