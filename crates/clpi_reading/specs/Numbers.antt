-- The numbers of reading's answer as C is handed it, in the order of the definitions.
use Rattle.std.specs.Prelude.{ℕ, ◌≤◌, List, [], ◌∷◌, replicate, Result, Ok, Err}
use Rattle.format.specs.Tables.{same_nine, AllNine}
use Rattle.nine_tables.specs.declared.Rows.{Rows}
use Rattle.clip_information.specs.Read.{nine_by}
use Rattle.clip_prepare.specs.declared.ReadError.{ReadError}
use Rattle.clip_information.specs.declared.read.Accepted.{Accepted}
use Rattle.clpi_reading.specs.declared.ClpiReading.{ClpiReading}

-- the 22 numbers of reading's answer
abbrev pub reading_numbers : ClpiReading → List ℕ
reading_numbers r =
    r.refusal ∷ r.table ∷ r.rows_needed
    ∷ r.letters ∷ r.version ∷ r.clip_stream_type ∷ r.application_type ∷ r.ts_recording_rate ∷ r.number_of_source_packets
    ∷ r.validity_flags ∷ r.format_id ∷ r.marks
    ∷ r.atcs ∷ r.stcs ∷ r.programs ∷ r.streams ∷ r.maps ∷ r.entries
    ∷ r.extensions ∷ r.list_programs ∷ r.list_streams ∷ r.has_list ∷ []

-- those of a refusal
abbrev pub refused_numbers : ℕ → ℕ → ℕ → List ℕ
refused_numbers refusal table rows = refusal ∷ table ∷ rows ∷ replicate 19 0

-- counts of rows that 32 bits can hold: none is above 66,846,465
abbrev pub RowsFit : Rows → Type 0
RowsFit rows = AllNine ◌≤◌ (nine_by rows) (same_nine 66846465)

-- the counts that an answer tells are so small: the rows needed, or those of all nine tables; a refusal tells none
abbrev pub CountsFit : Result Accepted ReadError → Type 0
CountsFit (Ok answer) = RowsFit answer.rows
CountsFit (Err (ReadError.Refused refusal)) = 0 ≤ 0
CountsFit (Err (ReadError.TableShort short)) = short.rows ≤ 66846465
