-- What reading answered, as text, and the room that the text needs.
use Rattle.std.specs.Prelude.{ℕ, ◌≤◌, List, [], ◌∷◌, length, Result, Ok, Err}
use Rattle.format.specs.ClipRecord.{entry_cells}
use Rattle.format.specs.Tables.{table_rows_of, map_cells}
use Rattle.format.specs.Listing.{line, refused_word}
use Rattle.nine_tables.specs.declared.Rows.{Rows}
use Rattle.clip_prepare.specs.declared.ReadError.{ReadError}
use Rattle.clip_information.specs.declared.read.Accepted.{Accepted}
use Rattle.refusals.specs.Numbers.{number_of}
use Rattle.listing.specs.declared.Numbers.{Numbers}
use Rattle.listing.specs.Text.{numbers, record_text, Listable}

-- bytes for the text of a record of 4,096 maps and as many entries
abbrev pub listing_room : ℕ
listing_room = 262144

-- the numbers of a record from what reading stated of it
abbrev pub numbers_by : Accepted → Numbers
numbers_by a =
    let info = a.info in
    let rows = a.rows in
    numbers info.clip_stream_type info.application_type info.ts_recording_rate info.number_of_source_packets
    rows.atcs rows.stcs rows.programs rows.streams a.marks

-- a refusal's line, or the lines of the record that the tables hold
abbrev pub answer_text : Result Accepted ReadError → List ℕ → List ℕ → List ℕ
answer_text (Err (ReadError.Refused refusal)) maps entries = line refused_word (number_of refusal ∷ [])
answer_text (Err (ReadError.TableShort short)) maps entries = line refused_word (21 ∷ short.table ∷ [])
answer_text (Ok a) maps entries = record_text (numbers_by a) (table_rows_of map_cells maps a.rows.maps) (table_rows_of entry_cells entries a.rows.entries)

-- counts within the 4,096 rows of a table
pub record Shown (rows : Rows) : Type 0 where
  pub atcs : rows.atcs ≤ 4096
  pub stcs : rows.stcs ≤ 4096
  pub programs : rows.programs ≤ 4096
  pub streams : rows.streams ≤ 4096
  pub maps : rows.maps ≤ 4096
  pub entries : rows.entries ≤ 4096

-- what an accepted file's rows have to meet
abbrev pub Lists : Result Accepted ReadError → List ℕ → List ℕ → List ℕ → Type 0
Lists (Err error) maps entries out = 0 ≤ 0
Lists (Ok a) maps entries out = Shown a.rows × Listable maps a.rows.maps entries a.rows.entries out

-- room in the output, and an accepted file's rows in the tables
pub record Tellable (answer : Result Accepted ReadError) (maps entries out : List ℕ) : Type 0 where
  pub room : listing_room ≤ length out
  pub rows : Lists answer maps entries out
