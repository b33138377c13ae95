-- What reading finds before it touches a table.
use Rattle.std.specs.Prelude.{ℕ, ◌≤◌, ◌≡◌, List, length, eqb, Option, Some, None, is_some, Result, Ok, Err}
use Rattle.format.specs.Bytes.{pick}
use Rattle.format.specs.ClipRecord.{extensions_start}
use Rattle.format.specs.Extensions.{extensions_from, Found, nothing, list_data}
use Rattle.format.specs.Reading.{record_of}
use Rattle.format.specs.Tables.{Nine}
use Rattle.format.specs.Refusals.{ReadAnswer, refused, too_short, accepted, refusal_of, tables_of, counts_of, stated_of}
use Rattle.refusals.specs.Numbers.{number_of}
use Rattle.extension.specs.Block.{found_in, list_end}
use Rattle.info_sections.specs.declared.SectionCounts.{SectionCounts}
use Rattle.nine_tables.specs.Room.{room_of}
use Rattle.nine_tables.specs.declared.Rows.{Rows}
use Rattle.nine_tables.specs.declared.TableShort.{TableShort}
use Rattle.clip_prepare.specs.declared.Prepared.{Prepared}
use Rattle.clip_prepare.specs.declared.ReadError.{ReadError}

-- the programs of the list; none where there is none
abbrev pub list_programs : Option SectionCounts → ℕ
list_programs (Some counts) = counts.heads
list_programs None = 0

-- and its streams
abbrev pub list_streams : Option SectionCounts → ℕ
list_streams (Some counts) = counts.rows
list_streams None = 0

-- nine numbers as the code holds them
abbrev pub rows_by : Nine ℕ → Rows
rows_by n = record {
  atcs = n.atcs;
  stcs = n.stcs;
  programs = n.programs;
  streams = n.streams;
  maps = n.maps;
  entries = n.entries;
  extensions = n.extensions;
  list_programs = n.list_programs;
  list_streams = n.list_streams;
}

-- the rows that a file needs of each table
abbrev pub needed_rows : List ℕ → Rows
needed_rows f = rows_by (counts_of (tables_of f))

-- the answer to a file that is not read
abbrev pub error_answer : ReadError → ReadAnswer
error_answer (ReadError.Refused refusal) = refused (number_of refusal)
error_answer (ReadError.TableShort short) = too_short short.table short.rows

-- the answer of reading, once the tables were looked at
abbrev pub room_answer : List ℕ → Result (Unit {0}) TableShort → ReadAnswer
room_answer f (Ok enough) = accepted (stated_of f)
room_answer f (Err short) = too_short short.table short.rows

-- the answer of reading into tables of these lengths in bytes
unfoldable pub answer_for : List ℕ → Rows → ReadAnswer
answer_for f bytes = pick (eqb (refusal_of f) 0) (room_answer f (room_of (needed_rows f) bytes)) (refused (refusal_of f))

-- the answer that was prepared
abbrev pub prepared_answer : List ℕ → Result Prepared ReadError → ReadAnswer
prepared_answer f (Ok ready) = accepted (stated_of f)
prepared_answer f (Err error) = error_answer error

-- the data of the list, where it is a list of programs
abbrev pub list_of : List ℕ → Found
list_of f = pick (record_of f).has_list (list_data (extensions_from f (extensions_start f))) nothing

-- what is ready: an accepted file, room for its rows, where the data with the list's ids stands, and where it is a list
pub record ReadyIs (f : List ℕ) (bytes : Rows) (ready : Prepared) : Type 0 where
  pub accepts : refusal_of f ≡ 0
  pub rows_are : ready.rows ≡ needed_rows f
  pub room : room_of (needed_rows f) bytes ≡ Ok tt
  pub data_is : found_in f ready.data ≡ list_data (extensions_from f (extensions_start f))
  pub data_in_lem : list_end ready.data ≤ length f
  pub list_is : found_in f ready.list ≡ list_of f
  pub list_in_lem : list_end ready.list ≤ length f
  pub has_is : is_some ready.list ≡ (record_of f).has_list

-- what holds where all is ready; beside a refusal or a short table nothing is asked
abbrev pub Readiness : List ℕ → Rows → Result Prepared ReadError → Type 0
Readiness f bytes (Ok ready) = ReadyIs f bytes ready
Readiness f bytes (Err error) = Unit {0}

-- what was prepared gives reading's answer, and what is ready is so
pub record PreparedIs (f : List ℕ) (bytes : Rows) (r : Result Prepared ReadError) : Type 0 where
  pub answer : prepared_answer f r ≡ answer_for f bytes
  pub ready : Readiness f bytes r
