-- What filling the lent tables relies on.
use Rattle.std.specs.Prelude.{ℕ, ◌≤◌, ◌≡◌, List, true, length, Option, is_some}
use Rattle.format.specs.ClipRecord.{marks_in, entry_cells}
use Rattle.format.specs.Reading.{clip_of, record_of}
use Rattle.format.specs.Refusals.{refusal_of}
use Rattle.format.specs.Tables.{row_room, atc_cells, stc_cells, program_cells, stream_cells, map_cells}
use Rattle.extension.specs.Block.{found_in, list_end}
use Rattle.clip_prepare.specs.Prepare.{list_of}
use Rattle.extension.specs.declared.ListData.{ListData}

-- the file is accepted, its maps are counted, and tables 1 to 6 have room
pub record SectionsFit (f : List ℕ) (count : ℕ) (atcs stcs programs streams maps entries : List ℕ) : Type 0 where
  pub accepts : refusal_of f ≡ 0
  pub counted : count ≡ length (clip_of f).maps
  pub atcs_room : length (clip_of f).atcs ≤ row_room atc_cells atcs
  pub stcs_room : length (clip_of f).stcs ≤ row_room stc_cells stcs
  pub programs_room : length (clip_of f).programs ≤ row_room program_cells programs
  pub streams_room : length (clip_of f).streams ≤ row_room stream_cells streams
  pub maps_room : length (clip_of f).maps ≤ row_room map_cells maps
  pub entries_room : length (clip_of f).entries ≤ row_room entry_cells entries

-- the list's data is found where there is a list, and tables 8 and 9 have room
pub record ListFits (f : List ℕ) (list : Option ListData) (programs streams : List ℕ) : Type 0 where
  pub list_is : found_in f list ≡ list_of f
  pub list_in_lem : list_end list ≤ length f
  pub has_is : is_some list ≡ (record_of f).has_list
  pub programs_room : length (record_of f).list_programs ≤ row_room program_cells programs
  pub streams_room : length (record_of f).list_streams ≤ row_room stream_cells streams

-- where there are marks, their count is in a file that is not too long
pub record MarksThere (f : List ℕ) (start : ℕ) : Type 0 where
  pub short : length f ≤ 536870912
  pub inside : marks_in f start ≡ true
