-- What a read of one number of an entry answers.
use Rattle.std.specs.Prelude.{ℕ, ◌/◌, ◌%◌, ◌<◌, ◌^◌, ◌≡◌, List}
use Rattle.format.specs.ClipRecord.{Row, entry_row, angle, i_end_of, time_low, time_high, time, packet, entry_type_of, entry_cells}
use Rattle.format.specs.Tables.{cells_at}
use Rattle.entry_rows.specs.declared.EntryRow.{EntryRow}
use Rattle.entry_rows.specs.declared.Words.{Words}

-- a number, of so many bits, of the entry at byte q
pub record EntryHas (column : Row → ℕ) (bits : ℕ) (t : List ℕ) (q r : ℕ) : Type 0 where
  pub same : r ≡ column (cells_at t entry_cells q)
  pub below : r < 2 ^ bits

-- its time, which has two cells
pub record TimeIs (t : List ℕ) (q r : ℕ) : Type 0 where
  pub same : r ≡ time (cells_at t entry_cells q)
  pub below : r < 2 ^ 64
  pub lower : r % 2 ^ 32 ≡ time_low (cells_at t entry_cells q)
  pub upper : r / 2 ^ 32 ≡ time_high (cells_at t entry_cells q)

-- the row that these numbers are
abbrev pub row_of : EntryRow → Row
row_of e = entry_row e.angle e.i_end e.time e.packet e.entry_type

-- the entry at byte q by its numbers
pub record EntryIs (t : List ℕ) (q : ℕ) (e : EntryRow) : Type 0 where
  pub angle_is : EntryHas angle 32 t q e.angle
  pub end_is : EntryHas i_end_of 32 t q e.i_end
  pub time_is : TimeIs t q e.time
  pub packet_is : EntryHas packet 32 t q e.packet
  pub type_is : EntryHas entry_type_of 32 t q e.entry_type

-- its three words have two numbers in the halves of the first and of the last
abbrev pub words_angle : Words → ℕ
words_angle w = w.front % 4294967296

abbrev pub words_end : Words → ℕ
words_end w = w.front / 4294967296

abbrev pub words_packet : Words → ℕ
words_packet w = w.back % 4294967296

abbrev pub words_type : Words → ℕ
words_type w = w.back / 4294967296

-- the entry that these words are
abbrev pub words_row : Words → Row
words_row w = entry_row (words_angle w) (words_end w) w.time (words_packet w) (words_type w)

-- the words that were read
pub record WordsAre (t : List ℕ) (q : ℕ) (w : Words) : Type 0 where
  pub angle_is : EntryHas angle 32 t q (words_angle w)
  pub end_is : EntryHas i_end_of 32 t q (words_end w)
  pub time_is : TimeIs t q w.time
  pub packet_is : EntryHas packet 32 t q (words_packet w)
  pub type_is : EntryHas entry_type_of 32 t q (words_type w)
