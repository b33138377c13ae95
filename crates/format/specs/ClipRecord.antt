-- "The clip record": what a record is, the header, ClipInfo, the sequences and the marks.
use Rattle.std.specs.Prelude.{ℕ, ◌+◌, ◌*◌, ◌/◌, ◌%◌, ◌^◌, List, [], ◌∷◌, Bool, true, not, length, get_or, leb, ltb, eqb}
use Rattle.format.specs.Bytes.{both, either, pick, be_at, rows_at, gather, end_of}
use Rattle.format.specs.Ticks.{Ticks45, Ticks90}

-- ---- the record, document 01's word for what a file says

-- a row of a table is the list of its cells
abbrev pub Row : Type 0
Row = List ℕ

-- the letters, the version and the ClipInfo fields from 46 on
pub record Scalars : Type 0 where
  pub letters : ℕ  -- those with which it was read and is written, four bytes as one number
  pub version : ℕ  -- four bytes as one number
  pub stream_type : ℕ
  pub application_type : ℕ
  pub rate : ℕ  -- bytes per second
  pub packets : ℕ  -- packets of 192 bytes; a packet is document 01's word for one source packet
  pub validity_flags : ℕ
  pub format_id : ℕ  -- four bytes as one number

-- what rewriting keeps: all of the record but the mark count and the extensions
pub record Clip : Type 0 where
  pub scalars : Scalars
  pub atcs : List Row  -- table 1: packet, STC count, offset id
  pub stcs : List Row  -- table 2: PID, packet, start, end (45 kHz)
  pub programs : List Row  -- table 3: packet, PID, stream count
  pub streams : List Row  -- table 4: PID, coding type, format, aspect, language (first byte highest, 0 is none)
  pub maps : List Row  -- table 5: PID, type, entry count
  pub entries : List Row  -- table 6: angle, I-end, time (90 kHz; 64 bits), packet, type

-- an extension row counts by its ids and its data's bytes, not by their place
pub record Extension : Type 0 where
  pub id1 : ℕ
  pub id2 : ℕ
  pub bytes : List ℕ

-- the extensions are tables 7 to 9 and whether there is a (2, 5) list: absent, empty and filled are three different things
pub record Record : Type 0 where
  pub clip : Clip
  pub marks : ℕ
  pub extensions : List Extension  -- table 7
  pub has_list : Bool
  pub list_programs : List Row  -- table 8, as table 3
  pub list_streams : List Row  -- table 9, as table 4

-- ---- cells by name

-- the cells that are used by name, each in its column of the tables above; a cell that a row does not have counts 0
abbrev pub atc_stc_count : Row → ℕ
atc_stc_count atc = get_or atc 1 0

abbrev pub offset_id : Row → ℕ
offset_id atc = get_or atc 2 0

abbrev pub stc_packet : Row → ℕ
stc_packet stc = get_or stc 1 0

abbrev pub stc_start : Row → Ticks45
stc_start stc = record { ticks = get_or stc 2 0 }

abbrev pub stc_end : Row → Ticks45
stc_end stc = record { ticks = get_or stc 3 0 }

abbrev pub pmt_pid : Row → ℕ
pmt_pid program = get_or program 1 0

abbrev pub stream_count : Row → ℕ
stream_count program = get_or program 2 0

abbrev pub stream_pid : Row → ℕ
stream_pid stream = get_or stream 0 0

abbrev pub coding_type_of : Row → ℕ
coding_type_of stream = get_or stream 1 0

abbrev pub format_byte : Row → ℕ
format_byte stream = get_or stream 2 0

abbrev pub aspect : Row → ℕ
aspect stream = get_or stream 3 0

abbrev pub language : Row → ℕ
language stream = get_or stream 4 0

abbrev pub map_pid : Row → ℕ
map_pid map = get_or map 0 0

abbrev pub map_type_of : Row → ℕ
map_type_of map = get_or map 1 0

abbrev pub entry_count : Row → ℕ
entry_count map = get_or map 2 0

-- an entry of these five numbers. Its time is the one number of a table that has 64 bits: two cells, its low 32 bits in the first
abbrev pub entry_row : (angle i_end_of time packet type : ℕ) → Row
entry_row a i t p y = a ∷ i ∷ t % 2 ^ 32 ∷ t / 2 ^ 32 ∷ p ∷ y ∷ []

-- how many cells that are, and how many bytes, four for each
abbrev pub entry_cells : ℕ
entry_cells = 6

abbrev pub entry_size : ℕ
entry_size = 4 * entry_cells

-- an entry's cells in their order
abbrev pub angle : Row → ℕ
angle entry = get_or entry 0 0

abbrev pub i_end_of : Row → ℕ
i_end_of entry = get_or entry 1 0

abbrev pub time_low : Row → ℕ
time_low entry = get_or entry 2 0

abbrev pub time_high : Row → ℕ
time_high entry = get_or entry 3 0

-- the time as the number that is read and written, and as what it counts
abbrev pub time : Row → ℕ
time entry = time_low entry + time_high entry * 2 ^ 32

abbrev pub entry_time : Row → Ticks90
entry_time entry = record { ticks = time entry }

-- the last two: the packet, and the type, which is to be its map's
abbrev pub packet : Row → ℕ
packet entry = get_or entry 4 0

abbrev pub entry_type_of : Row → ℕ
entry_type_of entry = get_or entry 5 0

-- ---- the header: letters, version, five starts

-- the letters HDMV and CLPI, each as one number
abbrev pub hdmv : ℕ
hdmv = 0x48444D56

abbrev pub clpi : ℕ
clpi = 0x434C5049

-- either of the two is right; other letters are 2 in reading and 40 in writing
abbrev pub are_letters : ℕ → Bool
are_letters letters = either (eqb letters hdmv) (eqb letters clpi)

-- the four bytes at 0 as one number, whatever they say
abbrev pub letters_of : List ℕ → ℕ
letters_of f = be_at f 0 4

-- HDMV or CLPI
unfoldable pub letters_right : List ℕ → Bool
letters_right f = are_letters (letters_of f)

-- four bytes as one number, whatever they say
abbrev pub version_of : List ℕ → ℕ
version_of f = be_at f 4 4

-- five u32, one behind the other: the starts of sequences, programs, CPI, marks and extensions
abbrev pub sequences_start : List ℕ → ℕ
sequences_start f = be_at f 8 4

abbrev pub programs_start : List ℕ → ℕ
programs_start f = be_at f 12 4

abbrev pub cpi_start : List ℕ → ℕ
cpi_start f = be_at f 16 4

abbrev pub marks_start : List ℕ → ℕ
marks_start f = be_at f 20 4

abbrev pub extensions_start : List ℕ → ℕ
extensions_start f = be_at f 24 4

-- ---- ClipInfo

-- the letters and the version are the header's; the other fields stand at fixed places, whatever the ClipInfo length is
unfoldable pub scalars_of : List ℕ → Scalars
scalars_of f = record {
  letters = letters_of f;
  version = version_of f;
  stream_type = be_at f 46 1;
  application_type = be_at f 47 1;
  rate = be_at f 52 4;
  packets = be_at f 56 4;
  validity_flags = be_at f 188 1;
  format_id = be_at f 190 4;
}

-- the file must have 194 bytes, and 44 + L may not exceed its length
unfoldable pub clip_info_in : List ℕ → Bool
clip_info_in f = both (leb 194 (length f)) (leb (44 + be_at f 40 4) (length f))

-- ---- sequences: u32 length (ignored), a spare byte, u8 ATC count; each ATC with its STCs behind it. Start 0 is no exception

-- ATC: u32 packet, u8 STC count, u8 offset id
abbrev pub atc_at : List ℕ → ℕ → Row
atc_at f p = be_at f p 4 ∷ be_at f (p + 4) 1 ∷ be_at f (p + 5) 1 ∷ []

-- STC: u16 PID, u32 packet, u32 start and u32 end in 45 kHz ticks
abbrev pub stc_at : List ℕ → ℕ → Row
stc_at f p = be_at f p 2 ∷ be_at f (p + 2) 4 ∷ be_at f (p + 6) 4 ∷ be_at f (p + 10) 4 ∷ []

-- STCs stand one behind the other, 14 bytes each
abbrev pub next_stc : ℕ → ℕ
next_stc p = p + 14

-- the STCs of the ATC at p: behind its six bytes, as many as its count says
abbrev pub stcs_of : List ℕ → ℕ → List Row
stcs_of f p = rows_at (stc_at f) next_stc (p + 6) (be_at f (p + 4) 1)

-- the next ATC starts where the STCs of the one at p end
abbrev pub next_atc : List ℕ → ℕ → ℕ
next_atc f p = end_of next_stc (p + 6) (be_at f (p + 4) 1)

-- the section that starts at `start`: its ATCs, all their STCs, and its end
unfoldable pub atcs_from : List ℕ → ℕ → List Row
atcs_from f start = rows_at (atc_at f) (next_atc f) (start + 6) (be_at f (start + 5) 1)

unfoldable pub stcs_from : List ℕ → ℕ → List Row
stcs_from f start = gather (stcs_of f) (next_atc f) (start + 6) (be_at f (start + 5) 1)

unfoldable pub sequences_end : List ℕ → ℕ → ℕ
sequences_end f start = end_of (next_atc f) (start + 6) (be_at f (start + 5) 1)

-- ---- marks: u32 ignored, u16 count

-- a start that is neither 0 nor at or past the file's end; CPI, marks and extensions are read only from such a start
abbrev pub present : List ℕ → ℕ → Bool
present f start = both (not (eqb start 0)) (ltb start (length f))

-- the mark count; 0 where there is no such start
unfoldable pub marks_from : List ℕ → ℕ → ℕ
marks_from f start = pick (present f start) (be_at f (start + 4) 2) 0

-- the six bytes are there wherever they are read, else 8
unfoldable pub marks_in : List ℕ → ℕ → Bool
marks_in f start = pick (present f start) (leb (start + 6) (length f)) true
