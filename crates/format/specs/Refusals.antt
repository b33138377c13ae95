-- "Who can be refused": the numbers, in the order in which they are tested, and what a call leaves behind.
use Rattle.std.specs.Prelude.{ℕ, ◌%◌, List, [], ◌∷◌, Bool, true, false, length, get_or, take, drop, replicate, leb, ltb, eqb}
use Rattle.format.specs.Bytes.{both, pick, every, unless, or_later, fits}
use Rattle.format.specs.ClipRecord.{Row, Scalars, Clip, are_letters, atc_stc_count, stream_count, coding_type_of, aspect, language, map_type_of, entry_count, time, entry_type_of, letters_right, clip_info_in, sequences_start, programs_start, cpi_start, marks_start, extensions_start, sequences_end, marks_in, entry_cells}
use Rattle.format.specs.Programs.{is_video, programs_end}
use Rattle.format.specs.EntryPoints.{cpi_in, maps_refusal}
use Rattle.format.specs.Extensions.{extension_rows, data_start, data_length, data_of, data_in}
use Rattle.format.specs.Reading.{record_of}
use Rattle.format.specs.Tables.{Nine, map_nine, zip_nine, table_bytes, row_room, overwritten, Table, is_stated, add_up, rows_of, ClipTables, clip_in, atc_cells, stc_cells, program_cells, stream_cells, map_cells, extension_cells}
use Rattle.format.specs.Rewriting.{runs, encode}

-- ---- reading a file: 20, 1 (8 bytes), 2, 1 (40 bytes), 3 to 6, then 7, 41 and 42 map by map, then 8

-- 0 where the file is accepted, document 01's word for a file that reading into tables long enough does not refuse
unfoldable pub refusal_of : List ℕ → ℕ
refusal_of f =
    unless (leb (length f) 536870912) 20
    (unless (leb 8 (length f)) 1
    (unless (letters_right f) 2
    (unless (leb 40 (length f)) 1
    (unless (clip_info_in f) 3
    (unless (leb (sequences_end f (sequences_start f)) (length f)) 4
    (unless (leb (programs_end f (programs_start f)) (length f)) 5
    (unless (cpi_in f (cpi_start f)) 6
    (or_later (maps_refusal f (cpi_start f))
    (unless (marks_in f (marks_start f)) 8 0)))))))))

-- ---- reading into nine lent tables

-- the rows of tables 1 to 9. Table 7 has each extension by its place in the file
unfoldable pub tables_of : List ℕ → Nine (List Row)
tables_of f = record {
  atcs = (record_of f).clip.atcs;
  stcs = (record_of f).clip.stcs;
  programs = (record_of f).clip.programs;
  streams = (record_of f).clip.streams;
  maps = (record_of f).clip.maps;
  entries = (record_of f).clip.entries;
  extensions = extension_rows f (extensions_start f);
  list_programs = (record_of f).list_programs;
  list_streams = (record_of f).list_streams;
}

-- what reading states of an accepted file, beside the rows that it puts into the tables
pub record Stated : Type 0 where
  pub scalars : Scalars
  pub marks : ℕ
  pub rows : Nine ℕ  -- how many rows each table has
  pub has_list : Bool

-- how many rows each table gets
abbrev pub counts_of : Nine (List Row) → Nine ℕ
counts_of t = map_nine length t

-- what the record has beside its tables, and the rows of each table counted
unfoldable pub stated_of : List ℕ → Stated
stated_of f = record {
  scalars = (record_of f).clip.scalars;
  marks = (record_of f).marks;
  rows = counts_of (tables_of f);
  has_list = (record_of f).has_list;
}

-- a refusal's number; 21 with the table and the rows it needs; or success
pub data ReadAnswer : Type 0 where
  refused : ℕ → ReadAnswer
  too_short : (table rows : ℕ) → ReadAnswer
  accepted : Stated → ReadAnswer

-- 21 where table k has not the room, else what the later tables answer
abbrev pub unless_short : (k cells : ℕ) → List Row → List ℕ → ReadAnswer → ReadAnswer
unless_short k cells rows t later = pick (leb (length rows) (row_room cells t)) later (too_short k (length rows))

-- the lowest table that is too short, or success
unfoldable pub tables_answer : List ℕ → Nine (List ℕ) → ReadAnswer
tables_answer f tables =
    let rows = tables_of f in
    unless_short 1 atc_cells rows.atcs tables.atcs
    (unless_short 2 stc_cells rows.stcs tables.stcs
    (unless_short 3 program_cells rows.programs tables.programs
    (unless_short 4 stream_cells rows.streams tables.streams
    (unless_short 5 map_cells rows.maps tables.maps
    (unless_short 6 entry_cells rows.entries tables.entries
    (unless_short 7 extension_cells rows.extensions tables.extensions
    (unless_short 8 program_cells rows.list_programs tables.list_programs
    (unless_short 9 stream_cells rows.list_streams tables.list_streams (accepted (stated_of f))))))))))

-- what the file is refused for comes before any lent table is looked at
unfoldable pub read_answer : List ℕ → Nine (List ℕ) → ReadAnswer
read_answer f tables = pick (eqb (refusal_of f) 0) (tables_answer f tables) (refused (refusal_of f))

-- a lent table afterwards: its rows at its front and beyond them what it held; a refusal changes nothing
abbrev pub table_by : ReadAnswer → List Row → List ℕ → List ℕ
table_by (refused n) rows t = t
table_by (too_short k n) rows t = t
table_by (accepted s) rows t = overwritten (table_bytes rows) t

-- all nine
unfoldable pub tables_after : List ℕ → Nine (List ℕ) → Nine (List ℕ)
tables_after f tables = zip_nine (table_by (read_answer f tables)) (tables_of f) tables

-- 01's numbers of an answer: the refusal, the table and the rows it needs, the scalars, the mark count, nine row counts, whether there is a list.
-- Other numbers are 0
abbrev pub flag : Bool → ℕ
flag true = 1
flag false = 0

-- each number has the same place in every answer
abbrev pub read_numbers : ReadAnswer → List ℕ
read_numbers (refused n) = n ∷ replicate 21 0
read_numbers (too_short k n) = 21 ∷ k ∷ n ∷ replicate 19 0
read_numbers (accepted s) =
    0 ∷ 0 ∷ 0
    ∷ s.scalars.letters ∷ s.scalars.version ∷ s.scalars.stream_type ∷ s.scalars.application_type ∷ s.scalars.rate
    ∷ s.scalars.packets ∷ s.scalars.validity_flags ∷ s.scalars.format_id ∷ s.marks
    ∷ s.rows.atcs ∷ s.rows.stcs ∷ s.rows.programs ∷ s.rows.streams ∷ s.rows.maps ∷ s.rows.entries
    ∷ s.rows.extensions ∷ s.rows.list_programs ∷ s.rows.list_streams ∷ flag s.has_list ∷ []

-- ---- the data of an extension: given the lent file, table 7 with its stated rows, and a row number

-- row k of the stated rows; a row without cells where there is none
abbrev pub extension_row : Table → ℕ → Row
extension_row t k = get_or (rows_of extension_cells t) k []

-- 22: more rows stated than lent, a row number outside the stated rows, or a row whose data isn't inside the lent file; else 0
unfoldable pub data_refusal : List ℕ → Table → ℕ → ℕ
data_refusal f t k =
    unless (is_stated extension_cells t) 22
    (unless (ltb k t.rows) 22
    (unless (data_in f (extension_row t k)) 22 0))

-- a part of the file; nothing where it is refused
unfoldable pub data_asked : List ℕ → Table → ℕ → List ℕ
data_asked f t k = pick (eqb (data_refusal f t k) 0) (data_of f (extension_row t k)) []

-- 01's numbers of that answer: the refusal, the place in the file, the length. Other numbers are 0
abbrev pub data_numbers : List ℕ → Table → ℕ → List ℕ
data_numbers f t k =
    let refusal = data_refusal f t k in
    refusal ∷ pick (eqb refusal 0) (data_start (extension_row t k)) 0 ∷ pick (eqb refusal 0) (data_length (extension_row t k)) 0 ∷ []

-- ---- writing a record: 22, 40, 30, 31, 23

-- the row counts add up to the rows stated, else 22; a question tests the tables it is lent in the same way (Questions)
unfoldable pub counts_add : Clip → Bool
counts_add c =
    both (add_up atc_stc_count c.atcs c.stcs)
    (both (add_up stream_count c.programs c.streams)
    (add_up entry_count c.maps c.entries))

-- every cell fits its field in the file, else 30. The numbers are widths in bits

-- a file's scalars always fit; those of a record made by hand need not. The letters are tested before, by 40
abbrev pub scalars_fit : Scalars → Bool
scalars_fit s =
    fits (32 ∷ 8 ∷ 8 ∷ 32 ∷ 32 ∷ 8 ∷ 32 ∷ [])
    (s.version ∷ s.stream_type ∷ s.application_type ∷ s.rate ∷ s.packets ∷ s.validity_flags ∷ s.format_id ∷ [])

-- packet; at most 255 STCs; offset id
abbrev pub atc_fits : Row → Bool
atc_fits = fits (32 ∷ 8 ∷ 8 ∷ [])

-- PID, packet, start, end
abbrev pub stc_fits : Row → Bool
stc_fits = fits (16 ∷ 32 ∷ 32 ∷ 32 ∷ [])

-- packet, PID; at most 255 streams
abbrev pub program_fits : Row → Bool
program_fits = fits (32 ∷ 16 ∷ 8 ∷ [])

-- PID, coding type, format; aspect at most 15; language. No nonzero language on video, no nonzero aspect on anything else
abbrev pub stream_fits : Row → Bool
stream_fits s =
    both (fits (16 ∷ 8 ∷ 8 ∷ 4 ∷ 24 ∷ []) s) (pick (is_video (coding_type_of s)) (eqb (language s) 0) (eqb (aspect s) 0))

-- PID; type at most 15; at most 262,143 entries
abbrev pub map_fits : Row → Bool
map_fits = fits (16 ∷ 4 ∷ 18 ∷ [])

-- angle; I-end at most 7; time, of which the upper cell has no bits; packet, type
abbrev pub entry_bits : List ℕ
entry_bits = 1 ∷ 3 ∷ 32 ∷ 0 ∷ 32 ∷ 4 ∷ []

-- its cells fit, the time is a multiple of 512, the type its map's
abbrev pub entry_fits : ℕ → Row → Bool
entry_fits type e = both (fits entry_bits e) (both (eqb (time e % 512) 0) (eqb (entry_type_of e) type))

-- a test of each map with its own entries
abbrev pub every_map : (Row → List Row → Bool) → List Row → List Row → Bool
every_map test [] es = true
every_map test (m ∷ ms) es = both (test m (take (entry_count m) es)) (every_map test ms (drop (entry_count m) es))

-- at most 255 ATCs, programs and maps, and every row fits, else 30
unfoldable pub cells_fit : Clip → Bool
cells_fit c =
    both (scalars_fit c.scalars)
    (both (leb (length c.atcs) 255)
    (both (every atc_fits c.atcs)
    (both (every stc_fits c.stcs)
    (both (leb (length c.programs) 255)
    (both (every program_fits c.programs)
    (both (every stream_fits c.streams)
    (both (leb (length c.maps) 255)
    (both (every map_fits c.maps)
    (every_map (λ m es. every (entry_fits (map_type_of m)) es) c.maps c.entries)))))))))

-- no map has over 65,535 runs, else 31
unfoldable pub runs_fit : Clip → Bool
runs_fit c = every_map (λ m es. leb (runs es) 65535) c.maps c.entries

-- 0 where the record can be written
unfoldable pub write_refusal : Clip → ℕ
write_refusal c =
    unless (counts_add c) 22
    (unless (are_letters c.scalars.letters) 40
    (unless (cells_fit c) 30
    (unless (runs_fit c) 31 0)))

-- ---- writing from lent tables into a lent output

-- not more rows are stated than lent, else 22
unfoldable pub all_stated : ClipTables → Bool
all_stated l =
    both (is_stated atc_cells l.atcs)
    (both (is_stated stc_cells l.stcs)
    (both (is_stated program_cells l.programs)
    (both (is_stated stream_cells l.streams)
    (both (is_stated map_cells l.maps)
    (is_stated entry_cells l.entries)))))

-- a refusal's number; 23 with the length needed; or the length written
pub data WriteAnswer : Type 0 where
  refused : ℕ → WriteAnswer
  too_short : (needed : ℕ) → WriteAnswer
  written : (bytes : ℕ) → WriteAnswer

-- 23 where the output has not the room
abbrev pub written_in : ℕ → ℕ → WriteAnswer
written_in needed room = pick (leb needed room) (written needed) (too_short needed)

-- an earlier refusal stands before what comes later
abbrev pub unless_refused : ℕ → WriteAnswer → WriteAnswer
unless_refused refusal later = pick (eqb refusal 0) later (refused refusal)

-- first 22 for rows stated beyond those lent, then what the record is refused for, then 23
unfoldable pub write_answer : ClipTables → List ℕ → WriteAnswer
write_answer l out =
    unless_refused (unless (all_stated l) 22 (write_refusal (clip_in l))) (written_in (length (encode (clip_in l))) (length out))

-- 01's numbers of an answer: the refusal, the length needed, the length written. Other numbers are 0
abbrev pub write_numbers : WriteAnswer → List ℕ
write_numbers (refused n) = n ∷ 0 ∷ 0 ∷ []
write_numbers (too_short n) = 23 ∷ n ∷ 0 ∷ []
write_numbers (written n) = 0 ∷ 0 ∷ n ∷ []

-- the output afterwards: a refusal changes nothing
abbrev pub output_by : WriteAnswer → List ℕ → List ℕ → List ℕ
output_by (refused n) new out = out
output_by (too_short n) new out = out
output_by (written n) new out = overwritten new out

-- the new file at the front of the output and beyond it what the output held, where writing succeeds
unfoldable pub output_after : ClipTables → List ℕ → List ℕ
output_after l out = output_by (write_answer l out) (encode (clip_in l)) out
