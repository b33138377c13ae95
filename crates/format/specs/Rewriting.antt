-- "Rewriting": runs, and the bytes of a record. Rewriting is document 01's word for reading, then writing.
use Rattle.std.specs.Prelude.{ℕ, suc, ◌+◌, ◌*◌, ◌/◌, ◌%◌, List, [], ◌∷◌, ◌++◌, Bool, true, false, length, take, drop, eqb}
use Rattle.format.specs.Bytes.{both, bytes_of, field_bytes, packed, flat}
use Rattle.format.specs.ClipRecord.{Row, Scalars, Clip, atc_stc_count, stream_count, stream_pid, coding_type_of, format_byte, aspect, language, map_pid, map_type_of, entry_count, angle, i_end_of, time, packet}
use Rattle.format.specs.Programs.{is_video}
use Rattle.format.specs.EntryPoints.{coarse_widths, fine_widths, header_widths}

-- ---- runs: a run is document 01's word for a longest stretch of entries in one map with equal keys

-- the two keys of a run: time div 524,288 and packet div 131,072
abbrev pub time_key : ℕ → ℕ
time_key t = t / 524288

abbrev pub packet_key : ℕ → ℕ
packet_key p = p / 131072

-- two entries with these times and packets have both keys equal
abbrev pub same_keys : (time packet time' packet' : ℕ) → Bool
same_keys t p t' p' = both (eqb (time_key t) (time_key t')) (eqb (packet_key p) (packet_key p'))

-- neighbours with both keys equal are in one run
abbrev pub same_run : Row → Row → Bool
same_run e x = same_keys (time e) (packet e) (time x) (packet x)

-- the coarse row of a run whose first entry, number k of its map, has this time and packet: first fine row, time, full packet
abbrev pub coarse_by : (k time packet : ℕ) → Row
coarse_by k t p = k ∷ time_key t ∷ p ∷ []

-- the same by that entry
abbrev pub coarse_row : ℕ → Row → Row
coarse_row k x = coarse_by k (time x) (packet x)

-- a coarse row stands before the later ones unless its entry is in the run before
abbrev pub unless_same : Bool → Row → List Row → List Row
unless_same true c rows = rows
unless_same false c rows = c ∷ rows

-- the coarse rows of the entries behind entry e, of which the first is number k
unfoldable pub coarse_after : Row → ℕ → List Row → List Row
coarse_after e k [] = []
coarse_after e k (x ∷ xs) = unless_same (same_run e x) (coarse_row k x) (coarse_after x (suc k) xs)

-- the coarse rows of a map's entries, one for each run
abbrev pub coarse_rows : List Row → List Row
coarse_rows [] = []
coarse_rows (x ∷ xs) = coarse_row 0 x ∷ coarse_after x 1 xs

-- a map has as many runs as coarse rows
unfoldable pub runs : List Row → ℕ
runs es = length (coarse_rows es)

-- ---- sequences and programs

-- headers, each with as many of the rows behind it as its count says
abbrev pub groups : (Row → List ℕ) → (Row → ℕ) → (Row → List ℕ) → List Row → List Row → List ℕ
groups head count bytes [] rows = []
groups head count bytes (h ∷ hs) rows =
    (head h ++ flat bytes (take (count h) rows)) ++ groups head count bytes hs (drop (count h) rows)

-- a section: the u32 length of what follows, a spare byte, u8 count, and the items
abbrev pub section_bytes : ℕ → List ℕ → List ℕ
section_bytes count items = field_bytes (4 ∷ 1 ∷ 1 ∷ []) ((2 + length items) ∷ 0 ∷ count ∷ []) ++ items

-- the cells of an ATC and of an STC in fields as wide as those they are read from
abbrev pub atc_bytes : Row → List ℕ
atc_bytes row = field_bytes (4 ∷ 1 ∷ 1 ∷ []) row

abbrev pub stc_bytes : Row → List ℕ
stc_bytes row = field_bytes (2 ∷ 4 ∷ 4 ∷ 4 ∷ []) row

-- the ATCs, each with its STCs behind it
unfoldable pub sequences_bytes : Clip → List ℕ
sequences_bytes c = section_bytes (length c.atcs) (groups atc_bytes atc_stc_count stc_bytes c.atcs c.stcs)

-- a program ends with a spare byte
abbrev pub program_bytes : Row → List ℕ
program_bytes row = field_bytes (4 ∷ 2 ∷ 1 ∷ []) row ++ bytes_of 1 0

-- a video body has 3 bytes, any other 2 where there is no language, or 5 with one, whose three bytes are written as they are
abbrev pub stream_bytes_by : (video noLanguage : Bool) → Row → List ℕ
stream_bytes_by true noLanguage row =
    field_bytes (2 ∷ 1 ∷ 1 ∷ 1 ∷ 1 ∷ []) (stream_pid row ∷ 3 ∷ coding_type_of row ∷ format_byte row ∷ aspect row * 16 ∷ [])
stream_bytes_by false true row = field_bytes (2 ∷ 1 ∷ 1 ∷ 1 ∷ []) (stream_pid row ∷ 2 ∷ coding_type_of row ∷ format_byte row ∷ [])
stream_bytes_by false false row =
    field_bytes (2 ∷ 1 ∷ 1 ∷ 1 ∷ 3 ∷ []) (stream_pid row ∷ 5 ∷ coding_type_of row ∷ format_byte row ∷ language row ∷ [])

-- the body follows from the coding type and, where that is not video, from whether there is a language
abbrev pub stream_bytes : Row → List ℕ
stream_bytes row = stream_bytes_by (is_video (coding_type_of row)) (eqb (language row) 0) row

-- the programs, each with its streams behind it
unfoldable pub programs_bytes : Clip → List ℕ
programs_bytes c = section_bytes (length c.programs) (groups program_bytes stream_count stream_bytes c.programs c.streams)

-- ---- CPI

-- a coarse row takes 8 bytes
abbrev pub coarse_bytes : Row → List ℕ
coarse_bytes row = bytes_of 8 (packed coarse_widths row)

-- what the fine row of an entry of these numbers holds: angle, I-end, and the low bits of time and packet
abbrev pub fine_by : (angle i_end_of time packet : ℕ) → Row
fine_by a i t p = a ∷ i ∷ t / 512 % 2048 ∷ p % 131072 ∷ []

-- the same by the entry
abbrev pub fine_row : Row → Row
fine_row e = fine_by (angle e) (i_end_of e) (time e) (packet e)

-- an entry's fine row takes 4 bytes
abbrev pub fine_bytes : Row → List ℕ
fine_bytes e = bytes_of 4 (packed fine_widths (fine_row e))

-- a map's body: the fine address, the coarse rows, the fine rows
unfoldable pub body_bytes : List Row → List ℕ
body_bytes es = bytes_of 4 (4 + 8 * runs es) ++ (flat coarse_bytes (coarse_rows es) ++ flat fine_bytes es)

-- the maps' bodies one behind the other, each of its own entries
abbrev pub bodies : List Row → List Row → List ℕ
bodies [] es = []
bodies (m ∷ ms) es = body_bytes (take (entry_count m) es) ++ bodies ms (drop (entry_count m) es)

-- a map's header: PID; spare bits, type, coarse count, fine count; the body's address
abbrev pub header_bytes : Row → List Row → ℕ → List ℕ
header_bytes m es address =
    field_bytes (2 ∷ 6 ∷ 4 ∷ []) (map_pid m ∷ packed header_widths (0 ∷ map_type_of m ∷ runs es ∷ length es ∷ []) ∷ address ∷ [])

-- the maps' headers: the first body is at the address given, each later one where the one before ends
abbrev pub headers : List Row → List Row → ℕ → List ℕ
headers [] es address = []
headers (m ∷ ms) es address =
    header_bytes m (take (entry_count m) es) address
    ++ headers ms (drop (entry_count m) es) (address + length (body_bytes (take (entry_count m) es)))

-- with no maps, a length of 0 alone
abbrev pub cpi_bytes_by : List Row → List Row → List ℕ
cpi_bytes_by [] es = bytes_of 4 0
cpi_bytes_by (m ∷ ms) es =
    let n = suc (length ms) in
    let rows = bodies (m ∷ ms) es in
    field_bytes (4 ∷ 2 ∷ 1 ∷ 1 ∷ []) ((4 + 12 * n + length rows) ∷ 1 ∷ 0 ∷ n ∷ [])
    ++ (headers (m ∷ ms) es (2 + 12 * n) ++ rows)

-- the maps, with all headers before the bodies
unfoldable pub cpi_bytes : Clip → List ℕ
cpi_bytes c = cpi_bytes_by c.maps c.entries

-- ---- the whole

-- the first 220 bytes: letters, version, five starts, 12 spare bytes; ClipInfo of 176 bytes behind its length
abbrev pub head_widths : List ℕ
head_widths = 4 ∷ 4 ∷ 4 ∷ 4 ∷ 4 ∷ 4 ∷ 4 ∷ 12 ∷ 4 ∷ 2 ∷ 1 ∷ 1 ∷ 4 ∷ 4 ∷ 4 ∷ 128 ∷ 1 ∷ 1 ∷ 4 ∷ 26 ∷ []

-- sequences start right behind at 220; the extension start and all spare bytes are 0
abbrev pub head_values : Scalars → (programs cpi marks : ℕ) → List ℕ
head_values s programs cpi marks =
    s.letters ∷ s.version ∷ 220 ∷ programs ∷ cpi ∷ marks ∷ 0 ∷ 0
    ∷ 176 ∷ 0 ∷ s.stream_type ∷ s.application_type ∷ 0 ∷ s.rate ∷ s.packets ∷ 0
    ∷ s.validity_flags ∷ 0 ∷ s.format_id ∷ 0 ∷ []

-- the starts of programs, CPI and marks are given, since they depend on the record's rows
unfoldable pub head_bytes : Scalars → (programs cpi marks : ℕ) → List ℕ
head_bytes s programs cpi marks = field_bytes head_widths (head_values s programs cpi marks)

-- empty marks: length 2, count 0
abbrev pub marks_bytes : List ℕ
marks_bytes = field_bytes (4 ∷ 2 ∷ []) (2 ∷ 0 ∷ [])

-- the new file of a record that can be written: clip, sequences, programs, CPI, empty marks; extension start 0
unfoldable pub encode : Clip → List ℕ
encode c =
    let programs = 220 + length (sequences_bytes c) in
    let cpi = programs + length (programs_bytes c) in
    let marks = cpi + length (cpi_bytes c) in
    head_bytes c.scalars programs cpi marks ++ (sequences_bytes c ++ (programs_bytes c ++ (cpi_bytes c ++ marks_bytes)))
