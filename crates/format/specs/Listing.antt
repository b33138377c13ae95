-- "Checked by hand", the listing program: its text, as bytes, for every input.
use Rattle.std.specs.Prelude.{ℕ, zero, suc, ◌+◌, ◌*◌, ◌/◌, ◌%◌, List, [], ◌∷◌, ◌++◌, length, take, drop, replicate, leb, ltb}
use Rattle.format.specs.Bytes.{pick, flat}
use Rattle.format.specs.ClipRecord.{Row, Record, map_pid, map_type_of, entry_count, time, packet}
use Rattle.format.specs.Reading.{record_of}
use Rattle.format.specs.Tables.{Nine, map_nine, nine_cells}
use Rattle.format.specs.Refusals.{ReadAnswer, refused, too_short, accepted, read_answer}

-- ---- numbers and lines

-- the decimal digits of n, at most k of them, with no zero in front
unfoldable pub digits : ℕ → ℕ → List ℕ
digits zero n = []
digits (suc k) n = pick (ltb n 10) ((48 + n % 10) ∷ []) (digits k (n / 10) ++ ((48 + n % 10) ∷ []))

-- a number of 64 bits has at most 20 digits
abbrev pub decimal : ℕ → List ℕ
decimal n = digits 20 n

-- a word, each number behind a single space, and a newline
abbrev pub spaced : ℕ → List ℕ
spaced n = 32 ∷ decimal n

-- a line of the listing, its newline included
unfoldable pub line : List ℕ → List ℕ → List ℕ
line word numbers = word ++ (flat spaced numbers ++ (10 ∷ []))

-- ---- the words

-- clip
abbrev pub clip_word : List ℕ
clip_word = 99 ∷ 108 ∷ 105 ∷ 112 ∷ []

-- seq
abbrev pub seq_word : List ℕ
seq_word = 115 ∷ 101 ∷ 113 ∷ []

-- prog
abbrev pub prog_word : List ℕ
prog_word = 112 ∷ 114 ∷ 111 ∷ 103 ∷ []

-- map
abbrev pub map_word : List ℕ
map_word = 109 ∷ 97 ∷ 112 ∷ []

-- ep
abbrev pub ep_word : List ℕ
ep_word = 101 ∷ 112 ∷ []

-- mark
abbrev pub mark_word : List ℕ
mark_word = 109 ∷ 97 ∷ 114 ∷ 107 ∷ []

-- refused
abbrev pub refused_word : List ℕ
refused_word = 114 ∷ 101 ∷ 102 ∷ 117 ∷ 115 ∷ 101 ∷ 100 ∷ []

-- ---- the lines of a record

-- an entry's time and packet
abbrev pub ep_line : Row → List ℕ
ep_line e = line ep_word (time e ∷ packet e ∷ [])

-- a map's PID, type and entries
abbrev pub map_line : Row → List ℕ
map_line m = line map_word (map_pid m ∷ map_type_of m ∷ entry_count m ∷ [])

-- each map, then its own entries
unfoldable pub map_lines : List Row → List Row → List ℕ
map_lines [] es = []
map_lines (m ∷ ms) es = (map_line m ++ flat ep_line (take (entry_count m) es)) ++ map_lines ms (drop (entry_count m) es)

-- stream type, application type, rate, packets; ATCs, STCs; programs, streams; the maps; the mark count
unfoldable pub record_lines : Record → List ℕ
record_lines r =
    let c = r.clip in
    let s = c.scalars in
    line clip_word (s.stream_type ∷ s.application_type ∷ s.rate ∷ s.packets ∷ [])
    ++ (line seq_word (length c.atcs ∷ length c.stcs ∷ [])
    ++ (line prog_word (length c.programs ∷ length c.streams ∷ [])
    ++ (map_lines c.maps c.entries
    ++ line mark_word (r.marks ∷ []))))

-- ---- the listing

-- tables of 4,096 rows
abbrev pub rows4096 : ℕ → List ℕ
rows4096 cells = replicate (4096 * (4 * cells)) 0

-- one for each table, zeros; a file that needs more rows in one of them is refused with 21
unfoldable pub listing_tables : Nine (List ℕ)
listing_tables = map_nine rows4096 nine_cells

-- a refusal is one line, with the table after 21
abbrev pub lines_by : ReadAnswer → Record → List ℕ
lines_by (refused n) r = line refused_word (n ∷ [])
lines_by (too_short k n) r = line refused_word (21 ∷ k ∷ [])
lines_by (accepted s) r = record_lines r

-- an input of over 65,536 bytes is refused with 20
unfoldable pub listing : List ℕ → List ℕ
listing f = pick (leb (length f) 65536) (lines_by (read_answer f listing_tables) (record_of f)) (line refused_word (20 ∷ []))
