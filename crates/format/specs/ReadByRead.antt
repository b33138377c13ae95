-- The refusals of reading told read by read: "a start, length or read passes its stated end". Each read is tested before its value is used.
use Rattle.std.specs.Prelude.{ℕ, ◌+◌, List, [], ◌∷◌, Bool, true, false, length, leb, eqb, ltb}
use Rattle.format.specs.Bytes.{both, pick, every, unless, or_later, first_refusal, be_at, rows_at}
use Rattle.format.specs.ClipRecord.{letters_right, sequences_start, programs_start, cpi_start, marks_start, next_stc, next_atc, present}
use Rattle.format.specs.Programs.{next_stream, next_program}
use Rattle.format.specs.EntryPoints.{next_coarse, next_fine, next_map, cpi_length, cpi_end, cpi_type, map_count, coarse_count_at, fine_count_at, body_at, fine_start, address_in, fine_address_in}
use Rattle.format.specs.Extensions.{block_length, extension_count, next_extension}

-- a start that is not past the file's end
abbrev pub start_in : List ℕ → ℕ → Bool
start_in f p = leb p (length f)

-- reads of these widths, one behind the other from p, each within the file
abbrev pub reads_in : List ℕ → ℕ → List ℕ → Bool
reads_in f p [] = true
reads_in f p (w ∷ widths) = both (leb (p + w) (length f)) (reads_in f (p + w) widths)

-- n items from p, one behind the other, each read before the next
abbrev pub items_in : (ℕ → Bool) → (ℕ → ℕ) → ℕ → ℕ → Bool
items_in test next p n = every (λ b. b) (rows_at test next p n)

-- ClipInfo: its length, the fields up to the format id, and the place behind it
unfoldable pub clip_info_read : List ℕ → Bool
clip_info_read f =
    both (reads_in f 40 (4 ∷ 2 ∷ 1 ∷ 1 ∷ 4 ∷ 4 ∷ 4 ∷ 128 ∷ 1 ∷ 1 ∷ 4 ∷ [])) (start_in f (44 + be_at f 40 4))

-- sequences: length, spare byte, count; ATCs; STCs
abbrev pub stc_read : List ℕ → ℕ → Bool
stc_read f p = reads_in f p (2 ∷ 4 ∷ 4 ∷ 4 ∷ [])

-- an ATC's own fields, then its STCs
abbrev pub atc_read : List ℕ → ℕ → Bool
atc_read f p = both (reads_in f p (4 ∷ 1 ∷ 1 ∷ [])) (items_in (stc_read f) next_stc (p + 6) (be_at f (p + 4) 1))

-- a start past the file's end fails at once; else the six bytes of the section, then each ATC
unfoldable pub sequences_read : List ℕ → ℕ → Bool
sequences_read f start =
    both (start_in f start)
    (both (reads_in f start (4 ∷ 1 ∷ 1 ∷ [])) (items_in (atc_read f) (next_atc f) (start + 6) (be_at f (start + 5) 1)))

-- programs: length, spare byte, count; programs; streams, each PID, body length and body
abbrev pub stream_read : List ℕ → ℕ → Bool
stream_read f p = both (reads_in f p (2 ∷ 1 ∷ [])) (reads_in f (p + 3) (be_at f (p + 2) 1 ∷ []))

-- a program's own fields, then its streams
abbrev pub program_read : List ℕ → ℕ → Bool
program_read f p = both (reads_in f p (4 ∷ 2 ∷ 1 ∷ 1 ∷ [])) (items_in (stream_read f) (next_stream f) (p + 8) (be_at f (p + 6) 1))

-- a start past the file's end fails at once; else the six bytes of the section, then each program
unfoldable pub programs_read : List ℕ → ℕ → Bool
programs_read f start =
    both (start_in f start)
    (both (reads_in f start (4 ∷ 1 ∷ 1 ∷ [])) (items_in (program_read f) (next_program f) (start + 6) (be_at f (start + 5) 1)))

-- CPI: length, then its end; the u16 with the type only where the length has it, and the map count likewise; map headers
abbrev pub map_header_read : List ℕ → ℕ → Bool
map_header_read f p = reads_in f p (2 ∷ 6 ∷ 4 ∷ [])

-- a spare byte and the map count, then each header
abbrev pub cpi_headers_read : List ℕ → ℕ → Bool
cpi_headers_read f c = both (reads_in f (c + 6) (1 ∷ 1 ∷ [])) (items_in (map_header_read f) next_map (c + 8) (be_at f (c + 7) 1))

-- what stands behind the type is read only where the type is 1 and the length reaches the map count
abbrev pub cpi_type_read : List ℕ → ℕ → Bool
cpi_type_read f c =
    both (reads_in f (c + 4) (2 ∷ []))
    (pick (eqb (cpi_type f c) 1) (pick (ltb (cpi_length f c) 4) true (cpi_headers_read f c)) true)

-- nothing is read without a section, and nothing behind a length below 2
unfoldable pub cpi_read : List ℕ → ℕ → Bool
cpi_read f c =
    pick (present f c)
    (both (reads_in f c (4 ∷ [])) (both (start_in f (cpi_end f c)) (pick (ltb (cpi_length f c) 2) true (cpi_type_read f c))))
    true

-- a map, test by test: its address; the word of its fine address, then each coarse row; the fine address's place; each fine row. The fine rows
-- start within the file wherever the CPI ends there, so that test fails only where 6 was told before
abbrev pub map_read_refusal : List ℕ → ℕ → ℕ → ℕ
map_read_refusal f c p =
    unless (address_in f c p) 7
    (unless (reads_in f (body_at f c p) (4 ∷ [])) 42
    (unless (items_in (λ q. reads_in f q (8 ∷ [])) next_coarse (body_at f c p + 4) (coarse_count_at f p)) 42
    (unless (fine_address_in f c p) 41
    (unless (start_in f (fine_start f c p)) 42
    (unless (items_in (λ q. reads_in f q (4 ∷ [])) next_fine (fine_start f c p) (fine_count_at f p)) 42 0)))))

-- the maps in the order of their headers, each whole before the next
unfoldable pub maps_read_refusal : List ℕ → ℕ → ℕ
maps_read_refusal f c = first_refusal (rows_at (map_read_refusal f c) next_map (c + 8) (map_count f c))

-- marks: a word that is ignored, and the count
unfoldable pub marks_read : List ℕ → ℕ → Bool
marks_read f start = pick (present f start) (reads_in f start (4 ∷ 2 ∷ [])) true

-- the refusal of a file, in the same order
unfoldable pub refusal_read : List ℕ → ℕ
refusal_read f =
    unless (leb (length f) 536870912) 20
    (unless (reads_in f 0 (4 ∷ 4 ∷ [])) 1
    (unless (letters_right f) 2
    (unless (reads_in f 8 (4 ∷ 4 ∷ 4 ∷ 4 ∷ 4 ∷ 12 ∷ [])) 1
    (unless (clip_info_read f) 3
    (unless (sequences_read f (sequences_start f)) 4
    (unless (programs_read f (programs_start f)) 5
    (unless (cpi_read f (cpi_start f)) 6
    (or_later (maps_read_refusal f (cpi_start f))
    (unless (marks_read f (marks_start f)) 8 0)))))))))

-- extensions: whether entries are read. Block length, and where it is not 0 the ignored word, spare bytes, count and entries; a failed read gives none
abbrev pub extension_read : List ℕ → ℕ → Bool
extension_read f p = reads_in f p (2 ∷ 2 ∷ 4 ∷ 4 ∷ [])

-- what stands behind the block length: the ignored word, the spare bytes and the count, then each entry
abbrev pub block_read : List ℕ → ℕ → Bool
block_read f start =
    both (reads_in f (start + 4) (4 ∷ 3 ∷ 1 ∷ []))
    (items_in (extension_read f) next_extension (start + 12) (extension_count f start))

-- a block length of 0 gives no entries, and nothing behind it is read
unfoldable pub extensions_read : List ℕ → ℕ → Bool
extensions_read f start =
    both (present f start) (both (reads_in f start (4 ∷ [])) (pick (eqb (block_length f start) 0) false (block_read f start)))
