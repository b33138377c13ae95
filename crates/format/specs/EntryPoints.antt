-- "Entry points": the CPI section, the entry index. Maps, each with coarse rows and fine rows, which make its entries.
use Rattle.std.specs.Prelude.{ℕ, suc, ◌+◌, ◌*◌, ◌/◌, ◌%◌, ◌^◌, List, [], ◌∷◌, Bool, true, length, get_or, leb, ltb, eqb}
use Rattle.std.specs.Int.Bits.{bit_or}
use Rattle.format.specs.Bytes.{both, pick, every, unless, first_refusal, be_at, unpacked, rows_at, gather}
use Rattle.format.specs.ClipRecord.{Row, entry_row, present}

-- ---- rows of a map

-- coarse row, 8 bytes: 18 bits first fine row, 14 time, 32 packet
abbrev pub coarse_widths : List ℕ
coarse_widths = 18 ∷ 14 ∷ 32 ∷ []

-- the row at p, where the next one starts, and its three fields
abbrev pub coarse_at : List ℕ → ℕ → Row
coarse_at f p = unpacked coarse_widths (be_at f p 8)

abbrev pub next_coarse : ℕ → ℕ
next_coarse p = p + 8

abbrev pub first_fine_of : Row → ℕ
first_fine_of coarse = get_or coarse 0 0

abbrev pub coarse_time : Row → ℕ
coarse_time coarse = get_or coarse 1 0

abbrev pub coarse_packet : Row → ℕ
coarse_packet coarse = get_or coarse 2 0

-- fine row, 4 bytes: 1 angle bit, 3 I-end, 11 time, 17 packet
abbrev pub fine_widths : List ℕ
fine_widths = 1 ∷ 3 ∷ 11 ∷ 17 ∷ []

-- the row at p, where the next one starts, and the two fields that are joined with a coarse row's
abbrev pub fine_at : List ℕ → ℕ → Row
fine_at f p = unpacked fine_widths (be_at f p 4)

abbrev pub next_fine : ℕ → ℕ
next_fine p = p + 4

abbrev pub fine_time : Row → ℕ
fine_time fine = get_or fine 2 0

abbrev pub fine_packet : Row → ℕ
fine_packet fine = get_or fine 3 0

-- ---- entries

-- ((coarse time × 524,288) mod 2^32) OR (fine time × 512): the two share bit 19
unfoldable pub join_time : ℕ → ℕ → ℕ
join_time coarse fine = bit_or (coarse * 524288 % 2 ^ 32) (fine * 512)

-- the coarse packet with its low 17 bits replaced by the fine packet
unfoldable pub join_packet : ℕ → ℕ → ℕ
join_packet coarse fine = coarse / 2 ^ 17 * 2 ^ 17 + fine

-- an entry of a map of this type: angle, I-end, time, packet, type
abbrev pub entry_of : ℕ → Row → Row → Row
entry_of type coarse fine =
    entry_row (get_or fine 0 0) (get_or fine 1 0) (join_time (coarse_time coarse) (fine_time fine)) (join_packet (coarse_packet coarse) (fine_packet fine)) type

-- from coarse row c, with `behind` behind it: step on while the next one's first fine row is at most k
abbrev pub step_on : Row → List Row → ℕ → Row
step_on c [] k = c
step_on c (d ∷ behind) k = pick (leb (first_fine_of d) k) (step_on d behind k) c

-- the coarse row that fine row k uses, reached from row 0; with no coarse rows, zeros
abbrev pub coarse_for : List Row → ℕ → Row
coarse_for [] k = 0 ∷ 0 ∷ 0 ∷ []
coarse_for (c ∷ behind) k = step_on c behind k

-- the entries of fine rows of which the first is number k
abbrev pub entries_for : ℕ → List Row → ℕ → List Row → List Row
entries_for type coarse k [] = []
entries_for type coarse k (x ∷ fine) = entry_of type (coarse_for coarse k) x ∷ entries_for type coarse (suc k) fine

-- ---- maps

-- map header, 12 bytes: u16 PID; 10 spare bits, 4 type, 16 coarse count, 18 fine count; u32 address
abbrev pub header_widths : List ℕ
header_widths = 10 ∷ 4 ∷ 16 ∷ 18 ∷ []

-- the bit fields of the header at p, which stand behind its PID
abbrev pub header_at : List ℕ → ℕ → Row
header_at f p = unpacked header_widths (be_at f (p + 2) 6)

-- what they say: the type, and how many coarse and fine rows the body has
abbrev pub map_type_at : List ℕ → ℕ → ℕ
map_type_at f p = get_or (header_at f p) 1 0

abbrev pub coarse_count_at : List ℕ → ℕ → ℕ
coarse_count_at f p = get_or (header_at f p) 2 0

abbrev pub fine_count_at : List ℕ → ℕ → ℕ
fine_count_at f p = get_or (header_at f p) 3 0

-- the row that table 5 gets of it: PID, type, and as many entries as fine rows
abbrev pub map_at : List ℕ → ℕ → Row
map_at f p = be_at f p 2 ∷ map_type_at f p ∷ fine_count_at f p ∷ []

-- headers stand one behind the other, 12 bytes each
abbrev pub next_map : ℕ → ℕ
next_map p = p + 12

-- the body of the map whose header is at p, in the CPI that starts at c: at CPI start + 6 + address
abbrev pub body_at : List ℕ → ℕ → ℕ → ℕ
body_at f c p = c + 6 + be_at f (p + 8) 4

-- the body holds a u32 fine address, counted from the body, then coarse rows
abbrev pub fine_start : List ℕ → ℕ → ℕ → ℕ
fine_start f c p = body_at f c p + be_at f (body_at f c p) 4

-- the entries of the map whose header is at p, one for each fine row
abbrev pub entries_of : List ℕ → ℕ → ℕ → List Row
entries_of f c p =
    entries_for (map_type_at f p)
    (rows_at (coarse_at f) next_coarse (body_at f c p + 4) (coarse_count_at f p))
    0 (rows_at (fine_at f) next_fine (fine_start f c p) (fine_count_at f p))

-- ---- the section that starts at c: u32 length N, u16 with the CPI type in its low four bits, a spare byte, u8 map count

-- N, which does not count its own four bytes
abbrev pub cpi_length : List ℕ → ℕ → ℕ
cpi_length f c = be_at f c 4

-- the CPI end: CPI start + 4 + N
abbrev pub cpi_end : List ℕ → ℕ → ℕ
cpi_end f c = c + 4 + cpi_length f c

-- only a section of type 1 has maps
abbrev pub cpi_type : List ℕ → ℕ → ℕ
cpi_type f c = be_at f (c + 4) 2 % 2 ^ 4

-- no maps without a section, or where N is below 2, the type is not 1, or N is below 4
unfoldable pub has_maps : List ℕ → ℕ → Bool
has_maps f c = both (present f c) (both (leb 2 (cpi_length f c)) (both (eqb (cpi_type f c) 1) (leb 4 (cpi_length f c))))

-- the count that the section gives; 0 where there are no maps
unfoldable pub map_count : List ℕ → ℕ → ℕ
map_count f c = pick (has_maps f c) (be_at f (c + 7) 1) 0

-- the rows of table 5, in the order of their headers
unfoldable pub maps_from : List ℕ → ℕ → List Row
maps_from f c = rows_at (map_at f) next_map (c + 8) (map_count f c)

-- the rows of table 6, map after map
unfoldable pub entries_from : List ℕ → ℕ → List Row
entries_from f c = gather (entries_of f c) next_map (c + 8) (map_count f c)

-- ---- what must lie where: refusal 6

-- 4 + N bytes must exist, also where there are no maps
abbrev pub cpi_length_in : List ℕ → ℕ → Bool
cpi_length_in f c = pick (present f c) (leb (cpi_end f c) (length f)) true

-- map headers may pass the CPI end, not the file's
abbrev pub map_headers_in : List ℕ → ℕ → Bool
map_headers_in f c = pick (has_maps f c) (leb (c + 8 + 12 * map_count f c) (length f)) true

-- the section and the map headers lie within the file, else 6
unfoldable pub cpi_in : List ℕ → ℕ → Bool
cpi_in f c = both (cpi_length_in f c) (map_headers_in f c)

-- ---- a map's four tests, for the map whose header is at p

-- the body must be below the CPI end
abbrev pub address_in : List ℕ → ℕ → ℕ → Bool
address_in f c p = ltb (body_at f c p) (cpi_end f c)

-- the body's first four bytes and its coarse rows may pass the CPI end, not the file's
abbrev pub coarse_rows_in : List ℕ → ℕ → ℕ → Bool
coarse_rows_in f c p = leb (body_at f c p + 4 + 8 * coarse_count_at f p) (length f)

-- the fine address may equal the CPI end, not pass it
abbrev pub fine_address_in : List ℕ → ℕ → ℕ → Bool
fine_address_in f c p = leb (fine_start f c p) (cpi_end f c)

-- the fine rows may pass the CPI end, not the file's
abbrev pub fine_rows_in : List ℕ → ℕ → ℕ → Bool
fine_rows_in f c p = leb (fine_start f c p + 4 * fine_count_at f p) (length f)

-- the map lies as it must
abbrev pub map_in : List ℕ → ℕ → ℕ → Bool
map_in f c p = both (address_in f c p) (both (coarse_rows_in f c p) (both (fine_address_in f c p) (fine_rows_in f c p)))

-- and so does each map of the section
unfoldable pub maps_in : List ℕ → ℕ → Bool
maps_in f c = every (λ b. b) (rows_at (map_in f c) next_map (c + 8) (map_count f c))

-- ---- refusals 7, 41 and 42

-- in the order address, coarse rows, fine address, fine rows: 7 a map's address; 41 a fine address past the CPI end; 42 a read in a map's body,
-- its first four bytes included, passes the file's end
abbrev pub map_refusal : List ℕ → ℕ → ℕ → ℕ
map_refusal f c p =
    unless (address_in f c p) 7
    (unless (coarse_rows_in f c p) 42
    (unless (fine_address_in f c p) 41
    (unless (fine_rows_in f c p) 42 0)))

-- map by map, in the order of their headers
unfoldable pub maps_refusal : List ℕ → ℕ → ℕ
maps_refusal f c = first_refusal (rows_at (map_refusal f c) next_map (c + 8) (map_count f c))
