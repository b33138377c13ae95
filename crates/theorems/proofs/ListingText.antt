-- The listing by the cases of reading, and its maps one after the other.
use Prim.Native.Nat.{ℕ, ◌+◌, ◌*◌, ◌/◌, ◌%◌, ◌≤◌, ◌<◌}
use mathlib.Core.Path.{◌≡◌, refl, sym, ap, ◌∙◌}
use mathlib.Core.List.{List, [], ◌∷◌, ◌++◌, map}
use native.Mathlib.Omega.{arith}
use lib.ListN.{length, take, drop, length-replicate, length-map}
use lib.Seq.{take-append_seam, drop-append_seam}
use borrow.Author.Tests.{le-leb, lt-leb, lt-ltb}
use Rattle.format.specs.Bytes.{flat}
use Rattle.format.specs.ClipRecord.{Row}
use Rattle.format.specs.Reading.{record_of}
use Rattle.format.specs.Refusals.{Stated, refused, too_short, accepted, read_answer}
use Rattle.format.specs.Listing.{digits, line, ep_line, map_lines, record_lines, rows4096, listing_tables, listing}
use Rattle.format.proofs.Fields.{time_cells}
use Rattle.format.proofs.Lists.{All, none, more}
use Rattle.theorems.specs.Owners.{own_joined, Entry, Map, entry_as_row, map_row, entries_as_rows}
use Rattle.theorems.specs.TooShort.{Needs, all_needs}
use Rattle.theorems.specs.ListingText.{refused_text, entry_text, map_text, ListingText}

-- a number below 10 has one digit
one_digit : (n : ℕ) → n < 10 → digits 20 n ≡ (48 + n) ∷ []
unfolding digits
one_digit n h =
    let e : n % 10 ≡ n = omega arith in
    rw (lt-ltb n 10 h, e)

-- 21 has two
twenty_one : digits 20 21 ≡ 50 ∷ 49 ∷ []
unfolding digits
twenty_one = refl

-- the four cases
too_long_text : (f : List ℕ) → 65536 < length f → listing f ≡ refused_text (50 ∷ 48 ∷ [])
unfolding listing line digits
too_long_text f h = rw (lt-leb (length f) 65536 h)

-- refused by its number
file_text : (f : List ℕ) (n : ℕ) → length f ≤ 65536 → read_answer f listing_tables ≡ refused n → n < 10 → listing f ≡ refused_text ((48 + n) ∷ [])
unfolding listing line
file_text f n short a h = rw (le-leb (length f) 65536 short, a, one_digit n h)

-- a table that is too short
table_text : (f : List ℕ) (k n : ℕ) → length f ≤ 65536 → read_answer f listing_tables ≡ too_short k n → k < 10
    → listing f ≡ refused_text (50 ∷ 49 ∷ 32 ∷ (48 + k) ∷ [])
unfolding listing line
table_text f k n short a h = rw (le-leb (length f) 65536 short, a, twenty_one, one_digit k h)

-- the record
listed_text_lem : (f : List ℕ) (s : Stated) → length f ≤ 65536 → read_answer f listing_tables ≡ accepted s → listing f ≡ record_lines (record_of f)
unfolding listing
listed_text_lem f s short a = rw (le-leb (length f) 65536 short, a)

-- a table of 4,096 rows
room_is : (cells bytes : ℕ) → 4 * cells ≡ bytes → 4096 * bytes / bytes ≡ 4096 → length (rows4096 cells) / bytes ≡ 4096
room_is cells bytes e q = rw (length-replicate {A = ℕ} (4096 * (4 * cells)) 0, e) q

-- all nine
rooms : (f : List ℕ) → All (λ n. n.room ≡ 4096) (all_needs f listing_tables)
unfolding listing_tables
rooms f =
    more (room_is 3 12 refl refl)
    (more (room_is 4 16 refl refl)
    (more (room_is 3 12 refl refl)
    (more (room_is 5 20 refl refl)
    (more (room_is 3 12 refl refl)
    (more (room_is 6 24 refl refl)
    (more (room_is 4 16 refl refl)
    (more (room_is 3 12 refl refl)
    (more (room_is 5 20 refl refl) none))))))))

-- ---- maps

-- entries
entries_text : (es : List Entry) → flat ep_line (map entry_as_row es) ≡ own_joined entry_text es
entries_text [] = refl
entries_text (e ∷ es) = rw (time_cells e.time, entries_text es)

-- maps, each with its own
maps_text : (ms : List Map) → map_lines (map map_row ms) (own_joined entries_as_rows ms) ≡ own_joined map_text ms
unfolding map_lines
maps_text [] = refl
maps_text (m ∷ ms) =
    let own = entries_as_rows m in
    let rest = own_joined entries_as_rows ms in
    let n : length m.entries ≡ length own = sym (length-map m.entries entry_as_row) in
    rw (n, take-append_seam own rest, drop-append_seam own rest, entries_text m.entries, maps_text ms)

-- all of it
pub listing_text : ListingText
listing_text = record { too_long = too_long_text; file = file_text; table = table_text; room = rooms; listed = listed_text_lem; maps = maps_text }
