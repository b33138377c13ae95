-- How long a section can be.
use Prim.Native.Nat.{ℕ, suc, ◌+◌, ◌*◌, ◌≤◌}
use mathlib.Core.Path.{◌≡◌, sym, ap, ◌∙◌}
use mathlib.Core.List.{List, [], ◌∷◌, ◌++◌}
use mathlib.Core.Bool.{Bool, true, false}
use native.Mathlib.Nat.{mul-suc, mul-add}
use native.Mathlib.Omega.{arith}
use lib.ListN.{length, take, drop, length-append, take-append-drop}
use lib.Seq.{take_at, drop_at}
use lib.Dec.{eqb}
use Rattle.format.specs.Bytes.{field_bytes, flat, total}
use Rattle.format.specs.ClipRecord.{Row, Clip, atc_stc_count, stream_count, coding_type_of, language, entry_count}
use Rattle.format.specs.Programs.{is_video}
use Rattle.format.specs.Rewriting.{groups, atc_bytes, stc_bytes, sequences_bytes, program_bytes, stream_bytes_by, stream_bytes, programs_bytes, body_bytes, bodies, headers, cpi_bytes_by, cpi_bytes}
use Rattle.format.proofs.Cpi.{body_length, headers_length}
use Rattle.format.proofs.Fields.{Fit, one}
use Rattle.format.proofs.Good.{GoodAtc, GoodStc, GoodProgram, GoodStream, GoodMap, Maps, GoodClip, none, more}
use Rattle.format.proofs.Lists.{All, all_take, all_drop, all_map, none, more}
use Rattle.format.proofs.Numbers.{bytes_length}
use Rattle.format.proofs.Sections.{section_length}

-- rows of at most w bytes each take at most w times their number
flat_bound : (w : ℕ) (bytes : Row → List ℕ) {rows : List Row} → All (λ row. length (bytes row) ≤ w) rows → length (flat bytes rows) ≤ w * length rows
flat_bound w bytes none = omega arith
flat_bound w bytes (more {x = row} {xs = rows} h hs) =
    let r = flat_bound w bytes hs in
    rw (length-append, mul-suc) (omega arith)

-- the rows a header takes, and those that are left
split_count : (n : ℕ) (rows : List Row) → length (take n rows) + length (drop n rows) ≡ length rows
split_count n rows = sym (length-append (take n rows) (drop n rows)) ∙ ap length (take-append-drop n rows)

-- heads of at most v bytes with rows of at most w behind them take at most v times the heads and w times the rows
groups_bound : (v w : ℕ) (head : Row → List ℕ) (count : Row → ℕ) (bytes : Row → List ℕ) {hs : List Row} → All (λ h. length (head h) ≤ v) hs
    → {rows : List Row} → All (λ row. length (bytes row) ≤ w) rows → length (groups head count bytes hs rows) ≤ v * length hs + w * length rows
groups_bound v w head count bytes none {rows} k = omega arith
groups_bound v w head count bytes (more {x = h} {xs = hs} g gs) {rows} k =
    let mine = take (count h) rows in
    let later = drop (count h) rows in
    let a = flat_bound w bytes (all_take (count h) k) in
    let b = groups_bound v w head count bytes gs {rows = later} (all_drop (count h) k) in
    let e : w * length rows ≡ w * length mine + w * length later = rw (← split_count (count h) rows) (mul-add w (length mine) (length later)) in
    rw (length-append (head h ++ flat bytes mine) (groups head count bytes hs later), length-append (head h) (flat bytes mine), mul-suc v (length hs)) (omega arith)

-- counts of at most 255 add up to at most 255 times the number of heads
total_bound : (count : Row → ℕ) {hs : List Row} → All (λ h. count h ≤ 255) hs → total count hs ≤ 255 * length hs
total_bound count none = omega arith
total_bound count (more g gs) = let r = total_bound count gs in omega arith

-- ---- the rows

-- an ATC takes at most six bytes: packet, STC count, offset id
atc_size : (row : Row) → GoodAtc row → length (atc_bytes row) ≤ 6
atc_size row (one {v = a} ha (one {v = b} hb (one {v = c} hc Fit.none))) = simp (length-append, bytes_length) (omega arith)

-- an STC takes at most 14: PID, packet, start, end
stc_size : (row : Row) → GoodStc row → length (stc_bytes row) ≤ 14
stc_size row (one {v = a} ha (one {v = b} hb (one {v = c} hc (one {v = d} hd Fit.none)))) = simp (length-append, bytes_length) (omega arith)

-- a program takes at most eight: packet, PID, stream count, a spare byte
program_size : (row : Row) → GoodProgram row → length (program_bytes row) ≤ 8
program_size row (one {v = a} ha (one {v = b} hb (one {v = c} hc Fit.none))) = simp (length-append, bytes_length) (omega arith)

-- a stream takes at most eight in each of its three forms; with a language it takes most
stream_size_by : (v z : Bool) (row : Row) → length (stream_bytes_by v z row) ≤ 8
stream_size_by true z row = simp (length-append, bytes_length) (omega arith)
stream_size_by false true row = simp (length-append, bytes_length) (omega arith)
stream_size_by false false row = simp (length-append, bytes_length) (omega arith)

-- so it does in the form that its coding type and language choose
stream_size : (row : Row) → GoodStream row → length (stream_bytes row) ≤ 8
stream_size row g = stream_size_by (is_video (coding_type_of row)) (eqb (language row) 0) row

-- the STC count of an ATC is a byte
atc_count : (row : Row) → GoodAtc row → atc_stc_count row ≤ 255
atc_count row (one ha (one hb (one hc Fit.none))) = omega arith

-- so is the stream count of a program
program_count : (row : Row) → GoodProgram row → stream_count row ≤ 255
program_count row (one ha (one hb (one hc Fit.none))) = omega arith

-- ---- the sections

-- six bytes of its own, then at most 255 ATCs of six with at most 255 STCs of 14 behind each
pub sequences_bound : (c : Clip) → GoodClip 65535 c → length (sequences_bytes c) ≤ 911886
unfolding sequences_bytes
sequences_bound c g =
    let n = total_bound atc_stc_count (all_map atc_count g.atcs_good) in
    let b = groups_bound 6 14 atc_bytes atc_stc_count stc_bytes (all_map atc_size g.atcs_good) (all_map stc_size g.stcs_good) in
    let few = g.atcs_few in
    let add = g.stcs_add in
    rw (section_length) (omega arith)

-- six bytes of its own, then at most 255 programs of eight with at most 255 streams of eight each
pub programs_bound : (c : Clip) → GoodClip 65535 c → length (programs_bytes c) ≤ 522246
unfolding programs_bytes
programs_bound c g =
    let n = total_bound stream_count (all_map program_count g.programs_good) in
    let b = groups_bound 8 8 program_bytes stream_count stream_bytes (all_map program_size g.programs_good) (all_map stream_size g.streams_good) in
    let few = g.programs_few in
    let add = g.streams_add in
    rw (section_length) (omega arith)

-- a map's entry count has 18 bits
map_count_lem : (m : Row) → GoodMap m → entry_count m ≤ 262143
map_count_lem m (one ha (one hb (one hc Fit.none))) = omega arith

-- a map's body is a fine address of 4 bytes, at most 65,535 coarse rows of 8 and at most 262,143 fine rows of 4
bodies_bound : {ms es : List Row} → Maps 65535 ms es → length (bodies ms es) ≤ 1572856 * length ms
bodies_bound Maps.none = omega arith
bodies_bound (Maps.more {m = m} {ms = ms} {own = own} {rest = rest} g size good few later) =
    let r = bodies_bound later in
    let n = map_count_lem m g in
    let l = body_length own in
    rw (take_at own rest (entry_count m) size, drop_at own rest (entry_count m) size, length-append (body_bytes own) (bodies ms rest)) (omega arith)

-- eight bytes of its own, then at most 255 maps, each with a header of 12 and its body; without maps it is shorter
cpi_by : {ms es : List Row} → Maps 65535 ms es → length ms ≤ 255 → length (cpi_bytes_by ms es) ≤ 401081348
cpi_by Maps.none few = rw (bytes_length 4 0) (omega arith)
cpi_by (Maps.more {m = m} {ms = ms} {own = own} {rest = rest} g size good fw later) few =
    let es = own ++ rest in
    let n = suc (length ms) in
    let rows = bodies (m ∷ ms) es in
    let heads = headers (m ∷ ms) es (2 + 12 * n) in
    let top = field_bytes (4 ∷ 2 ∷ 1 ∷ 1 ∷ []) ((4 + 12 * n + length rows) ∷ 1 ∷ 0 ∷ n ∷ []) in
    let hl : length heads ≡ 12 * n = headers_length (m ∷ ms) es (2 + 12 * n) in
    let tl : length top ≡ 8 = simp (length-append, bytes_length) in
    let b = bodies_bound (Maps.more g size good fw later) in
    rw (length-append top (heads ++ rows), tl, length-append heads rows, hl) (omega arith)

-- so with the maps and entries of a record
pub cpi_bound : (c : Clip) → GoodClip 65535 c → length (cpi_bytes c) ≤ 401081348
unfolding cpi_bytes
cpi_bound c g = cpi_by g.maps_good g.maps_few
