-- A map without coarse rows by the zeros that stand for one, and the CPI type by its two bytes.
use Prim.Native.Nat.{ℕ, zero, suc, ◌+◌, ◌*◌, ◌%◌}
use mathlib.Core.Path.{◌≡◌, refl}
use mathlib.Core.List.{List, [], ◌∷◌, ◌++◌, map}
use native.Mathlib.Omega.{arith}
use lib.ListN.{length, get_or}
use lib.Seq.{get_or-append_seam}
use Rattle.format.specs.Bytes.{be_at, rows_at}
use Rattle.format.specs.ClipRecord.{Row, time, packet, letters_right, scalars_of, clip_info_in, atcs_from, stcs_from, sequences_end, marks_in}
use Rattle.format.specs.Programs.{programs_from, streams_from, programs_end}
use Rattle.format.specs.EntryPoints.{join_time, join_packet, entries_for, fine_at, next_fine, fine_start, coarse_count_at, fine_count_at, map_type_at, entries_of, cpi_type, has_maps, map_count, maps_from, entries_from, cpi_in, maps_refusal}
use Rattle.format.specs.Reading.{clip_of}
use Rattle.format.specs.Refusals.{refusal_of}
use Rattle.format.proofs.Fields.{narrow_cells}
use Rattle.format.proofs.Lists.{All, none, more}
use Rattle.theorems.specs.ListingExample.{listed_file, listed_clip}
use Rattle.theorems.specs.Boundaries.{fine_rows, fine_alone, Low, NoCoarseRows, Boundaries}

-- ---- a map without coarse rows

-- zeros leave a fine row's time as it is
time_alone : (fine : ℕ) → join_time 0 fine ≡ fine * 512
unfolding join_time
time_alone fine = refl

-- the packet likewise
packet_alone : (fine : ℕ) → join_packet 0 fine ≡ fine
unfolding join_packet
packet_alone fine = omega arith

-- so do they for all fine rows, whose times have 11 bits
rows_alone : (f : List ℕ) (type k p n : ℕ) → entries_for type [] k (rows_at (fine_at f) next_fine p n) ≡ map (fine_alone type) (rows_at (fine_at f) next_fine p n)
rows_alone f type k p zero = refl
rows_alone f type k p (suc n) =
    let x = fine_at f p in
    let c = narrow_cells (get_or x 2 0 * 512) (omega arith) in
    rw (time_alone (get_or x 2 0), packet_alone (get_or x 3 0), c.0, c.1, rows_alone f type (suc k) (p + 4) n)

-- the fields of a fine row are as wide as they are
low_rows : (f : List ℕ) (type p n : ℕ) → All Low (map (fine_alone type) (rows_at (fine_at f) next_fine p n))
low_rows f type p zero = none
low_rows f type p (suc n) = more {x = fine_alone type (fine_at f p)} (omega arith, omega arith) (low_rows f type (p + 4) n)

-- the map
no_coarse : (f : List ℕ) (c p : ℕ) → coarse_count_at f p ≡ 0 → NoCoarseRows f c p
no_coarse f c p h =
    let alone : entries_of f c p ≡ map (fine_alone (map_type_at f p)) (fine_rows f c p) = rw h (rows_alone f (map_type_at f p) 0 (fine_start f c p) (fine_count_at f p)) in
    record { alone = alone; low = rw alone (low_rows f (map_type_at f p) (fine_start f c p) (fine_count_at f p)) }

-- ---- the CPI type

-- the second byte behind some others
second_behind : (before : List ℕ) (x y : ℕ) (behind : List ℕ) → get_or (before ++ (x ∷ y ∷ behind)) (length before + 1) 0 ≡ y
second_behind [] x y behind = refl
second_behind (b ∷ before) x y behind =
    let e : length (b ∷ before) + 1 ≡ suc (length before + 1) = omega arith in
    rw e (second_behind before x y behind)

-- the number of the two, of which the first counts 256
low_bits : (before : List ℕ) (high low : ℕ) (behind : List ℕ) (c : ℕ) → length before ≡ c + 4
    → cpi_type (before ++ (high ∷ low ∷ behind)) c ≡ low % 16
unfolding be_at
low_bits before high low behind c h =
    let z : length before + 0 ≡ length before = omega arith in
    let e : ((0 * 256 + high) * 256 + low) % 16 ≡ low % 16 = omega arith in
    rw (← h, z, get_or-append_seam before high (low ∷ behind) 0, second_behind before high low behind) e

-- the statements together; the two files have no unknowns
pub boundaries : Boundaries
unfolding listed_clip listed_file be_at letters_right scalars_of clip_info_in atcs_from stcs_from sequences_end marks_in programs_from streams_from programs_end join_time join_packet has_maps map_count maps_from entries_from cpi_in maps_refusal clip_of refusal_of
boundaries = record { no_coarse_rows = no_coarse; cpi_type_lem = low_bits; twelve_bits = (refl, refl); another_type = (refl, refl) }
