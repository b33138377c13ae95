-- What is read of a list of bytes is a record that can be written.
use Prim.Native.Nat.{ℕ, zero, suc, ◌+◌, ◌*◌, ◌/◌, ◌%◌, ◌^◌, ◌<◌, ◌≤◌, max}
use mathlib.Core.Path.{◌≡◌, refl, ap, ◌∙◌}
use mathlib.Core.List.{List, [], ◌∷◌, map}
use mathlib.Core.Bool.{Bool, true, false, not}
use native.Mathlib.Omega.{arith}
use lib.ListN.{length, get_or}
use lib.Seq.{take_at, drop_at}
use lib.Dec.{leb, eqb, lit<}
use borrow.Author.Tests.{leb-true, le-leb, lt-leb}
use Rattle.format.specs.Bytes.{IsBytes, both, pick, be_at, rows_at, gather}
use Rattle.format.specs.ClipRecord.{Row, Clip, atc_stc_count, stream_count, entry_count, letters_right, version_of, sequences_start, programs_start, cpi_start, scalars_of, atc_at, stc_at, next_stc, stcs_of, next_atc, atcs_from, stcs_from}
use Rattle.format.specs.EntryPoints.{coarse_at, next_coarse, first_fine_of, fine_at, next_fine, join_time, join_packet, entry_of, step_on, coarse_for, entries_for, map_type_at, coarse_count_at, fine_count_at, map_at, next_map, body_at, fine_start, entries_of, has_maps, map_count, maps_from, entries_from}
use Rattle.format.specs.Programs.{is_video, lower, lowered, coding_at, format_at, aspect_at, language_at, stream_at, next_stream, program_at, streams_of, next_program, programs_from, streams_from, lowered_stream}
use Rattle.format.specs.Reading.{clip_of}
use Rattle.format.specs.Refusals.{refusal_of, every_map, runs_fit}
use Rattle.format.specs.Rewriting.{same_run, coarse_row, unless_same, coarse_after, runs}
use Rattle.format.proofs.Fields.{Fit, fit, time_is, time_cells}
use Rattle.format.proofs.Good.{GoodAtc, GoodStc, GoodProgram, GoodStream, GoodMap, Maps, GoodClip, none, more}
use Rattle.format.proofs.Join.{GoodEntry}
use Rattle.format.proofs.Lists.{All, none, more}
use Rattle.format.proofs.Rows.{map_fixed, rows_length, rows_all, gather_all, gather_adds}
use Rattle.format.proofs.Stores.{be_below}
use Rattle.format.proofs.Tests.{both_true, passed}

-- ---- letters

-- a choice of two numbers below k is below k
pick_lt : (b : Bool) (x y k : ℕ) → x < k → y < k → pick b x y < k
pick_lt true x y k h g = h
pick_lt false x y k h g = g

-- a lowered byte is a byte, and lowering it again changes nothing
lower_cases : (b : ℕ) → b < 256 → (lower b < 256) × (lower (lower b) ≡ lower b)
unfolding lower
lower_cases b h = go (leb 65 b) (leb b 90) refl refl
  where
    go : (x y : Bool) → leb 65 b ≡ x → leb b 90 ≡ y
        → (pick (both x y) (b + 32) b < 256) × (lower (pick (both x y) (b + 32) b) ≡ pick (both x y) (b + 32) b)
    go true true e f =
        let k = leb-true b 90 f in
        let m = leb-true 65 b e in
        (omega arith, rw (le-leb 65 (b + 32) (omega arith), lt-leb (b + 32) 90 (omega arith)))
    go true false e f = (h, rw (e, f))
    go false y e f = (h, rw e)

-- so it is with a language of three bytes
pub lowered_facts : (x : ℕ) → x < 2 ^ 24 → (lowered x < 2 ^ 24) × (lowered (lowered x) ≡ lowered x)
unfolding lowered
lowered_facts x h =
    let a = lower_cases (x / 65536) (omega arith) in
    let m = lower_cases (x / 256 % 256) (omega arith) in
    let z = lower_cases (x % 256) (omega arith) in
    go (lower (x / 65536)) (lower (x / 256 % 256)) (lower (x % 256)) a.0 m.0 z.0 a.1 m.1 z.1
  where
    go : (a m z : ℕ) → a < 256 → m < 256 → z < 256 → lower a ≡ a → lower m ≡ m → lower z ≡ z
        → (a * 65536 + m * 256 + z < 2 ^ 24)
        × (lower ((a * 65536 + m * 256 + z) / 65536) * 65536 + lower ((a * 65536 + m * 256 + z) / 256 % 256) * 256 + lower ((a * 65536 + m * 256 + z) % 256)
        ≡ a * 65536 + m * 256 + z)
    go a m z ha hm hz ea em ez =
        let i : (a * 65536 + m * 256 + z) / 65536 ≡ a = omega arith in
        let j : (a * 65536 + m * 256 + z) / 256 % 256 ≡ m = omega arith in
        let k : (a * 65536 + m * 256 + z) % 256 ≡ z = omega arith in
        (omega arith, rw (i, j, k, ea, em, ez))

-- ---- entries

-- what holds of a row and of all behind it holds of the one that the stepping rule reaches
reach_all : {P : Row → Type 0} (c : Row) {cs : List Row} → P c → All P cs → (k : ℕ) → P (step_on c cs k)
reach_all c h none k = h
reach_all {P} c h (more {x = d} {xs = ds} g gs) k = go (leb (first_fine_of d) k) (reach_all {P = P} d g gs k)
  where
    go : (b : Bool) → P (step_on d ds k) → P (pick b (step_on d ds k) c)
    go true i = i
    go false i = h

-- a coarse row's packet has 32 bits
abbrev HasPacket : Row → Type 0
HasPacket c = get_or c 2 0 < 2 ^ 32

-- where each row's packet has, so has that of the row that fine row k uses; without coarse rows it is 0
coarse_packet_lem : {cs : List Row} → All HasPacket cs → (k : ℕ) → HasPacket (coarse_for cs k)
coarse_packet_lem none k = lit< tt
coarse_packet_lem (more {x = c} h hs) k = reach_all {P = HasPacket} c h hs k

-- a time joined with a fine time of 11 bits has 32 bits and is a multiple of 512
pub time_facts : (c t : ℕ) → t < 2048 → (join_time c t < 2 ^ 32) × (join_time c t % 512 ≡ 0)
time_facts c t h = rw (time_is c t h) (go (c % 8192 / 2) (c % 2) (t / 1024) (t % 1024) (omega arith) (omega arith) (omega arith) (omega arith))
  where
    go : (a b d e : ℕ) → a < 4096 → b < 2 → d < 2 → e < 1024
        → ((a * 2 + max b d) * 524288 + e * 512 < 2 ^ 32) × (((a * 2 + max b d) * 524288 + e * 512) % 512 ≡ 0)
    go a b d e ha hb hd he = (omega arith, omega arith)

-- a packet joined of a coarse one of 32 bits and a fine one of 17 has 32 bits
packet_facts : (c p : ℕ) → c < 2 ^ 32 → p < 2 ^ 17 → join_packet c p < 2 ^ 32
unfolding join_packet
packet_facts c p h k = omega arith

-- a coarse row and a fine row with cells that fit join to an entry of a map of this type
entry_good : (type : ℕ) (c x : Row) → type < 2 ^ 4 → HasPacket c → get_or x 0 0 < 2 → get_or x 1 0 < 8 → get_or x 2 0 < 2048 → get_or x 3 0 < 2 ^ 17
    → GoodEntry type (entry_of type c x)
entry_good type c x ht hc h0 h1 h2 h3 =
    let j = join_time (get_or c 1 0) (get_or x 2 0) in
    let t = time_facts (get_or c 1 0) (get_or x 2 0) h2 in
    record {
      cells = fit 1 (get_or x 0 0) h0 (fit 3 (get_or x 1 0) h1 (fit 32 (j % 2 ^ 32) (omega arith) (fit 0 (j / 2 ^ 32) (omega (arith, t.0))
          (fit 32 (join_packet (get_or c 2 0) (get_or x 3 0)) (packet_facts (get_or c 2 0) (get_or x 3 0) hc h3) (fit 4 type ht Fit.none)))));
      step = rw (time_cells j) t.1;
      type_same = refl;
    }

-- each cell of a fine row fits its bits: 1, 3, 11 and 17
record FineCells (x : Row) : Type 0 where
  angle : get_or x 0 0 < 2
  i_end : get_or x 1 0 < 8
  time : get_or x 2 0 < 2048
  packet : get_or x 3 0 < 2 ^ 17

-- fine rows with cells that fit join to entries of a map of this type, whichever coarse row each uses
entries_good : (type : ℕ) → type < 2 ^ 4 → (cs : List Row) → All HasPacket cs → {xs : List Row} → All FineCells xs → (k : ℕ)
    → All (GoodEntry type) (entries_for type cs k xs)
entries_good type ht cs hc none k = none
entries_good type ht cs hc (more {x = x} h hs) k =
    more (entry_good type (coarse_for cs k) x ht (coarse_packet_lem hc k) h.angle h.i_end h.time h.packet) (entries_good type ht cs hc hs (suc k))

-- each fine row gives one entry
pub entries_length : (type : ℕ) (cs : List Row) (k : ℕ) (xs : List Row) → length (entries_for type cs k xs) ≡ length xs
entries_length type cs k [] = refl
entries_length type cs k (x ∷ xs) = ap suc (entries_length type cs (suc k) xs)

-- a map has as many entries as fine rows
pub own_length : (f : List ℕ) (c p : ℕ) → length (entries_of f c p) ≡ fine_count_at f p
own_length f c p =
    entries_length (map_type_at f p) (rows_at (coarse_at f) next_coarse (body_at f c p + 4) (coarse_count_at f p)) 0 (rows_at (fine_at f) next_fine (fine_start f c p) (fine_count_at f p))
    ∙ rows_length (fine_at f) next_fine (fine_start f c p) (fine_count_at f p)

-- ---- runs

-- not more coarse rows than entries
after_few : (e : Row) (k : ℕ) (xs : List Row) → length (coarse_after e k xs) ≤ length xs
unfolding coarse_after
after_few e k [] = omega arith
after_few e k (x ∷ xs) = go (same_run e x) (after_few x (suc k) xs)
  where
    go : (b : Bool) → length (coarse_after x (suc k) xs) ≤ length xs → length (unless_same b (coarse_row k x) (coarse_after x (suc k) xs)) ≤ suc (length xs)
    go true h = omega arith
    go false h = omega arith

-- not more runs than entries
pub runs_few : (es : List Row) → runs es ≤ length es
unfolding runs
runs_few [] = omega arith
runs_few (x ∷ xs) = let h = after_few x 1 xs in omega arith

-- maps whose runs are tested to be few
pub maps_narrow : {ms es : List Row} → Maps 262143 ms es → every_map (λ m own. leb (runs own) 65535) ms es ≡ true → Maps 65535 ms es
maps_narrow Maps.none h = Maps.none
maps_narrow (Maps.more {m = m} {ms = ms} {own = own} {rest = rest} g size good few later) h =
    let h' = rw (take_at own rest (entry_count m) size, drop_at own rest (entry_count m) size) at h in
    let b = both_true h' in
    Maps.more g size good (leb-true (runs own) 65535 b.0) (maps_narrow later b.1)

-- a record of a file that is not refused with 31
pub narrow : (c : Clip) → GoodClip 262143 c → runs_fit c ≡ true → GoodClip 65535 c
unfolding runs_fit
narrow c g h = record {
  scalars = g.scalars;
  atcs_few = g.atcs_few;
  atcs_good = g.atcs_good;
  stcs_good = g.stcs_good;
  stcs_add = g.stcs_add;
  programs_few = g.programs_few;
  programs_good = g.programs_good;
  streams_good = g.streams_good;
  streams_add = g.streams_add;
  maps_few = g.maps_few;
  maps_good = maps_narrow g.maps_good h;
}

-- ---- a file

-- one that is accepted has eight bytes, and begins with right letters
pub right_front : (f : List ℕ) → refusal_of f ≡ 0 → (8 ≤ length f) × (letters_right f ≡ true)
unfolding refusal_of
right_front f h =
    let a = passed (leb (length f) 536870912) 19 _ h in
    let b = passed (leb 8 (length f)) 0 _ a.1 in
    (leb-true 8 (length f) b.0, (passed (letters_right f) 1 _ b.1).0)

module _ (f : List ℕ) (bytes : IsBytes f) where
  -- a number that is read from n bytes fits them
  below : (p n : ℕ) → be_at f p n < 256 ^ n
  below p n = be_below f bytes p n

  -- the cells of an ATC fit, wherever it is read
  atc_good : (p : ℕ) → GoodAtc (atc_at f p)
  atc_good p = fit 32 (be_at f p 4) (below p 4) (fit 8 (be_at f (p + 4) 1) (below (p + 4) 1) (fit 8 (be_at f (p + 5) 1) (below (p + 5) 1) Fit.none))

  -- so do those of an STC
  stc_good : (p : ℕ) → GoodStc (stc_at f p)
  stc_good p =
      fit 16 (be_at f p 2) (below p 2) (fit 32 (be_at f (p + 2) 4) (below (p + 2) 4)
      (fit 32 (be_at f (p + 6) 4) (below (p + 6) 4) (fit 32 (be_at f (p + 10) 4) (below (p + 10) 4) Fit.none)))

  -- so do those of a program
  program_good : (p : ℕ) → GoodProgram (program_at f p)
  program_good p = fit 32 (be_at f p 4) (below p 4) (fit 16 (be_at f (p + 4) 2) (below (p + 4) 2) (fit 8 (be_at f (p + 6) 1) (below (p + 6) 1) Fit.none))

  -- a language that is read has 24 bits and no capital letter; where there is none it is 0
  language_facts : (v : Bool) (p size : ℕ) → (language_at v f p size < 2 ^ 24) × (lowered (language_at v f p size) ≡ language_at v f p size)
  unfolding lowered lower
  language_facts v p size = go (both (not v) (leb 5 size))
    where
      x : ℕ
      x = be_at f (p + 2) 3

      go : (b : Bool) → (pick b (lowered x) 0 < 2 ^ 24) × (lowered (pick b (lowered x) 0) ≡ pick b (lowered x) 0)
      go true = lowered_facts x (below (p + 2) 3)
      go false = (lit< tt, refl)

  -- what is read has no language on video and no aspect on anything else
  only_one : (v : Bool) (p size : ℕ) → pick v (eqb (language_at v f p size) 0) (eqb (aspect_at v f p size) 0) ≡ true
  only_one true p size = refl
  only_one false p size = refl

  -- so the cells of a stream fit, and at most one of aspect and language is there
  stream_good : (p : ℕ) → GoodStream (stream_at f p)
  stream_good p =
      let size = be_at f (p + 2) 1 in
      let q = p + 3 in
      let coding = coding_at f q size in
      let v = is_video coding in
      let l = language_facts v q size in
      let a = below (q + 2) 1 in
      record {
        cells = fit 16 (be_at f p 2) (below p 2) (fit 8 coding (pick_lt (leb 1 size) (be_at f q 1) 0 256 (below q 1) (lit< tt))
            (fit 8 (format_at f q size) (pick_lt (leb 2 size) (be_at f (q + 1) 1) 0 256 (below (q + 1) 1) (lit< tt))
            (fit 4 (aspect_at v f q size) (pick_lt (both v (leb 3 size)) (be_at f (q + 2) 1 / 16) 0 16 (omega arith) (lit< tt))
            (fit 24 (language_at v f q size) l.0 Fit.none))));
        only = only_one v q size;
      }

  -- lowering the language of a stream that was read changes nothing
  stream_low : (p : ℕ) → lowered_stream (stream_at f p) ≡ stream_at f p
  stream_low p =
      let size = be_at f (p + 2) 1 in
      let v = is_video (coding_at f (p + 3) size) in
      rw (language_facts v (p + 3) size).1

  -- languages that were read are lowered already
  pub lowered_streams : (start : ℕ) → map lowered_stream (streams_from f start) ≡ streams_from f start
  unfolding streams_from
  lowered_streams start =
      map_fixed lowered_stream
      (gather_all (streams_of f) (next_program f) (λ p. rows_all (stream_at f) (next_stream f) stream_low (p + 8) (be_at f (p + 6) 1)) (start + 6) (be_at f (start + 5) 1))

  -- the cells of a map fit, as its header has 4 bits for the type and 18 for the count
  map_good : (p : ℕ) → GoodMap (map_at f p)
  map_good p = fit 16 (be_at f p 2) (below p 2) (fit 4 (map_type_at f p) (omega arith) (fit 18 (fine_count_at f p) (omega arith) Fit.none))

  -- the cells of a fine row fit, as they are the bits of its four bytes
  fine_cells : (p : ℕ) → FineCells (fine_at f p)
  fine_cells p = let b = below p 4 in record { angle = omega arith; i_end = omega arith; time = omega arith; packet = omega arith }

  -- a map's own entries have cells that fit, multiples of 512 as times, and its type
  own_good : (c p : ℕ) → All (GoodEntry (map_type_at f p)) (entries_of f c p)
  own_good c p =
      entries_good (map_type_at f p) (omega arith) (rows_at (coarse_at f) next_coarse (body_at f c p + 4) (coarse_count_at f p))
      (rows_all (coarse_at f) next_coarse (λ q. omega arith) (body_at f c p + 4) (coarse_count_at f p))
      (rows_all (fine_at f) next_fine fine_cells (fine_start f c p) (fine_count_at f p)) 0

  -- n maps from p with their entries: each has at most 262,143 runs, as it has no more entries
  maps_read : (c p n : ℕ) → Maps 262143 (rows_at (map_at f) next_map p n) (gather (entries_of f c) next_map p n)
  maps_read c p zero = Maps.none
  maps_read c p (suc n) =
      let own = entries_of f c p in
      let k = own_length f c p in
      let few : runs own ≤ 262143 = omega (arith, runs_few own) in
      Maps.more (map_good p) k (own_good c p) few (maps_read c (next_map p) n)

  -- a count of maps is a byte
  pub few_maps : (c : ℕ) → map_count f c ≤ 255
  unfolding map_count
  few_maps c = go (has_maps f c)
    where
      go : (b : Bool) → pick b (be_at f (c + 7) 1) 0 ≤ 255
      go true = let h = below (c + 7) 1 in omega arith
      go false = omega arith

  -- of any bytes, accepted or not
  pub good_clip : GoodClip 262143 (clip_of f)
  unfolding clip_of scalars_of atcs_from stcs_from programs_from streams_from maps_from entries_from
  good_clip =
      let a = sequences_start f in
      let b = programs_start f in
      let c = cpi_start f in
      let na = below (a + 5) 1 in
      let nb = below (b + 5) 1 in
      record {
        scalars = fit 32 (version_of f) (below 4 4) (fit 8 (be_at f 46 1) (below 46 1) (fit 8 (be_at f 47 1) (below 47 1)
            (fit 32 (be_at f 52 4) (below 52 4) (fit 32 (be_at f 56 4) (below 56 4) (fit 8 (be_at f 188 1) (below 188 1)
            (fit 32 (be_at f 190 4) (below 190 4) Fit.none))))));
        atcs_few = rw rows_length (omega arith);
        atcs_good = rows_all (atc_at f) (next_atc f) atc_good (a + 6) (be_at f (a + 5) 1);
        stcs_good = gather_all (stcs_of f) (next_atc f) (λ p. rows_all (stc_at f) next_stc stc_good (p + 6) (be_at f (p + 4) 1)) (a + 6) (be_at f (a + 5) 1);
        stcs_add = gather_adds (atc_at f) atc_stc_count (stcs_of f) (next_atc f) (λ p. rows_length (stc_at f) next_stc (p + 6) (be_at f (p + 4) 1)) (a + 6) (be_at f (a + 5) 1);
        programs_few = rw rows_length (omega arith);
        programs_good = rows_all (program_at f) (next_program f) program_good (b + 6) (be_at f (b + 5) 1);
        streams_good = gather_all (streams_of f) (next_program f) (λ p. rows_all (stream_at f) (next_stream f) stream_good (p + 8) (be_at f (p + 6) 1)) (b + 6) (be_at f (b + 5) 1);
        streams_add = gather_adds (program_at f) stream_count (streams_of f) (next_program f) (λ p. rows_length (stream_at f) (next_stream f) (p + 8) (be_at f (p + 6) 1)) (b + 6) (be_at f (b + 5) 1);
        maps_few = rw rows_length (few_maps c);
        maps_good = maps_read c (c + 8) (map_count f c);
      }
