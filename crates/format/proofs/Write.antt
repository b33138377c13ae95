-- A good record is not refused by the writer, and is written as bytes.
use Prim.Native.Nat.{ℕ, zero, suc, ◌+◌, ◌*◌, ◌/◌, ◌%◌, ◌<◌, ◌≤◌}
use mathlib.Core.Path.{◌≡◌, refl}
use mathlib.Core.List.{List, [], ◌∷◌}
use mathlib.Core.Bool.{Bool, true, false}
use native.Mathlib.Omega.{arith}
use lib.ListN.{length, get_or, take, drop, length-append}
use lib.Seq.{take_at, drop_at}
use lib.Dec.{leb, eqb, lit<}
use borrow.Author.Tests.{eq-eqb, le-leb}
use Rattle.format.specs.Bytes.{IsBytes, every, bytes_of, field_bytes, packed, flat, total}
use Rattle.format.specs.ClipRecord.{Row, Scalars, Clip, atc_stc_count, stream_count, coding_type_of, aspect, language, map_type_of, entry_count, time, entry_type_of}
use Rattle.format.specs.EntryPoints.{coarse_widths, fine_widths, header_widths}
use Rattle.format.specs.Programs.{is_video}
use Rattle.format.specs.Refusals.{counts_add, atc_fits, stc_fits, program_fits, stream_fits, map_fits, entry_fits, every_map, cells_fit, runs_fit, write_refusal}
use Rattle.format.specs.Rewriting.{coarse_rows, runs, groups, section_bytes, atc_bytes, stc_bytes, sequences_bytes, program_bytes, stream_bytes_by, stream_bytes, programs_bytes, coarse_bytes, fine_row, fine_bytes, body_bytes, bodies, headers, cpi_bytes_by, cpi_bytes, head_widths, head_values, head_bytes, encode}
use Rattle.format.proofs.Fields.{fit_fits}
use Rattle.format.proofs.Good.{GoodStream, GoodMap, Maps, GoodClip, Writable, none, more}
use Rattle.format.proofs.Join.{GoodEntry}
use Rattle.format.proofs.Lists.{All, all_every, all_append, all_map, none, more}
use Rattle.format.proofs.Tests.{true_both}

-- ---- bytes

-- a number that one byte holds
abbrev Byte : ℕ → Type 0
Byte b = b < 256

-- a number is written as bytes, in any width
number_bytes : (n v : ℕ) → All Byte (bytes_of n v)
unfolding bytes_of
number_bytes zero v = none
number_bytes (suc n) v = all_append (number_bytes n (v / 256)) (more (omega arith) none)

-- fields are written as bytes, whether their values fit or not
field_bytes_lem : (ws vs : List ℕ) → All Byte (field_bytes ws vs)
field_bytes_lem [] vs = none
field_bytes_lem (w ∷ ws) [] = none
field_bytes_lem (w ∷ ws) (v ∷ vs) = all_append (number_bytes w v) (field_bytes_lem ws vs)

-- rows that are bytes each are bytes when joined
flat_bytes : (bytes : Row → List ℕ) → ((row : Row) → All Byte (bytes row)) → (rows : List Row) → All Byte (flat bytes rows)
flat_bytes bytes h [] = none
flat_bytes bytes h (row ∷ rows) = all_append (h row) (flat_bytes bytes h rows)

-- heads with the rows behind them are bytes where each head and each row is
groups_bytes : (head : Row → List ℕ) (count : Row → ℕ) (bytes : Row → List ℕ) → ((row : Row) → All Byte (head row)) → ((row : Row) → All Byte (bytes row))
    → (hs rows : List Row) → All Byte (groups head count bytes hs rows)
groups_bytes head count bytes h k [] rows = none
groups_bytes head count bytes h k (x ∷ hs) rows =
    all_append (all_append (h x) (flat_bytes bytes k (take (count x) rows))) (groups_bytes head count bytes h k hs (drop (count x) rows))

-- a stream is written as bytes with each kind of body
stream_bytes_lem : (v z : Bool) (row : Row) → All Byte (stream_bytes_by v z row)
stream_bytes_lem true z row = field_bytes_lem (2 ∷ 1 ∷ 1 ∷ 1 ∷ 1 ∷ []) (get_or row 0 0 ∷ 3 ∷ get_or row 1 0 ∷ get_or row 2 0 ∷ aspect row * 16 ∷ [])
stream_bytes_lem false true row = field_bytes_lem (2 ∷ 1 ∷ 1 ∷ 1 ∷ []) (get_or row 0 0 ∷ 2 ∷ get_or row 1 0 ∷ get_or row 2 0 ∷ [])
stream_bytes_lem false false row = field_bytes_lem (2 ∷ 1 ∷ 1 ∷ 1 ∷ 3 ∷ []) (get_or row 0 0 ∷ 5 ∷ get_or row 1 0 ∷ get_or row 2 0 ∷ language row ∷ [])

-- a section is bytes where its items are
section_bytes_lem : (n : ℕ) (items : List ℕ) → All Byte items → All Byte (section_bytes n items)
section_bytes_lem n items h = all_append (field_bytes_lem (4 ∷ 1 ∷ 1 ∷ []) ((2 + length items) ∷ 0 ∷ n ∷ [])) h

-- the ATCs and STCs of any record are written as bytes
sequences_bytes_lem : (c : Clip) → All Byte (sequences_bytes c)
unfolding sequences_bytes
sequences_bytes_lem c =
    section_bytes_lem (length c.atcs) (groups atc_bytes atc_stc_count stc_bytes c.atcs c.stcs)
    (groups_bytes atc_bytes atc_stc_count stc_bytes (field_bytes_lem (4 ∷ 1 ∷ 1 ∷ [])) (field_bytes_lem (2 ∷ 4 ∷ 4 ∷ 4 ∷ [])) c.atcs c.stcs)

-- the programs and streams of any record are written as bytes
programs_bytes_lem : (c : Clip) → All Byte (programs_bytes c)
unfolding programs_bytes
programs_bytes_lem c =
    section_bytes_lem (length c.programs) (groups program_bytes stream_count stream_bytes c.programs c.streams)
    (groups_bytes program_bytes stream_count stream_bytes (λ row. all_append (field_bytes_lem (4 ∷ 2 ∷ 1 ∷ []) row) (number_bytes 1 0))
    (λ row. stream_bytes_lem (is_video (coding_type_of row)) (eqb (language row) 0) row) c.programs c.streams)

-- the fine address, the coarse rows and the fine rows of a map are written as bytes
body_bytes_lem : (es : List Row) → All Byte (body_bytes es)
unfolding body_bytes
body_bytes_lem es =
    all_append (number_bytes 4 (4 + 8 * runs es))
    (all_append (flat_bytes coarse_bytes (λ row. number_bytes 8 (packed coarse_widths row)) (coarse_rows es))
    (flat_bytes fine_bytes (λ e. number_bytes 4 (packed fine_widths (fine_row e))) es))

-- the bodies of all maps are written as bytes
bodies_bytes : (ms es : List Row) → All Byte (bodies ms es)
bodies_bytes [] es = none
bodies_bytes (m ∷ ms) es = all_append (body_bytes_lem (take (entry_count m) es)) (bodies_bytes ms (drop (entry_count m) es))

-- the headers of all maps are written as bytes, whatever the address of the first body
headers_bytes : (ms es : List Row) (address : ℕ) → All Byte (headers ms es address)
headers_bytes [] es address = none
headers_bytes (m ∷ ms) es address =
    let own = take (entry_count m) es in
    all_append (field_bytes_lem (2 ∷ 6 ∷ 4 ∷ []) (get_or m 0 0 ∷ packed header_widths (0 ∷ map_type_of m ∷ runs own ∷ length own ∷ []) ∷ address ∷ []))
    (headers_bytes ms (drop (entry_count m) es) (address + length (body_bytes own)))

-- the CPI section is written as bytes, with maps and without
cpi_bytes_lem : (ms es : List Row) → All Byte (cpi_bytes_by ms es)
cpi_bytes_lem [] es = number_bytes 4 0
cpi_bytes_lem (m ∷ ms) es =
    let n = suc (length ms) in
    let rows = bodies (m ∷ ms) es in
    all_append (field_bytes_lem (4 ∷ 2 ∷ 1 ∷ 1 ∷ []) ((4 + 12 * n + length rows) ∷ 1 ∷ 0 ∷ n ∷ []))
    (all_append (headers_bytes (m ∷ ms) es (2 + 12 * n)) (bodies_bytes (m ∷ ms) es))

-- the fields before the sequences are written as bytes, whatever the scalars and the starts
head_bytes_lem : (s : Scalars) (a b d : ℕ) → All Byte (head_bytes s a b d)
unfolding head_bytes
head_bytes_lem s a b d = field_bytes_lem head_widths (head_values s a b d)

-- each part of the new file is bytes, and so is the whole
all_bytes : (c : Clip) → All Byte (encode c)
unfolding encode cpi_bytes
all_bytes c =
    let a = 220 + length (sequences_bytes c) in
    let b = a + length (programs_bytes c) in
    let d = b + length (cpi_bytes c) in
    all_append (head_bytes_lem c.scalars a b d) (all_append (sequences_bytes_lem c) (all_append (programs_bytes_lem c) (all_append (cpi_bytes_lem c.maps c.entries)
    (field_bytes_lem (4 ∷ 2 ∷ []) (2 ∷ 0 ∷ [])))))

-- a list of bytes has a byte at each place, and past its end 0, which is one
all_is : {f : List ℕ} → All Byte f → IsBytes f
all_is none zero = lit< tt
all_is none (suc i) = lit< tt
all_is (more h hs) zero = h
all_is (more h hs) (suc i) = all_is hs i

-- the new file of any record is a list of bytes
pub encode_bytes : (c : Clip) → IsBytes (encode c)
encode_bytes c = all_is (all_bytes c)

-- ---- a good record is not refused

-- the maps' counts add up to the entries
pub maps_add : {most : ℕ} {ms es : List Row} → Maps most ms es → total entry_count ms ≡ length es
maps_add Maps.none = refl
maps_add (Maps.more {own = own} {rest = rest} g size good few later) =
    let r = maps_add later in
    rw length-append (omega arith)

-- the cells of each map fit their fields
pub maps_fit : {most : ℕ} {ms es : List Row} → Maps most ms es → All GoodMap ms
maps_fit Maps.none = none
maps_fit (Maps.more g size good few later) = more g (maps_fit later)

-- a good entry passes the writer's test of entries
entry_fits_lem : (type : ℕ) (e : Row) → GoodEntry type e → entry_fits type e ≡ true
entry_fits_lem type e g = true_both (fit_fits g.cells) (true_both (eq-eqb (time e % 512) 0 g.step) (eq-eqb (entry_type_of e) type g.type_same))

-- where good entries of at most `most` runs pass a test for any map, all maps pass it with their own entries
maps_every : {most : ℕ} (test : Row → List Row → Bool) → ((m : Row) (own : List Row) → All (GoodEntry (map_type_of m)) own → runs own ≤ most → test m own ≡ true)
    → {ms es : List Row} → Maps most ms es → every_map test ms es ≡ true
maps_every test h Maps.none = refl
maps_every test h (Maps.more {m = m} {own = own} {rest = rest} g size good few later) =
    rw (take_at own rest (entry_count m) size, drop_at own rest (entry_count m) size) (true_both (h m own good few) (maps_every test h later))

-- a good stream passes the writer's test of streams
stream_fits_lem : (s : Row) → GoodStream s → stream_fits s ≡ true
stream_fits_lem s g = true_both (fit_fits g.cells) g.only

module _ (most : ℕ) (c : Clip) (g : GoodClip most c) where
  -- the counts of a good record add up: no refusal 22
  pub counts : counts_add c ≡ true
  unfolding counts_add
  counts =
      true_both (eq-eqb (total atc_stc_count c.atcs) (length c.stcs) g.stcs_add)
      (true_both (eq-eqb (total stream_count c.programs) (length c.streams) g.streams_add)
      (eq-eqb (total entry_count c.maps) (length c.entries) (maps_add g.maps_good)))

  -- its ATCs, programs and maps are few enough, and every cell fits: no refusal 30
  pub cells : cells_fit c ≡ true
  unfolding cells_fit
  cells =
      true_both (fit_fits g.scalars)
      (true_both (le-leb (length c.atcs) 255 g.atcs_few)
      (true_both (all_every atc_fits (all_map (λ r h. fit_fits h) g.atcs_good))
      (true_both (all_every stc_fits (all_map (λ r h. fit_fits h) g.stcs_good))
      (true_both (le-leb (length c.programs) 255 g.programs_few)
      (true_both (all_every program_fits (all_map (λ r h. fit_fits h) g.programs_good))
      (true_both (all_every stream_fits (all_map stream_fits_lem g.streams_good))
      (true_both (le-leb (length c.maps) 255 g.maps_few)
      (true_both (all_every map_fits (all_map (λ r h. fit_fits h) (maps_fit g.maps_good)))
      (maps_every (λ m es. every (entry_fits (map_type_of m)) es) (λ m own good few. all_every (entry_fits (map_type_of m)) (all_map (entry_fits_lem (map_type_of m)) good)) g.maps_good)))))))))

module _ (c : Clip) (g : GoodClip 65535 c) where
  -- no map has over 65,535 runs: no refusal 31
  pub runs_fit_lem : runs_fit c ≡ true
  unfolding runs_fit
  runs_fit_lem = maps_every (λ m es. leb (runs es) 65535) (λ m own good few. le-leb (runs own) 65535 few) g.maps_good

-- such a record with right letters is refused by nothing
pub written : (c : Clip) → Writable c → write_refusal c ≡ 0
unfolding write_refusal
written c w = rw (counts 65535 c w.good, w.letters, cells 65535 c w.good, runs_fit_lem c w.good)
