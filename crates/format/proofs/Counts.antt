-- No table needs more rows than the counts in a file can tell.
use Prim.Native.Nat.{ℕ, zero, suc, ◌+◌, ◌*◌, ◌≤◌}
use mathlib.Core.Path.{◌≡◌, refl, subst}
use mathlib.Core.List.{List, [], ◌∷◌, map}
use mathlib.Core.Bool.{Bool, true, false}
use native.Mathlib.Nat.{suc-mul, mul-le-mul_right}
use native.Mathlib.Omega.{arith}
use lib.ListN.{length, take, drop, length-append}
use lib.Dec.{leb, eqb, lit<, lit≤}
use Rattle.format.specs.Bytes.{IsBytes, both, pick, be_at, gather}
use Rattle.format.specs.ClipRecord.{Row, sequences_start, programs_start, cpi_start, extensions_start, stcs_of, next_atc, atcs_from, stcs_from, entry_cells}
use Rattle.format.specs.Programs.{streams_of, next_program, programs_from, streams_from}
use Rattle.format.specs.EntryPoints.{next_map, entries_of, map_count, maps_from, entries_from}
use Rattle.format.specs.Extensions.{Found, nothing, found, is_kept, extension_at, kept_at, next_extension, extension_count, has_extensions, extension_rows, data_length, data_start, data_of, extension_of, extensions_from, list_data, list_in, list_programs_of, list_streams_of}
use Rattle.format.specs.Reading.{clip_of, record_of}
use Rattle.format.specs.Refusals.{ReadAnswer, refused, too_short, accepted, refusal_of, tables_of, stated_of, tables_answer, read_answer}
use Rattle.format.specs.Tables.{Nine, same_nine, map_nine, AllNine, atc_cells, stc_cells, program_cells, stream_cells, map_cells, extension_cells, row_room}
use Rattle.format.proofs.Read.{own_length, few_maps}
use Rattle.format.proofs.Rows.{rows_length}
use Rattle.format.proofs.Stores.{be_below}
use Rattle.format.proofs.Tests.{picked}

-- the most rows of each table: a byte counts to 255, and 18 bits to 262,143
pub record Counted (rows : Nine (List Row)) : Type 0 where
  pub atcs : length rows.atcs ≤ 255
  pub stcs : length rows.stcs ≤ 65025
  pub programs : length rows.programs ≤ 255
  pub streams : length rows.streams ≤ 65025
  pub maps : length rows.maps ≤ 255
  pub entries : length rows.entries ≤ 66846465
  pub extensions : length rows.extensions ≤ 255
  pub list_programs : length rows.list_programs ≤ 255
  pub list_streams : length rows.list_streams ≤ 65025

-- at most n rows in each table
abbrev pub AtMost : ℕ → Nine (List Row) → Type 0
AtMost n rows = AllNine ◌≤◌ (map_nine length rows) (same_nine n)

-- ---- parts of a list of bytes are bytes

-- what is left behind the first s
bytes_drop : (s : ℕ) (f : List ℕ) → IsBytes f → IsBytes (drop s f)
bytes_drop zero f h = h
bytes_drop (suc s) [] h = h
bytes_drop (suc s) (x ∷ xs) h = bytes_drop s xs (λ i. h (suc i))

-- the first n, or as many as there are
bytes_take : (n : ℕ) (f : List ℕ) → IsBytes f → IsBytes (take n f)
bytes_take zero f h i = lit< tt
bytes_take (suc n) [] h i = h i
bytes_take (suc n) (x ∷ xs) h zero = h zero
bytes_take (suc n) (x ∷ xs) h (suc i) = bytes_take n xs (λ j. h (suc j)) i

-- ---- rows and groups of rows

-- n items with at most k rows each
pub gather_few : {A : Type 0} (rows : ℕ → List A) (next : ℕ → ℕ) (k : ℕ) → ((p : ℕ) → length (rows p) ≤ k) → (p n : ℕ) → length (gather rows next p n) ≤ n * k
gather_few rows next k h p zero = omega arith
gather_few rows next k h p (suc n) =
    let g = gather_few rows next k h (next p) n in
    rw (length-append, suc-mul n k) (omega (arith, h p))

-- at most 255 items with at most k rows each
groups_few : {A : Type 0} (rows : ℕ → List A) (next : ℕ → ℕ) (k : ℕ) → ((p : ℕ) → length (rows p) ≤ k) → (p n m : ℕ) → n ≤ 255 → 255 * k ≤ m
    → length (gather rows next p n) ≤ m
groups_few rows next k h p n m few room =
    let g = gather_few rows next k h p n in
    let w : n * k ≤ 255 * k = mul-le-mul_right k few in
    omega arith

-- ---- a file's tables

module _ (f : List ℕ) (bytes : IsBytes f) where
  -- a byte counts to 255
  pub byte_few : (p : ℕ) → be_at f p 1 ≤ 255
  byte_few p = let h = be_below f bytes p 1 in omega arith

  -- one byte counts the ATCs
  atcs_few : (start : ℕ) → length (atcs_from f start) ≤ 255
  unfolding atcs_from
  atcs_few start = rw rows_length (omega (arith, byte_few (start + 5)))

  -- at most 255 ATCs, with at most 255 STCs behind each
  stcs_few : (start : ℕ) → length (stcs_from f start) ≤ 65025
  unfolding stcs_from
  stcs_few start =
      groups_few (stcs_of f) (next_atc f) 255 (λ p. rw rows_length (byte_few (p + 4))) (start + 6) (be_at f (start + 5) 1) 65025 (byte_few (start + 5)) (lit≤ tt)

  -- one byte counts the programs
  programs_few : (start : ℕ) → length (programs_from f start) ≤ 255
  unfolding programs_from
  programs_few start = rw rows_length (omega (arith, byte_few (start + 5)))

  -- at most 255 programs, with at most 255 streams each
  streams_few : (start : ℕ) → length (streams_from f start) ≤ 65025
  unfolding streams_from
  streams_few start =
      groups_few (streams_of f) (next_program f) 255 (λ p. rw rows_length (byte_few (p + 6))) (start + 6) (be_at f (start + 5) 1) 65025 (byte_few (start + 5)) (lit≤ tt)

  -- one byte counts the maps, where there are maps at all
  maps_few : (c : ℕ) → length (maps_from f c) ≤ 255
  unfolding maps_from
  maps_few c = rw rows_length (omega (arith, few_maps f bytes c))

  -- at most 255 maps, and 18 bits count the entries of each
  entries_few : (c : ℕ) → length (entries_from f c) ≤ 66846465
  unfolding entries_from
  entries_few c =
      groups_few (entries_of f c) next_map 262143 (λ p. rw own_length (omega arith)) (c + 8) (map_count f c) 66846465 (few_maps f bytes c) (lit≤ tt)

  -- an entry of the block is kept once or not at all
  kept_few : (start p : ℕ) → length (kept_at f start p) ≤ 1
  kept_few start p = go (is_kept f start p)
    where
      go : (b : Bool) → length (pick b (extension_at f start p ∷ []) []) ≤ 1
      go true = lit≤ tt
      go false = lit≤ tt

  -- one byte counts the entries of the block, of which some may be left out
  extensions_few : (start : ℕ) → length (extension_rows f start) ≤ 255
  unfolding extension_rows
  extensions_few start = go (has_extensions f start)
    where
      go : (b : Bool) → length (pick b (gather (kept_at f start) next_extension (start + 12) (extension_count f start)) []) ≤ 255
      go true = groups_few (kept_at f start) next_extension 1 (kept_few start) (start + 12) (extension_count f start) 255 (byte_few (start + 11)) (lit≤ tt)
      go false = lit≤ tt

  -- the data of the (2, 5) list is bytes too
  list_bytes : (rows : List Row) (d : List ℕ) → list_data (map (extension_of f) rows) ≡ found d → IsBytes d
  unfolding list_data
  list_bytes [] d h = let z : ◌≡◌ {A = ℕ} 0 1 = cc in absurd (omega arith)
  list_bytes (x ∷ xs) d h = go (both (eqb (extension_of f x).id1 2) (eqb (extension_of f x).id2 5)) (list_bytes xs d) h
    where
      go : (b : Bool) → (list_data (map (extension_of f) xs) ≡ found d → IsBytes d) → pick b (found (data_of f x)) (list_data (map (extension_of f) xs)) ≡ found d → IsBytes d
      go true later e = let same : data_of f x ≡ d = cc in subst IsBytes same (bytes_take (data_length x) (drop (data_start x) f) (bytes_drop (data_start x) f bytes))
      go false later e = later e

-- the rows of a list that is read as programs
list_few : (b : Bool) (l : Found) → ((d : List ℕ) → l ≡ found d → IsBytes d)
    → (length (pick b (list_programs_of l) []) ≤ 255) × (length (pick b (list_streams_of l) []) ≤ 65025)
list_few true nothing h = (lit≤ tt, lit≤ tt)
list_few true (found d) h = (programs_few d (h d refl) 0, streams_few d (h d refl) 0)
list_few false l h = (lit≤ tt, lit≤ tt)

-- all nine
pub tables_counted : (f : List ℕ) → IsBytes f → Counted (tables_of f)
unfolding tables_of record_of clip_of extensions_from
tables_counted f bytes =
    let l = list_data (extensions_from f (extensions_start f)) in
    let list = list_few (list_in l) l (λ d e. list_bytes f bytes (extension_rows f (extensions_start f)) d e) in
    record {
      atcs = atcs_few f bytes (sequences_start f);
      stcs = stcs_few f bytes (sequences_start f);
      programs = programs_few f bytes (programs_start f);
      streams = streams_few f bytes (programs_start f);
      maps = maps_few f bytes (cpi_start f);
      entries = entries_few f bytes (cpi_start f);
      extensions = extensions_few f bytes (extensions_start f);
      list_programs = list.0;
      list_streams = list.1;
    }

-- so 66,846,465 is enough for any of them
pub tables_few : (f : List ℕ) → IsBytes f → AtMost 66846465 (tables_of f)
tables_few f bytes =
    let c = tables_counted f bytes in
    record {
      atcs = omega (arith, c.atcs);
      stcs = omega (arith, c.stcs);
      programs = omega (arith, c.programs);
      streams = omega (arith, c.streams);
      maps = omega (arith, c.maps);
      entries = c.entries;
      extensions = omega (arith, c.extensions);
      list_programs = omega (arith, c.list_programs);
      list_streams = omega (arith, c.list_streams);
    }

-- ---- the rows that a table is said to need

-- they are that table's, or a later one's
needed : (b : Bool) {later : ReadAnswer} {k n m : ℕ} (j rows : ℕ) → rows ≤ m → (later ≡ too_short k n → n ≤ m) → pick b later (too_short j rows) ≡ too_short k n → n ≤ m
needed true j rows h later e = later e
needed false {n = n} j rows h later e = let same : rows ≡ n = cc in omega arith

-- where no table of a file has more than m rows, 21 asks for no more than m
pub needed_few : (f : List ℕ) (t : Nine (List ℕ)) {m k n : ℕ} → AtMost m (tables_of f) → read_answer f t ≡ too_short k n → n ≤ m
unfolding read_answer tables_answer
needed_few f t {m} {k} {n} few h =
    let rows = tables_of f in
    let none : accepted (stated_of f) ≡ too_short k n → n ≤ m = λ e. let z : ◌≡◌ {A = ℕ} 0 1 = cc in absurd (omega arith) in
    let p = picked (eqb (refusal_of f) 0) (λ (e : refused (refusal_of f) ≡ too_short k n). let z : ◌≡◌ {A = ℕ} 0 1 = cc in absurd (omega arith)) h in
    needed (leb (length rows.atcs) (row_room atc_cells t.atcs)) 1 (length rows.atcs) few.atcs
    (needed (leb (length rows.stcs) (row_room stc_cells t.stcs)) 2 (length rows.stcs) few.stcs
    (needed (leb (length rows.programs) (row_room program_cells t.programs)) 3 (length rows.programs) few.programs
    (needed (leb (length rows.streams) (row_room stream_cells t.streams)) 4 (length rows.streams) few.streams
    (needed (leb (length rows.maps) (row_room map_cells t.maps)) 5 (length rows.maps) few.maps
    (needed (leb (length rows.entries) (row_room entry_cells t.entries)) 6 (length rows.entries) few.entries
    (needed (leb (length rows.extensions) (row_room extension_cells t.extensions)) 7 (length rows.extensions) few.extensions
    (needed (leb (length rows.list_programs) (row_room program_cells t.list_programs)) 8 (length rows.list_programs) few.list_programs
    (needed (leb (length rows.list_streams) (row_room stream_cells t.list_streams)) 9 (length rows.list_streams) few.list_streams none))))))))
    p.1
