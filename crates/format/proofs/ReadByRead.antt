-- Reading read by read and reading by the end's place refuse the same files: every read moves forward.
use Prim.Native.Nat.{ℕ, zero, suc, ◌+◌, ◌*◌, ◌<◌, ◌≤◌}
use mathlib.Core.Path.{◌≡◌, refl, ap, ap₂, ◌∙◌}
use mathlib.Core.List.{List, [], ◌∷◌}
use mathlib.Core.Bool.{Bool, true, false, not}
use native.Mathlib.Nat.{le_trans, add_assoc}
use native.Mathlib.Omega.{arith}
use lib.ListN.{length}
use lib.Dec.{leb, ltb, eqb}
use borrow.Author.Tests.{leb-true, leb-false, le-leb, lt-leb, ltb-true, ltb-false}
use Rattle.format.specs.Bytes.{both, pick, unless, first_refusal, be_at, width_of, rows_at, end_of}
use Rattle.format.specs.ClipRecord.{sequences_start, programs_start, cpi_start, marks_start, clip_info_in, next_stc, next_atc, sequences_end, present, marks_in}
use Rattle.format.specs.Programs.{next_stream, next_program, programs_end}
use Rattle.format.specs.EntryPoints.{next_coarse, next_fine, next_map, cpi_length, cpi_end, cpi_type, has_maps, map_count, coarse_count_at, fine_count_at, body_at, fine_start, fine_address_in, fine_rows_in, map_refusal, maps_refusal, cpi_in}
use Rattle.format.specs.Extensions.{found, list_in, block_length, extension_count, has_extensions}
use Rattle.format.specs.Refusals.{refusal_of}
use Rattle.format.specs.ReadByRead.{start_in, reads_in, items_in, clip_info_read, stc_read, atc_read, sequences_read, stream_read, program_read, programs_read, map_header_read, cpi_headers_read, cpi_type_read, cpi_read, map_read_refusal, maps_read_refusal, marks_read, refusal_read, extension_read, block_read, extensions_read}
use Rattle.format.proofs.Tests.{unless_both, right_fails}
use Rattle.format.proofs.Loops.{end_ge}
use Rattle.format.proofs.Places.{up_stc, up_atc, up_stream, up_program}
use Rattle.format.proofs.Sweep.{end_steps}

-- ---- tests of places, each at or past the one before

-- a test of a place p, and then of a later place q
then : (len p q : ℕ) (later : Bool) → p ≤ q → (p ≤ len → later ≡ leb q len) → both (leb p len) later ≡ leb q len
then len p q later h e = go (leb p len) refl
  where
    go : (b : Bool) → leb p len ≡ b → both b later ≡ leb q len
    go true t = e (leb-true p len t)
    go false t = let k : len < q = omega (arith, leb-false p len t) in rw (lt-leb q len k)

-- reads one behind the other from a place in the file
reads : (f : List ℕ) (p : ℕ) (ws : List ℕ) → p ≤ length f → reads_in f p ws ≡ leb (p + width_of ws) (length f)
reads f p [] h = let e : p + 0 ≡ p = omega arith in rw (e, le-leb p (length f) h)
reads f p (w ∷ ws) h =
    let e : p + w + width_of ws ≡ p + (w + width_of ws) = add_assoc p w (width_of ws) in
    rw (← e) (then (length f) (p + w) (p + w + width_of ws) (reads_in f (p + w) ws) (omega arith) (λ k. reads f (p + w) ws k))

-- the same from any place, where there is a read to fail
reads_some : (f : List ℕ) (p w : ℕ) (ws : List ℕ) → reads_in f p (w ∷ ws) ≡ leb (p + (w + width_of ws)) (length f)
reads_some f p w ws =
    let e : p + w + width_of ws ≡ p + (w + width_of ws) = add_assoc p w (width_of ws) in
    rw (← e) (then (length f) (p + w) (p + w + width_of ws) (reads_in f (p + w) ws) (omega arith) (λ k. reads f (p + w) ws k))

-- rows of equal answers
rows_same : (g h : ℕ → ℕ) → ((p : ℕ) → g p ≡ h p) → (next : ℕ → ℕ) (p n : ℕ) → rows_at g next p n ≡ rows_at h next p n
rows_same g h e next p zero = refl
rows_same g h e next p (suc n) = ap₂ (λ (x : ℕ) (xs : List ℕ). x ∷ xs) (e p) (rows_same g h e next (next p) n)

-- items from a place in the file: each is in the file exactly where the last one's end is
items : (len : ℕ) (test : ℕ → Bool) (next : ℕ → ℕ) → ((p : ℕ) → p ≤ next p) → ((p : ℕ) → test p ≡ leb (next p) len)
    → (p n : ℕ) → p ≤ len → items_in test next p n ≡ leb (end_of next p n) len
items len test next up h p zero k = rw (le-leb p len k)
items len test next up h p (suc n) k =
    rw (h p) (then len (next p) (end_of next (next p) n) (items_in test next (next p) n) (end_ge next up (next p) n) (λ m. items len test next up h (next p) n m))

-- items of one width
abbrev by : ℕ → ℕ → ℕ
by w p = p + w

module _ (f : List ℕ) where
  -- reads, then items behind them
  headed : (w : ℕ) (ws : List ℕ) (test : ℕ → Bool) (next : ℕ → ℕ) → ((p : ℕ) → p ≤ next p) → ((p : ℕ) → test p ≡ leb (next p) (length f))
      → (p q n : ℕ) → p + (w + width_of ws) ≡ q → both (reads_in f p (w ∷ ws)) (items_in test next q n) ≡ leb (end_of next q n) (length f)
  headed w ws test next up h p q n e =
      rw (reads_some f p w ws, e) (then (length f) q (end_of next q n) (items_in test next q n) (end_ge next up q n) (λ m. items (length f) test next up h q n m))

  -- ---- sequences and programs

  -- an ATC and the STCs behind it are read exactly where they end within the file
  atc_read_lem : (p : ℕ) → atc_read f p ≡ leb (next_atc f p) (length f)
  atc_read_lem p =
      headed 4 (1 ∷ 1 ∷ []) (stc_read f) next_stc up_stc (λ q. reads_some f q 2 (4 ∷ 4 ∷ 4 ∷ [])) p (p + 6) (be_at f (p + 4) 1) refl

  -- a stream and its body are read exactly where the body ends within the file
  stream_read_lem : (p : ℕ) → stream_read f p ≡ leb (next_stream f p) (length f)
  stream_read_lem p =
      let size = be_at f (p + 2) 1 in
      let e : p + 3 + (size + 0) ≡ p + 3 + size = omega arith in
      rw (reads_some f p 2 (1 ∷ []))
      (then (length f) (p + 3) (p + 3 + size) (reads_in f (p + 3) (size ∷ [])) (omega arith) (λ m. reads_some f (p + 3) size [] ∙ rw e))

  -- a program and the streams behind it are read exactly where they end within the file
  program_read_lem : (p : ℕ) → program_read f p ≡ leb (next_program f p) (length f)
  program_read_lem p =
      headed 4 (2 ∷ 1 ∷ 1 ∷ []) (stream_read f) (next_stream f) (up_stream f) stream_read_lem p (p + 8) (be_at f (p + 6) 1) refl

  -- a section that starts at any place: the start, six bytes, items
  section : (test : ℕ → Bool) (next : ℕ → ℕ) → ((p : ℕ) → p ≤ next p) → ((p : ℕ) → test p ≡ leb (next p) (length f)) → (start n : ℕ)
      → both (start_in f start) (both (reads_in f start (4 ∷ 1 ∷ 1 ∷ [])) (items_in test next (start + 6) n)) ≡ leb (end_of next (start + 6) n) (length f)
  section test next up h start n =
      then (length f) start (end_of next (start + 6) n) (both (reads_in f start (4 ∷ 1 ∷ 1 ∷ [])) (items_in test next (start + 6) n))
      (le_trans (omega arith) (end_ge next up (start + 6) n)) (λ m. headed 4 (1 ∷ 1 ∷ []) test next up h start (start + 6) n refl)

  -- the sequences are read exactly where their end is within the file: the test of refusal 4
  sequences : (start : ℕ) → sequences_read f start ≡ leb (sequences_end f start) (length f)
  unfolding sequences_read sequences_end
  sequences start = section (atc_read f) (next_atc f) (up_atc f) atc_read_lem start (be_at f (start + 5) 1)

  -- the programs are read exactly where their end is within the file: the test of refusal 5 and of a (2, 5) list
  programs : (start : ℕ) → programs_read f start ≡ leb (programs_end f start) (length f)
  unfolding programs_read programs_end
  programs start = section (program_read f) (next_program f) (up_program f) program_read_lem start (be_at f (start + 5) 1)

  -- ---- ClipInfo and marks

  -- the reads of ClipInfo end at byte 194, and the place behind it is within the file or at its end: the test of refusal 3
  clip_info : clip_info_read f ≡ clip_info_in f
  unfolding clip_info_read clip_info_in
  clip_info = rw (reads_some f 40 4 (2 ∷ 1 ∷ 1 ∷ 4 ∷ 4 ∷ 4 ∷ 128 ∷ 1 ∷ 1 ∷ 4 ∷ []))

  -- where there are marks, their two reads pass exactly where their six bytes are in the file
  marks : (start : ℕ) → marks_read f start ≡ marks_in f start
  unfolding marks_read marks_in
  marks start = rw (reads_some f start 4 (2 ∷ []))

  -- ---- the entry index

  -- items of w bytes each, from a place in the file
  rows : (w : ℕ) (test : ℕ → Bool) → ((p : ℕ) → test p ≡ leb (p + w) (length f)) → (p n : ℕ) → p ≤ length f
      → items_in test (λ q. q + w) p n ≡ leb (p + w * n) (length f)
  rows w test h p n k = items (length f) test (by w) (λ q. omega arith) h p n k ∙ rw (end_steps w p n)

  -- the three reads of a map header are its twelve bytes
  header_read : (p : ℕ) → map_header_read f p ≡ leb (p + 12) (length f)
  header_read p = reads_some f p 2 (6 ∷ 4 ∷ [])

  -- the map count and the headers, where there are maps
  headers : (c n : ℕ) → both (reads_in f (c + 6) (1 ∷ 1 ∷ [])) (items_in (map_header_read f) next_map (c + 8) n) ≡ leb (c + 8 + 12 * n) (length f)
  headers c n =
      let e : c + 6 + 2 ≡ c + 8 = omega arith in
      rw (reads_some f (c + 6) 1 (1 ∷ []), e)
      (then (length f) (c + 8) (c + 8 + 12 * n) (items_in (map_header_read f) next_map (c + 8) n) (omega arith) (λ m. rows 12 (map_header_read f) header_read (c + 8) n m))

  -- what is asked of the headers, where `has` tells whether there are maps
  abbrev headers_by : ℕ → Bool → Bool
  headers_by c has = pick has (leb (c + 8 + 12 * pick has (be_at f (c + 7) 1) 0) (length f)) true

  -- the rest of a section whose end is in the file
  cpi_rest : (c : ℕ) → cpi_end f c ≤ length f
      → pick (ltb (cpi_length f c) 2) true (cpi_type_read f c)
      ≡ headers_by c (both (leb 2 (cpi_length f c)) (both (eqb (cpi_type f c) 1) (leb 4 (cpi_length f c))))
  cpi_rest c h = by_two (ltb N 2) refl
    where
      N : ℕ
      N = cpi_length f c

      type : Bool
      type = eqb (cpi_type f c) 1

      by_four : (b : Bool) → ltb N 4 ≡ b → 2 ≤ N → both (leb (c + 6) (length f)) (pick b true (cpi_headers_read f c)) ≡ headers_by c (leb 4 N)
      by_four true t k = rw (lt-leb 4 N (ltb-true N 4 t), le-leb (c + 6) (length f) (omega arith))
      by_four false t k =
          let four : 4 ≤ N = omega (arith, ltb-false N 4 t) in
          rw (le-leb 4 N four, le-leb (c + 6) (length f) (omega arith)) (headers c (be_at f (c + 7) 1))

      by_type : (b : Bool) → 2 ≤ N
          → both (leb (c + 6) (length f)) (pick b (pick (ltb N 4) true (cpi_headers_read f c)) true) ≡ headers_by c (both b (leb 4 N))
      by_type true k = by_four (ltb N 4) refl k
      by_type false k = rw (le-leb (c + 6) (length f) (omega arith))

      by_two : (b : Bool) → ltb N 2 ≡ b → pick b true (cpi_type_read f c) ≡ headers_by c (both (leb 2 N) (both type (leb 4 N)))
      by_two true t = rw (lt-leb 2 N (ltb-true N 2 t))
      by_two false t =
          let two : 2 ≤ N = omega (arith, ltb-false N 2 t) in
          let e : c + 4 + 2 ≡ c + 6 = omega arith in
          rw (le-leb 2 N two, reads_some f (c + 4) 2 [], e) (by_type type two)

  -- the test of refusal 6 read by read is the one by the ends of the CPI section and of its map headers
  cpi : (c : ℕ) → cpi_read f c ≡ cpi_in f c
  unfolding cpi_read cpi_in has_maps map_count
  cpi c = go (present f c)
    where
      rest : Bool
      rest = both (leb 2 (cpi_length f c)) (both (eqb (cpi_type f c) 1) (leb 4 (cpi_length f c)))

      ends : (b : Bool) → leb (cpi_end f c) (length f) ≡ b
          → both (leb (c + 4) (length f)) (both b (pick (ltb (cpi_length f c) 2) true (cpi_type_read f c))) ≡ both b (headers_by c rest)
      ends true t =
          let h = leb-true (cpi_end f c) (length f) t in
          rw (le-leb (c + 4) (length f) (omega arith)) (cpi_rest c h)
      ends false t = right_fails (leb (c + 4) (length f)) refl

      go : (b : Bool)
          → pick b (both (reads_in f c (4 ∷ [])) (both (start_in f (cpi_end f c)) (pick (ltb (cpi_length f c) 2) true (cpi_type_read f c)))) true
          ≡ both (pick b (leb (cpi_end f c) (length f)) true) (headers_by c (both b rest))
      go false = refl
      go true = rw (reads_some f c 4 []) (ends (leb (cpi_end f c) (length f)) refl)

  -- ---- maps

  -- rows of w bytes behind a place that is tested first
  rows_behind : (w : ℕ) (test : ℕ → Bool) → ((p : ℕ) → test p ≡ leb (p + w) (length f)) → (p n : ℕ)
      → both (leb p (length f)) (items_in test (by w) p n) ≡ leb (p + w * n) (length f)
  rows_behind w test h p n = then (length f) p (p + w * n) (items_in test (by w) p n) (omega arith) (λ m. rows w test h p n m)

  -- read by read, a map is refused as by its four tests: the reads of its body that have one number are one test
  map_read : (c p : ℕ) → map_read_refusal f c p ≡ map_refusal f c p
  map_read c p =
      let body = body_at f c p in
      let coarse-test : ℕ → Bool = λ q. reads_in f q (8 ∷ []) in
      let fine-test : ℕ → Bool = λ q. reads_in f q (4 ∷ []) in
      let coarse = rows_behind 8 coarse-test (λ q. reads_some f q 8 []) (body + 4) (coarse_count_at f p) in
      let fine = rows_behind 4 fine-test (λ q. reads_some f q 4 []) (fine_start f c p) (fine_count_at f p) in
      rw (
        reads_some f body 4 [],
        unless_both (start_in f (fine_start f c p)) (items_in fine-test next_fine (fine_start f c p) (fine_count_at f p)) 42 0,
        fine,
        unless_both (leb (body + 4) (length f)) (items_in coarse-test next_coarse (body + 4) (coarse_count_at f p)) 42
            (unless (fine_address_in f c p) 41 (unless (fine_rows_in f c p) 42 0)),
        coarse,
      )

  -- so are all maps
  maps : (c : ℕ) → maps_read_refusal f c ≡ maps_refusal f c
  unfolding maps_read_refusal maps_refusal
  maps c = ap first_refusal (rows_same (map_read_refusal f c) (map_refusal f c) (map_read c) next_map (c + 8) (map_count f c))

  -- ---- the whole, and the extension block

  -- told read by read and told by the ends' places, the refusal of a file is the same number, 0 where it is accepted
  pub refusal_read_lem : refusal_read f ≡ refusal_of f
  unfolding refusal_read refusal_of
  refusal_read_lem =
      rw (
        reads_some f 0 4 (4 ∷ []),
        reads_some f 8 4 (4 ∷ 4 ∷ 4 ∷ 4 ∷ 12 ∷ []),
        clip_info,
        sequences (sequences_start f),
        programs (programs_start f),
        cpi (cpi_start f),
        maps (cpi_start f),
        marks (marks_start f),
      )

  -- the data of a (2, 5) entry
  pub list_read : programs_read f 0 ≡ list_in (found f)
  unfolding list_in
  list_read = programs 0

  -- behind its length, an extension block is read exactly where its entries end within the file
  block : (start : ℕ) → block_read f start ≡ leb (start + 12 + 12 * extension_count f start) (length f)
  block start =
      let e : start + 4 + 8 ≡ start + 12 = omega arith in
      rw (reads_some f (start + 4) 4 (3 ∷ 1 ∷ []), e) (rows_behind 12 (extension_read f) (λ p. reads_some f p 2 (2 ∷ 4 ∷ 4 ∷ [])) (start + 12) (extension_count f start))

  -- extensions are read exactly where the block is present, its length is not 0 and its entries end within the file
  pub extensions_read_lem : (start : ℕ) → extensions_read f start ≡ has_extensions f start
  unfolding extensions_read
  extensions_read_lem start =
      rw (reads_some f start 4 [], block start) (ap (both (present f start)) (go (eqb (block_length f start) 0)))
    where
      end : ℕ
      end = start + 12 + 12 * extension_count f start

      go : (b : Bool) → both (leb (start + 4) (length f)) (pick b false (leb end (length f))) ≡ both (not b) (leb end (length f))
      go true = right_fails (leb (start + 4) (length f)) refl
      go false = then (length f) (start + 4) end (leb end (length f)) (omega arith) (λ m. refl)
