-- The entry index is read back from its bytes.
use Prim.Native.Nat.{ℕ, suc, ◌+◌, ◌*◌, ◌/◌, ◌%◌, ◌^◌, ◌<◌, ◌≤◌}
use mathlib.Core.Path.{◌≡◌, refl, ap, ap₂, ◌∙◌}
use mathlib.Core.List.{List, [], ◌∷◌, ◌++◌}
use mathlib.Core.Bool.{Bool, true, false, not}
use native.Mathlib.Omega.{arith}
use lib.ListN.{length, get_or, take, drop, length-append}
use lib.Seq.{take_at, drop_at}
use lib.Dec.{leb, ltb}
use borrow.Author.Tests.{lt-ltb, le-leb, ne_eqb}
use Rattle.format.specs.Bytes.{both, pick, every, be_at, bytes_of, field_bytes, unpacked, packed, rows_at, gather, flat}
use Rattle.format.specs.ClipRecord.{Row, map_type_of, entry_count, present}
use Rattle.format.specs.EntryPoints.{coarse_widths, coarse_at, next_coarse, fine_widths, fine_at, next_fine, header_widths, map_type_at, coarse_count_at, fine_count_at, map_at, next_map, entries_of, cpi_end, has_maps, map_count, maps_from, entries_from, cpi_in, map_in, maps_in}
use Rattle.format.specs.Refusals.{entry_bits}
use Rattle.format.specs.Rewriting.{same_run, coarse_row, unless_same, coarse_after, coarse_rows, runs, coarse_bytes, fine_row, fine_bytes, body_bytes, bodies, header_bytes, headers, cpi_bytes_by}
use Rattle.format.proofs.Fields.{Fit, fit, packed_below, unpack, one}
use Rattle.format.proofs.Good.{GoodMap, Maps, none, more}
use Rattle.format.proofs.Join.{fines_of, GoodEntry, join_back}
use Rattle.format.proofs.Lists.{All, none, more}
use Rattle.format.proofs.Numbers.{Stands, left, right, ends_in, moved, bytes_length, number_back, Fill, fill, fields_back}
use Rattle.format.proofs.Rows.{all_rows, as_is, map_as_is, rows_back, flat_length}
use Rattle.format.proofs.Tests.{true_both}

-- ---- coarse rows

-- first fine row, time and packet fit their 18, 14 and 32 bits
abbrev pub GoodCoarse : Row → Type 0
GoodCoarse = Fit coarse_widths

-- the coarse row of an entry fits, where the number of the entry has 18 bits
row_good : (type k : ℕ) (x : Row) → k < 2 ^ 18 → Fit entry_bits x → GoodCoarse (coarse_row k x)
row_good type k x h (one ha (one hi (one {v = t} ht (one {v = u} hu (one {v = p} hp (one hy Fit.none)))))) =
    fit 18 k h (fit 14 ((t + u * 2 ^ 32) / 524288) (omega arith) (fit 32 p hp Fit.none))

-- so with the coarse rows of the entries behind e, where the number of the last has 18 bits
after_good : (type : ℕ) (e : Row) (k : ℕ) {xs : List Row} → All (GoodEntry type) xs → k + length xs ≤ 2 ^ 18 → All GoodCoarse (coarse_after e k xs)
unfolding coarse_after
after_good type e k none h = none
after_good type e k (more {x = x} {xs = xs} g gs) h =
    go (same_run e x) (row_good type k x (omega arith) g.cells) (after_good type x (suc k) gs (omega arith))
  where
    go : (b : Bool) → GoodCoarse (coarse_row k x) → All GoodCoarse (coarse_after x (suc k) xs)
        → All GoodCoarse (unless_same b (coarse_row k x) (coarse_after x (suc k) xs))
    go true r rs = rs
    go false r rs = more r rs

-- so with all coarse rows of a map of at most 262,143 entries
pub coarse_good : (type : ℕ) {es : List Row} → All (GoodEntry type) es → length es ≤ 262143 → All GoodCoarse (coarse_rows es)
coarse_good type none h = none
coarse_good type (more {x = x} {xs = xs} g gs) h =
    more (row_good type 0 x (omega arith) g.cells) (after_good type x 1 gs (omega arith))

-- ---- fine rows

-- the bytes of a fine row by the row itself, where fine_bytes goes by its entry
abbrev pub fine_row_bytes : Row → List ℕ
fine_row_bytes r = bytes_of 4 (packed fine_widths r)

-- angle, I-end and the low bits of time and packet fit their 1, 3, 11 and 17 bits
abbrev pub GoodFine : Row → Type 0
GoodFine = Fit fine_widths

-- the fine row of an entry whose cells fit has cells that fit
one_fine : (e : Row) → Fit entry_bits e → GoodFine (fine_row e)
one_fine e (one {v = a} ha (one {v = i} hi (one {v = t} ht (one {v = u} hu (one {v = p} hp (one hy Fit.none)))))) =
    fit 1 a ha (fit 3 i hi (fit 11 ((t + u * 2 ^ 32) / 512 % 2048) (omega arith) (fit 17 (p % 131072) (omega arith) Fit.none)))

-- so with the fine rows of a map's entries
pub fines_good : (type : ℕ) {es : List Row} → All (GoodEntry type) es → All GoodFine (fines_of es)
fines_good type none = none
fines_good type (more {x = e} g gs) = more (one_fine e g.cells) (fines_good type gs)

-- the bytes written for entries are those of their fine rows
pub fines_flat : (es : List Row) → flat fine_bytes es ≡ flat fine_row_bytes (fines_of es)
fines_flat [] = refl
fines_flat (e ∷ es) = ap (λ (l : List ℕ). fine_bytes e ++ l) (fines_flat es)

-- each entry has one fine row
pub fines_length : (es : List Row) → length (fines_of es) ≡ length es
fines_length [] = refl
fines_length (e ∷ es) = ap suc (fines_length es)

-- a body has 4 bytes of fine address, 8 for each run and 4 for each entry
pub body_length : (es : List Row) → length (body_bytes es) ≡ 4 + 8 * runs es + 4 * length es
unfolding body_bytes runs
body_length es =
    let a = flat_length 8 coarse_bytes (all_rows (λ row. bytes_length 8 (packed coarse_widths row)) (coarse_rows es)) in
    let b = flat_length 4 fine_bytes (all_rows (λ e. bytes_length 4 (packed fine_widths (fine_row e))) es) in
    rw (length-append, length-append, bytes_length) (omega arith)

module _ (s : List ℕ) (p : ℕ) where
  -- a coarse row whose bytes stand at p is read there, and the next one is read right behind it
  pub coarse_back : (row : Row) → GoodCoarse row → Stands s p (coarse_bytes row) → (coarse_at s p ≡ row) × (next_coarse p ≡ p + length (coarse_bytes row))
  coarse_back row g st =
      let w : be_at s p 8 ≡ packed coarse_widths row = number_back 8 (packed coarse_widths row) st (packed_below g) in
      (rw w (unpack g), rw (bytes_length 8 (packed coarse_widths row)))

  -- so with a fine row
  pub fine_back : (row : Row) → GoodFine row → Stands s p (fine_row_bytes row) → (fine_at s p ≡ row) × (next_fine p ≡ p + length (fine_row_bytes row))
  fine_back row g st =
      let w : be_at s p 4 ≡ packed fine_widths row = number_back 4 (packed fine_widths row) st (packed_below g) in
      (rw w (unpack g), rw (bytes_length 4 (packed fine_widths row)))

-- ---- one map, whose header stands at p and its body at c + 6 + address

-- the map and its entries are read back, and the map lies as it must
record OneMap (s : List ℕ) (c p : ℕ) (m : Row) (own : List Row) : Type 0 where
  row_same : map_at s p ≡ m
  entries_same : entries_of s c p ≡ own
  inside : map_in s c p ≡ true

-- a body that ends within a section that ends within the file passes all four tests of a map
inside_by : (len end body r n : ℕ) → body + (4 + 8 * r + 4 * n) ≤ end → end ≤ len
    → both (ltb body end) (both (leb (body + 4 + 8 * r) len) (both (leb (body + (4 + 8 * r)) end) (leb (body + (4 + 8 * r) + 4 * n) len))) ≡ true
inside_by len end body r n h k =
    true_both (lt-ltb body end (omega arith))
    (true_both (le-leb (body + 4 + 8 * r) len (omega arith))
    (true_both (le-leb (body + (4 + 8 * r)) end (omega arith))
    (le-leb (body + (4 + 8 * r) + 4 * n) len (omega arith))))

module _ (s : List ℕ) (c p address : ℕ) (own : List Row) where
  -- a good map is read back where its bytes stand and its body ends within the section
  one_map_lem : (m : Row) → GoodMap m → length own ≡ entry_count m → All (GoodEntry (map_type_of m)) own → runs own ≤ 65535
      → address < 2 ^ 32 → Stands s p (header_bytes m own address) → Stands s (c + 6 + address) (body_bytes own)
      → c + 6 + address + length (body_bytes own) ≤ cpi_end s c → cpi_end s c ≤ length s
      → OneMap s c p m own
  unfolding body_bytes runs
  one_map_lem m (one {v = pid} ha (one {v = type} hb (one {v = n} hc Fit.none))) size good few small hst bst inner outer =
      let r = length (coarse_rows own) in
      let w : Fit header_widths (0 ∷ type ∷ r ∷ length own ∷ []) =
      fit 10 0 (omega arith) (fit 4 type hb (fit 16 r (omega arith) (fit 18 (length own) (omega arith) Fit.none))) in
      let word = packed header_widths (0 ∷ type ∷ r ∷ length own ∷ []) in
      let f = fill 2 pid ha (fill 6 word (packed_below w) (fill 4 address small Fill.none)) in
      let b = fields_back p f hst in
      let i : p + 2 + 6 ≡ p + 8 = omega arith in
      let b' = rw i at b in
      let e0 : be_at s p 2 ≡ pid = ap (λ (l : List ℕ). get_or l 0 0) b' in
      let e1 : be_at s (p + 2) 6 ≡ word = ap (λ (l : List ℕ). get_or l 1 0) b' in
      let e2 : be_at s (p + 8) 4 ≡ address = ap (λ (l : List ℕ). get_or l 2 0) b' in
      let u : unpacked header_widths (be_at s (p + 2) 6) ≡ 0 ∷ type ∷ r ∷ length own ∷ [] = rw e1 (unpack w) in
      let t0 : map_type_at s p ≡ type = ap (λ (l : List ℕ). get_or l 1 0) u in
      let t1 : coarse_count_at s p ≡ r = ap (λ (l : List ℕ). get_or l 2 0) u in
      let t2 : fine_count_at s p ≡ length own = ap (λ (l : List ℕ). get_or l 3 0) u in
      let body = c + 6 + address in
      let fa = bytes_of 4 (4 + 8 * r) in
      let cs = flat coarse_bytes (coarse_rows own) in
      let fs = flat fine_bytes own in
      let e3 : be_at s body 4 ≡ 4 + 8 * r = number_back 4 (4 + 8 * r) (left fa (cs ++ fs) bst) (omega arith) in
      let rows = right fa (cs ++ fs) (body + 4) (rw bytes_length) bst in
      let cl : length cs ≡ 8 * r = flat_length 8 coarse_bytes (all_rows (λ row. bytes_length 8 (packed coarse_widths row)) (coarse_rows own)) in
      let cb = rows_back s (coarse_at s) next_coarse coarse_bytes as_is GoodCoarse (coarse_back s) (coarse_good type good (omega arith)) (body + 4) (left cs fs rows) in
      let fb = rows_back s (fine_at s) next_fine fine_row_bytes as_is GoodFine (fine_back s) (fines_good type good) (body + (4 + 8 * r))
      (moved refl (fines_flat own) (right cs fs (body + (4 + 8 * r)) (rw cl (omega arith)) rows)) in
      let fb' : rows_at (fine_at s) next_fine (body + (4 + 8 * r)) (length own) ≡ fines_of own = rw (fines_length own) at fb.0 ∙ map_as_is (fines_of own) in
      let bl = body_length own in
      record {
        row_same = rw (e0, t0, t2, size);
        entries_same = rw (e2, t0, t1, t2, e3, cb.0 ∙ map_as_is (coarse_rows own), fb') (join_back type good);
        inside = rw (e2, t1, t2, e3) (inside_by (length s) (cpi_end s c) body r (length own) (rw bl at inner) outer);
      }

-- ---- all maps

-- a header has 12 bytes, whatever it says
pub header_length : (m : Row) (es : List Row) (address : ℕ) → length (header_bytes m es address) ≡ 12
header_length m es address = simp (length-append, bytes_length)

-- each map has one header
pub headers_length : (ms es : List Row) (address : ℕ) → length (headers ms es address) ≡ 12 * length ms
headers_length [] es address = refl
headers_length (m ∷ ms) es address =
    let own = take (entry_count m) es in
    let h = headers_length ms (drop (entry_count m) es) (address + length (body_bytes own)) in
    length-append (header_bytes m own address) (headers ms (drop (entry_count m) es) (address + length (body_bytes own)))
    ∙ rw (header_length m own address, h) (omega arith)

module _ (s : List ℕ) (c : ℕ) (outer : cpi_end s c ≤ length s) (small : cpi_end s c < 2 ^ 32) where
  -- maps and entries are read back where all headers and all bodies stand one behind the other, and each map lies as it must
  pub maps_back : {ms es : List Row} → Maps 65535 ms es → (p address : ℕ) → Stands s p (headers ms es address)
      → Stands s (c + 6 + address) (bodies ms es) → c + 6 + address + length (bodies ms es) ≤ cpi_end s c
      → (rows_at (map_at s) next_map p (length ms) ≡ ms) × (gather (entries_of s c) next_map p (length ms) ≡ es)
      × (every (λ b. b) (rows_at (map_in s c) next_map p (length ms)) ≡ true)
  maps_back Maps.none p address hst bst inner = (refl, refl, refl)
  maps_back (Maps.more {m = m} {ms = ms} {own = own} {rest = rest} g size good few later) p address hst bst inner =
      let te = take_at own rest (entry_count m) size in
      let de = drop_at own rest (entry_count m) size in
      let address' = address + length (body_bytes own) in
      let he : headers (m ∷ ms) (own ++ rest) address ≡ header_bytes m own address ++ headers ms rest address' = rw (te, de) in
      let be : bodies (m ∷ ms) (own ++ rest) ≡ body_bytes own ++ bodies ms rest = rw (te, de) in
      let hst' = moved refl he hst in
      let bst' = moved refl be bst in
      let bl = length-append (body_bytes own) (bodies ms rest) in
      let inner' : c + 6 + address + (length (body_bytes own) + length (bodies ms rest)) ≤ cpi_end s c = rw (be, bl) at inner in
      let o = one_map_lem s c p address own m g size good few (omega arith) (left (header_bytes m own address) (headers ms rest address') hst')
      (left (body_bytes own) (bodies ms rest) bst') (omega arith) outer in
      let at : c + 6 + address + length (body_bytes own) ≡ c + 6 + address' = omega arith in
      let r = maps_back later (next_map p) address'
      (right (header_bytes m own address) (headers ms rest address') (next_map p) (rw header_length) hst')
      (right (body_bytes own) (bodies ms rest) (c + 6 + address') at bst') (omega arith) in (
        ap₂ (λ (x : Row) (xs : List Row). x ∷ xs) o.row_same r.0,
        ap₂ (λ (x y : List Row). x ++ y) o.entries_same r.1,
        true_both o.inside r.2,
      )

-- ---- the section

-- a section stands at a place within the file that is not 0
pub is_present : (s : List ℕ) (p : ℕ) → (p ≡ 0 → ⊥) → p < length s → present s p ≡ true
is_present s p h k = true_both (ap not (ne_eqb p 0 h)) (lt-ltb p (length s) k)

-- a section whose length says 0 has no maps
no_maps : (s : List ℕ) (p : ℕ) → present s p ≡ true → be_at s p 4 ≡ 0 → has_maps s p ≡ false
unfolding has_maps
no_maps s p h z = rw (h, z)

-- a section of type 1 whose length says 4 or more is read for maps
some_maps : (s : List ℕ) (p : ℕ) → present s p ≡ true → 4 ≤ be_at s p 4 → be_at s (p + 4) 2 ≡ 1 → has_maps s p ≡ true
unfolding has_maps
some_maps s p h k e = rw (h, le-leb 2 (be_at s p 4) (omega arith), le-leb 4 (be_at s p 4) k, e)

-- how many maps there are, where `b` tells whether there are maps
pub count_by : (s : List ℕ) (p : ℕ) (b : Bool) → has_maps s p ≡ b → map_count s p ≡ pick b (be_at s (p + 7) 1) 0
unfolding map_count
count_by s p b h = rw h

module _ (s : List ℕ) (p : ℕ) (pos : 0 < p) where
  -- maps and entries are read back where their section stands, with or without maps, and it and its maps pass their tests
  pub cpi_back : {ms es : List Row} → Maps 65535 ms es → length ms ≤ 255 → p + length (cpi_bytes_by ms es) < 2 ^ 32 → Stands s p (cpi_bytes_by ms es)
      → (maps_from s p ≡ ms) × (entries_from s p ≡ es) × (cpi_in s p ≡ true) × (maps_in s p ≡ true)
  unfolding maps_from entries_from cpi_in maps_in
  cpi_back Maps.none few small t =
      let z : be_at s p 4 ≡ 0 = number_back 4 0 t (omega arith) in
      let e : p + 4 ≤ length s = rw (bytes_length 4 0) at (ends_in t) in
      let pr = is_present s p (λ e. omega arith) (omega arith) in
      let no = no_maps s p pr z in
      let k : map_count s p ≡ 0 = count_by s p false no in
      (rw k, rw k, rw (pr, no, z) (true_both (le-leb (p + 4 + 0) (length s) (omega arith)) refl), rw k)
  cpi_back (Maps.more {m = m} {ms = ms} {own = own} {rest = rest} g size good fw later) few small t =
      let es = own ++ rest in
      let n = suc (length ms) in
      let rows = bodies (m ∷ ms) es in
      let heads = headers (m ∷ ms) es (2 + 12 * n) in
      let word = 4 + 12 * n + length rows in
      let top = field_bytes (4 ∷ 2 ∷ 1 ∷ 1 ∷ []) (word ∷ 1 ∷ 0 ∷ n ∷ []) in
      let hl : length heads ≡ 12 * n = headers_length (m ∷ ms) es (2 + 12 * n) in
      let tl : length top ≡ 8 = simp (length-append, bytes_length) in
      let all : length (top ++ (heads ++ rows)) ≡ 8 + (12 * n + length rows) =
      length-append top (heads ++ rows) ∙ rw (tl, length-append heads rows, hl) in
      let fits : p + (8 + (12 * n + length rows)) < 2 ^ 32 = rw all at small in
      let ends : p + (8 + (12 * n + length rows)) ≤ length s = rw all at (ends_in t) in
      let f = fill 4 word (omega arith) (fill 2 1 (omega arith) (fill 1 0 (omega arith) (fill 1 n (omega arith) Fill.none))) in
      let b = fields_back p f (left top (heads ++ rows) t) in
      let i : p + 4 + 2 + 1 ≡ p + 7 = omega arith in
      let b' = rw i at b in
      let e0 : be_at s p 4 ≡ word = ap (λ (l : List ℕ). get_or l 0 0) b' in
      let e1 : be_at s (p + 4) 2 ≡ 1 = ap (λ (l : List ℕ). get_or l 1 0) b' in
      let e3 : be_at s (p + 7) 1 ≡ n = ap (λ (l : List ℕ). get_or l 3 0) b' in
      let pr = is_present s p (λ e. omega arith) (omega arith) in
      let yes' = some_maps s p pr (omega arith) e1 in
      let k : map_count s p ≡ n = count_by s p true yes' ∙ e3 in
      let stop : cpi_end s p ≡ p + 4 + word = rw e0 in
      let hr = right top (heads ++ rows) (p + 8) (rw tl) t in
      let r = maps_back s p (omega arith) (omega arith) (Maps.more g size good fw later) (p + 8) (2 + 12 * n)
      (left heads rows hr) (right heads rows (p + 6 + (2 + 12 * n)) (rw hl (omega arith)) hr) (omega arith) in (
        rw k r.0,
        rw k r.1,
        rw (pr, yes', k) (true_both (le-leb (cpi_end s p) (length s) (omega arith)) (le-leb (p + 8 + 12 * n) (length s) (omega arith))),
        rw k r.2,
      )
