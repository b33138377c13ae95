-- 7, 41 and 42: a map's tests by its faults, and the maps one after the other.
use Prim.Native.Nat.{ℕ, zero, suc, ◌+◌, ◌*◌, ◌-◌, ◌<◌, ◌≤◌}
use mathlib.Core.Path.{◌≡◌, refl, sym, ap, ◌∙◌}
use mathlib.Core.List.{List, [], ◌∷◌, ◌++◌, Memᴰ}
use mathlib.Core.Bool.{Bool, true, false, not}
use native.Mathlib.Omega.{arith}
use lib.ListN.{length}
use lib.Dec.{leb, eqb}
use borrow.Author.Tests.{eq-eqb, le-leb, lt-leb, lt-ltb, le-ltb, leb-true, leb-false, ltb-true, ltb-false}
use Rattle.format.specs.Bytes.{every, unless, or_later, be_at, end_of}
use Rattle.format.specs.ClipRecord.{letters_right, clip_info_in, sequences_start, programs_start, cpi_start, marks_start, sequences_end, marks_in}
use Rattle.format.specs.Programs.{programs_end}
use Rattle.format.specs.EntryPoints.{next_map, cpi_end, has_maps, map_count, body_at, coarse_count_at, fine_start, fine_count_at, cpi_in, address_in, coarse_rows_in, fine_address_in, fine_rows_in, map_refusal, maps_refusal}
use Rattle.format.specs.Refusals.{refusal_of}
use Rattle.format.proofs.Tests.{true_both, later_met}
use Rattle.format.proofs.Lists.{one_fails}
use Rattle.format.proofs.Sweep.{end_steps}
use Rattle.format.proofs.MapRefusals.{counted_maps, section_in_lem, met_told, told_met}
use Rattle.theorems.specs.ListingExample.{listed_file}
use Rattle.theorems.specs.MapFaults.{Missing, Fault, Faultless, header_of_map, FirstFault, Reached, of_maps, MapFaults}

-- ---- numbers in lists

-- a number is where it stands in a list
placed : (before : List ℕ) (x : ℕ) (behind : List ℕ) → Memᴰ x (before ++ (x ∷ behind))
placed [] x behind = Memᴰ.head refl
placed (y ∷ before) x behind = Memᴰ.tail (placed before x behind)

-- no number is in two lists that have none in common
disjoint : {x : ℕ} (xs ys : List ℕ) → every (λ a. every (λ b. not (eqb a b)) ys) xs ≡ true → Memᴰ x xs → Memᴰ x ys → ⊥
disjoint {x} xs ys h i j =
    let no : every (λ b. not (eqb x b)) ys ≡ false = one_fails (λ b. not (eqb x b)) j (ap not (eq-eqb x x refl)) in
    let z : every (λ a. every (λ b. not (eqb a b)) ys) xs ≡ false = one_fails (λ a. every (λ b. not (eqb a b)) ys) i no in
    let o : ◌≡◌ {A = ℕ} 0 1 = cc in absurd (omega arith)

-- ---- bytes that are not there

-- a part of which a byte is not there ends past the file's end
missing_past : {f : List ℕ} {p n : ℕ} → Missing f p n → length f < p + n
missing_past m = omega (arith, m.not_behind, m.past_end)

-- of a part that does, the last byte is not there
past_missing : (f : List ℕ) (p n : ℕ) → 0 < n → length f < p + n → Missing f p n
past_missing f p n some h = record { place = p + n - 1; not_before = omega arith; not_behind = omega arith; past_end = omega arith }

-- a part of which every byte is there ends within the file
not_missing : (f : List ℕ) (p n : ℕ) → 0 < n → (Missing f p n → ⊥) → p + n ≤ length f
not_missing f p n some h = go (leb (p + n) (length f)) refl
  where
    go : (b : Bool) → leb (p + n) (length f) ≡ b → p + n ≤ length f
    go true e = leb-true (p + n) (length f) e
    go false e = absurd (h (past_missing f p n some (leb-false (p + n) (length f) e)))

-- ---- one map

-- a fault's number is one of the three
of_maps_lem : {f : List ℕ} {c p n : ℕ} → Fault f c p n → Memᴰ n of_maps
of_maps_lem (Fault.address h) = placed [] 7 (41 ∷ 42 ∷ [])
of_maps_lem (Fault.coarse_rows_lem a m) = placed (7 ∷ 41 ∷ []) 42 []
of_maps_lem (Fault.fine_address a m h) = placed (7 ∷ []) 41 (42 ∷ [])
of_maps_lem (Fault.fine_rows_lem a m h g) = placed (7 ∷ 41 ∷ []) 42 []

-- so it is not 0
not_0 : {f : List ℕ} {c p n : ℕ} → Fault f c p n → n ≡ 0 → ⊥
not_0 φ e = disjoint of_maps (0 ∷ []) refl (of_maps_lem φ) (Memᴰ.head e)

module _ (f : List ℕ) (c p : ℕ) where
  -- the place behind the coarse rows, as it is tested
  behind_coarse : (Missing f (body_at f c p) (4 + 8 * coarse_count_at f p) → ⊥) → body_at f c p + 4 + 8 * coarse_count_at f p ≤ length f
  behind_coarse none = let h = not_missing f (body_at f c p) (4 + 8 * coarse_count_at f p) (omega arith) none in omega arith

  -- a fault is what the map is refused for
  fault_told : {n : ℕ} → Fault f c p n → map_refusal f c p ≡ n
  fault_told (Fault.address h) = rw (le-ltb (body_at f c p) (cpi_end f c) h)
  fault_told (Fault.coarse_rows_lem a m) =
      let h = missing_past m in
      rw (lt-ltb (body_at f c p) (cpi_end f c) a, lt-leb (body_at f c p + 4 + 8 * coarse_count_at f p) (length f) (omega arith))
  fault_told (Fault.fine_address a m h) =
      rw (
        lt-ltb (body_at f c p) (cpi_end f c) a,
        le-leb (body_at f c p + 4 + 8 * coarse_count_at f p) (length f) (behind_coarse m),
        lt-leb (fine_start f c p) (cpi_end f c) h,
      )
  fault_told (Fault.fine_rows_lem a m h g) =
      rw (
        lt-ltb (body_at f c p) (cpi_end f c) a,
        le-leb (body_at f c p + 4 + 8 * coarse_count_at f p) (length f) (behind_coarse m),
        le-leb (fine_start f c p) (cpi_end f c) h,
        lt-leb (fine_start f c p + 4 * fine_count_at f p) (length f) (missing_past g),
      )

  -- a map that is refused by nothing has no fault
  zero_faultless : map_refusal f c p ≡ 0 → Faultless f c p
  zero_faultless h n φ = not_0 φ (sym (fault_told φ) ∙ h)

  module _ (inside : cpi_end f c ≤ length f) where
    -- what a map is refused for is a fault of it
    told_fault : (n : ℕ) → (n ≡ 0 → ⊥) → map_refusal f c p ≡ n → Fault f c p n
    told_fault n not0 h = go (address_in f c p) (coarse_rows_in f c p) (fine_address_in f c p) (fine_rows_in f c p) refl refl refl refl h
      where
        body : ℕ
        body = body_at f c p

        all : ℕ
        all = 4 + 8 * coarse_count_at f p

        there : coarse_rows_in f c p ≡ true → Missing f body all → ⊥
        there b m = let h = leb-true (body + 4 + 8 * coarse_count_at f p) (length f) b in let g = missing_past m in omega arith

        go : (a b d e : Bool) → address_in f c p ≡ a → coarse_rows_in f c p ≡ b → fine_address_in f c p ≡ d → fine_rows_in f c p ≡ e
            → unless a 7 (unless b 42 (unless d 41 (unless e 42 0))) ≡ n → Fault f c p n
        go false b d e ha hb hd he h = rw (← h) (Fault.address (ltb-false body (cpi_end f c) ha))
        go true false d e ha hb hd he h =
            let past = leb-false (body + 4 + 8 * coarse_count_at f p) (length f) hb in
            rw (← h) (Fault.coarse_rows_lem (ltb-true body (cpi_end f c) ha) (past_missing f body all (omega arith) (omega arith)))
        go true true false e ha hb hd he h =
            rw (← h) (Fault.fine_address (ltb-true body (cpi_end f c) ha) (there hb) (leb-false (fine_start f c p) (cpi_end f c) hd))
        go true true true false ha hb hd he h =
            let begins = leb-true (fine_start f c p) (cpi_end f c) hd in
            let past = leb-false (fine_start f c p + 4 * fine_count_at f p) (length f) he in
            rw (← h)
            (Fault.fine_rows_lem (ltb-true body (cpi_end f c) ha) (there hb) begins
            (past_missing f (fine_start f c p) (4 * fine_count_at f p) (omega arith) past))
        go true true true true ha hb hd he h = absurd (not0 (sym h))

    -- a map that has none is refused by nothing
    faultless_zero : Faultless f c p → map_refusal f c p ≡ 0
    faultless_zero s = go (map_refusal f c p) refl
      where
        go : (n : ℕ) → map_refusal f c p ≡ n → map_refusal f c p ≡ 0
        go zero e = e
        go (suc n) e = absurd (s (suc n) (told_fault (suc n) (λ z. omega arith) e))

-- ---- the tests before the maps

module _ (f : List ℕ) where
  -- the maps and the marks
  abbrev later : ℕ
  later = or_later (maps_refusal f (cpi_start f)) (unless (marks_in f (marks_start f)) 8 0)

  -- where the maps are reached they decide, then the marks
  reached_later : Reached f → refusal_of f ≡ later
  unfolding refusal_of
  reached_later r =
      rw (
        le-leb (length f) 536870912 r.size,
        le-leb 8 (length f) (omega (arith, r.header)),
        r.letters,
        le-leb 40 (length f) r.header,
        r.clip_info,
        le-leb (sequences_end f (sequences_start f)) (length f) r.sequences,
        le-leb (programs_end f (programs_start f)) (length f) r.programs,
        r.cpi,
      )

  -- they are reached where a number of theirs is told
  later_reached : Memᴰ (refusal_of f) of_maps → Reached f
  unfolding refusal_of
  later_reached =
      go (leb (length f) 536870912) (leb 8 (length f)) (letters_right f) (leb 40 (length f)) (clip_info_in f)
      (leb (sequences_end f (sequences_start f)) (length f)) (leb (programs_end f (programs_start f)) (length f)) (cpi_in f (cpi_start f))
      refl refl refl refl refl refl refl
    where
      early : (n : ℕ) → every (λ x. not (eqb n x)) of_maps ≡ true → Memᴰ n of_maps → Reached f
      early n other i = absurd (disjoint (n ∷ []) of_maps (true_both other refl) (placed [] n []) i)

      go : (a b c d e s p i : Bool) → leb (length f) 536870912 ≡ a → letters_right f ≡ c → leb 40 (length f) ≡ d → clip_info_in f ≡ e
          → leb (sequences_end f (sequences_start f)) (length f) ≡ s → leb (programs_end f (programs_start f)) (length f) ≡ p → cpi_in f (cpi_start f) ≡ i
          → Memᴰ (unless a 20 (unless b 1 (unless c 2 (unless d 1 (unless e 3 (unless s 4 (unless p 5 (unless i 6 later)))))))) of_maps → Reached f
      go true true true true true true true true ha hc hd he hs hp hi m = record {
        size = leb-true (length f) 536870912 ha;
        header = leb-true 40 (length f) hd;
        letters = hc;
        clip_info = he;
        sequences = leb-true (sequences_end f (sequences_start f)) (length f) hs;
        programs = leb-true (programs_end f (programs_start f)) (length f) hp;
        cpi = hi;
      }
      go true true true true true true true false ha hc hd he hs hp hi m = early 6 refl m
      go true true true true true true false i ha hc hd he hs hp hi m = early 5 refl m
      go true true true true true false p i ha hc hd he hs hp hi m = early 4 refl m
      go true true true true false s p i ha hc hd he hs hp hi m = early 3 refl m
      go true true true false e s p i ha hc hd he hs hp hi m = early 1 refl m
      go true true false d e s p i ha hc hd he hs hp hi m = early 2 refl m
      go true false c d e s p i ha hc hd he hs hp hi m = early 1 refl m
      go false b c d e s p i ha hc hd he hs hp hi m = early 20 refl m

-- ---- all maps of a file

module _ (f : List ℕ) where
  -- the section's start
  abbrev C : ℕ
  C = cpi_start f

  -- the header of map k stands where the maps before it end
  at : (k : ℕ) → end_of next_map (C + 8) k ≡ header_of_map f k
  at k = end_steps 12 (C + 8) k

  -- where there is a map, the section of a file that passes the early tests ends in the file
  ends_in : {k : ℕ} → cpi_in f C ≡ true → k < map_count f C → cpi_end f C ≤ length f
  ends_in here some = (section_in_lem f C (counted_maps f C (omega arith)) here).0

  -- the first fault is what the maps are refused for
  first_told : {n : ℕ} → cpi_in f C ≡ true → FirstFault f n → maps_refusal f C ≡ n
  unfolding maps_refusal
  first_told {n} here φ =
      met_told (map_refusal f C) next_map (C + 8) (map_count f C) n (not_0 φ.fault) φ.of φ.counted
      (rw (at φ.of) (fault_told f C (header_of_map f φ.of) φ.fault))
      (λ k below. rw (at k) (faultless_zero f C (header_of_map f k) (ends_in here φ.counted) (φ.earlier k below)))

  -- and what they are refused for is the first fault
  told_first : (n : ℕ) → (n ≡ 0 → ⊥) → cpi_in f C ≡ true → maps_refusal f C ≡ n → FirstFault f n
  unfolding maps_refusal
  told_first n not0 here h =
      let m = told_met (map_refusal f C) next_map (C + 8) (map_count f C) n not0 h in
      record {
        of = m.item;
        counted = m.there;
        fault = told_fault f C (header_of_map f m.item) (ends_in here m.there) n not0 (rw (at m.item) at m.met);
        earlier = λ k below. zero_faultless f C (header_of_map f k) (rw (at k) at (m.before k below));
      }

  -- they are refused by nothing where no map has a fault
  none_told : cpi_in f C ≡ true → ((k : ℕ) → k < map_count f C → Faultless f C (header_of_map f k)) → maps_refusal f C ≡ 0
  none_told here none = go (maps_refusal f C) refl
    where
      go : (n : ℕ) → maps_refusal f C ≡ n → maps_refusal f C ≡ 0
      go zero e = e
      go (suc n) e = let φ = told_first (suc n) (λ z. omega arith) here e in absurd (none φ.of φ.counted (suc n) φ.fault)

  -- ---- the file

  -- the first fault is what the file is refused for
  file_told : (n : ℕ) → Reached f → FirstFault f n → refusal_of f ≡ n
  file_told n r φ =
      reached_later f r ∙ rw (first_told r.cpi φ) (later_met n (unless (marks_in f (marks_start f)) 8 0) (not_0 φ.fault))

  -- without one its marks decide
  file_no_fault : Reached f → ((k : ℕ) → k < map_count f C → Faultless f C (header_of_map f k)) → refusal_of f ≡ unless (marks_in f (marks_start f)) 8 0
  file_no_fault r none = reached_later f r ∙ rw (none_told r.cpi none)

  -- a number of a map is neither 0 nor that of the marks
  maps_alone : (r : ℕ) (b : Bool) → Memᴰ (or_later r (unless b 8 0)) of_maps → (r ≡ or_later r (unless b 8 0)) × (or_later r (unless b 8 0) ≡ 0 → ⊥)
  maps_alone (suc r) b i = (refl, λ e. omega arith)
  maps_alone zero true i = absurd (disjoint of_maps (0 ∷ []) refl i (placed [] 0 []))
  maps_alone zero false i = absurd (disjoint of_maps (8 ∷ []) refl i (placed [] 8 []))

  -- and a number of a map's is told for nothing else
  file_only : Memᴰ (refusal_of f) of_maps → Reached f × FirstFault f (refusal_of f)
  file_only i =
      let r = later_reached f i in
      let e = reached_later f r in
      let m = maps_alone (maps_refusal f C) (marks_in f (marks_start f)) (rw e at i) in
      (r, rw e (told_first (later f) m.1 r.cpi m.0))

-- the statements together; the files of the worked cases have no unknowns
pub map_faults : MapFaults
unfolding listed_file be_at letters_right clip_info_in sequences_end marks_in programs_end has_maps map_count cpi_in maps_refusal refusal_of
map_faults = record { told = file_told; no_fault = file_no_fault; only = file_only; one = refl; two = refl; cut = refl }
