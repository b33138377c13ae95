-- Maps measured one by one, and what the section's measure says.
use Prim.Native.Nat.{ℕ, zero, suc, ◌+◌, ◌*◌, ◌-◌, ◌<◌, ◌≤◌}
use mathlib.Core.Path.{◌≡◌, refl, sym, ap, ◌∙◌}
use mathlib.Core.List.{List}
use mathlib.Core.Bool.{Bool, true, false}
use native.Mathlib.Omega.{arith}
use lib.ListN.{length}
use borrow.Author.Tests.{le-leb, lt-leb, lt-ltb, le-ltb}
use Rattle.format.specs.Bytes.{pick, unless, or_later, first_refusal, be_at, rows_at, total}
use Rattle.format.specs.ClipRecord.{entry_count}
use Rattle.format.specs.EntryPoints.{coarse_count_at, fine_count_at, map_at, next_map, body_at, fine_start, entries_of, cpi_end, has_maps, map_count, maps_from, entries_from, cpi_in, map_refusal, maps_refusal}
use Rattle.format.proofs.MapRefusals.{section_in_lem}
use Rattle.format.proofs.Rows.{rows_length, gather_adds}
use Rattle.format.proofs.Cpi.{count_by}
use Rattle.format.proofs.Read.{own_length}
use Rattle.format.proofs.Loops.{one_left, none_left}
use Rattle.ep_rows.proofs.Headers.{counts_small}
use Rattle.std.specs.Prelude.{Option, Some, None, Result, Ok, Err}
use Rattle.refusals.specs.declared.Refusal.{Refusal}
use Rattle.refusals.specs.Numbers.{number_of}
use Rattle.cpi.specs.Maps.{cpi_head, map_told_by, map_rows_of, cpi_told_by, maps_measured, cpi_measured, HeadersIn}
use Rattle.cpi.specs.declared.maps.Headers.{Headers}
use Rattle.cpi.specs.declared.maps.CpiCounts.{CpiCounts}

-- ---- one map, test by test

module _ (f : List ℕ) (c p : ℕ) where
  -- a map whose body begins at the section's end or behind it is 7
  pub address_past : cpi_end f c ≤ body_at f c p → Err 7 ≡ map_rows_of f c p
  unfolding map_rows_of
  address_past h = rw (le-ltb (body_at f c p) (cpi_end f c) h)

  module _ (address : body_at f c p < cpi_end f c) where
    -- else one whose first four bytes or coarse rows pass the file's end is 42
    pub coarse_past : length f < body_at f c p + 4 + 8 * coarse_count_at f p → Err 42 ≡ map_rows_of f c p
    unfolding map_rows_of
    coarse_past h = rw (lt-ltb (body_at f c p) (cpi_end f c) address, lt-leb (body_at f c p + 4 + 8 * coarse_count_at f p) (length f) h)

    module _ (coarse : body_at f c p + 4 + 8 * coarse_count_at f p ≤ length f) where
      -- else one whose fine rows begin behind the section's end is 41
      pub fine_address_past : cpi_end f c < fine_start f c p → Err 41 ≡ map_rows_of f c p
      unfolding map_rows_of
      fine_address_past h =
          rw (lt-ltb (body_at f c p) (cpi_end f c) address, le-leb (body_at f c p + 4 + 8 * coarse_count_at f p) (length f) coarse, lt-leb (fine_start f c p) (cpi_end f c) h)

      module _ (fine : fine_start f c p ≤ cpi_end f c) where
        -- else one whose fine rows pass the file's end is 42
        pub fine_past : length f < fine_start f c p + 4 * fine_count_at f p → Err 42 ≡ map_rows_of f c p
        unfolding map_rows_of
        fine_past h =
            rw (
              lt-ltb (body_at f c p) (cpi_end f c) address,
              le-leb (body_at f c p + 4 + 8 * coarse_count_at f p) (length f) coarse,
              le-leb (fine_start f c p) (cpi_end f c) fine,
              lt-leb (fine_start f c p + 4 * fine_count_at f p) (length f) h,
            )

        -- else it has an entry for each fine row
        pub map_fits_lem : fine_start f c p + 4 * fine_count_at f p ≤ length f → Ok (fine_count_at f p) ≡ map_rows_of f c p
        unfolding map_rows_of
        map_fits_lem h =
            rw (
              lt-ltb (body_at f c p) (cpi_end f c) address,
              le-leb (body_at f c p + 4 + 8 * coarse_count_at f p) (length f) coarse,
              le-leb (fine_start f c p) (cpi_end f c) fine,
              le-leb (fine_start f c p + 4 * fine_count_at f p) (length f) h,
            )

-- entries are told of a map that is not refused, one for each fine row
pub map_said : (f : List ℕ) (c p n : ℕ) → map_rows_of f c p ≡ Ok n → (map_refusal f c p ≡ 0) × (n ≡ fine_count_at f p)
unfolding map_rows_of
map_said f c p n e = go (map_refusal f c p) e
  where
    go : (refusal : ℕ) → map_told_by refusal (fine_count_at f p) ≡ Ok n → (refusal ≡ 0) × (n ≡ fine_count_at f p)
    go zero e = (refl, cc)
    go (suc m) e = let z : ◌≡◌ {A = ℕ} 0 1 = cc in absurd (omega arith)

-- ---- all maps, one by one

-- what holds before each turn: the maps that are left decide on the refusal, and their entries are still to be counted
pub record Counting (f : List ℕ) (c count entries k : ℕ) : Type 0 where
  pub few : entries ≤ 262143 * k
  pub decide : first_refusal (rows_at (map_refusal f c) next_map (c + 8 + 12 * k) (count - k)) ≡ maps_refusal f c
  pub still : entries + total entry_count (rows_at (map_at f) next_map (c + 8 + 12 * k) (count - k)) ≡ length (entries_from f c)

module _ (f : List ℕ) (c count : ℕ) (counted : count ≡ map_count f c) where
  -- before the first turn all maps are left and no entry is counted
  pub counting_first : Counting f c count 0 0
  unfolding maps_refusal entries_from
  counting_first =
      let p : c + 8 + 12 * 0 ≡ c + 8 = omega arith in
      let n : count - 0 ≡ map_count f c = omega (arith, counted) in
      let adds = gather_adds (map_at f) entry_count (entries_of f c) next_map (own_length f c) (c + 8) (map_count f c) in
      record { few = omega arith; decide = rw (p, n); still = rw (p, n) (omega (arith, adds)) }

  module _ (entries k : ℕ) (i : Counting f c count entries k) where
    -- the next header stands 12 bytes on
    next_at : c + 8 + 12 * k + 12 ≡ c + 8 + 12 * (k + 1)
    next_at = omega arith

    -- a turn: the entries of a map that is not refused are counted
    pub counting_next : (n : ℕ) → k < count → map_rows_of f c (c + 8 + 12 * k) ≡ Ok n → Counting f c count (entries + n) (k + 1)
    counting_next n h e =
        let m = map_said f c (c + 8 + 12 * k) n e in
        let d = rw (one_left count k h, m.0, next_at) at i.decide in
        let t = rw (one_left count k h, next_at) at i.still in
        let small = counts_small f (c + 8 + 12 * k) in
        let few = i.few in
        let is = m.1 in
        record { few = omega arith; decide = d; still = omega arith }

    -- a turn: the first map that is refused decides for all
    pub counting_bad : (r : ℕ) → k < count → map_rows_of f c (c + 8 + 12 * k) ≡ Err r → Err r ≡ maps_measured f c
    unfolding map_rows_of maps_measured
    counting_bad r h e = go (map_refusal f c p) e (rw (one_left count k h) at i.decide)
      where
        p : ℕ
        p = c + 8 + 12 * k

        go : (refusal : ℕ) → map_told_by refusal (fine_count_at f p) ≡ Err r
            → or_later refusal (first_refusal (rows_at (map_refusal f c) next_map (next_map p) (count - (k + 1)))) ≡ maps_refusal f c
            → Err r ≡ cpi_told_by (maps_refusal f c) (length (maps_from f c)) (length (entries_from f c))
        go zero e d = let z : ◌≡◌ {A = ℕ} 0 1 = cc in absurd (omega arith)
        go (suc m) e d = let is : r ≡ suc m = cc in rw (is, ← d)

    -- after the last turn no map is refused and every entry is counted
    pub counting_done : count ≤ k → Ok (record { maps = count; entries = entries }) ≡ maps_measured f c
    unfolding maps_measured maps_from
    counting_done h =
        let d : 0 ≡ maps_refusal f c = rw (none_left count k h) at i.decide in
        let t = rw (none_left count k h) at i.still in
        let n : entries ≡ length (entries_from f c) = omega arith in
        let m : count ≡ length (rows_at (map_at f) next_map (c + 8) (map_count f c)) = counted ∙ sym (rows_length (map_at f) next_map (c + 8) (map_count f c)) in
        rw (← d, n, m)

-- ---- the section

-- what the head says, by its two tests
abbrev head_told : List ℕ → ℕ → (inside maps : Bool) → Result (Option Headers) Refusal
head_told f c inside maps = pick inside (Ok (pick maps (Some (record { count = be_at f (c + 7) 1; end = cpi_end f c })) None)) (Err Refusal.Cpi)

module _ (f : List ℕ) (c : ℕ) where
  -- without maps both counts are 0
  no_maps : has_maps f c ≡ false → Ok (record { maps = 0; entries = 0 }) ≡ maps_measured f c
  unfolding maps_measured maps_refusal maps_from entries_from map_count
  no_maps h = rw h

  -- what the head's answer says
  pub head_said : (maps : Headers) → length f ≤ 536870912 → cpi_head f c ≡ Ok (Some maps) → (cpi_in f c ≡ true) × HeadersIn f c maps.count maps.end
  unfolding cpi_head
  head_said maps small h = go (cpi_in f c) (has_maps f c) refl refl h
    where
      go : (a m : Bool) → cpi_in f c ≡ a → has_maps f c ≡ m
          → head_told f c a m ≡ Ok (Some maps)
          → (a ≡ true) × HeadersIn f c maps.count maps.end
      go false m p q h = let z : ◌≡◌ {A = ℕ} 0 1 = cc in absurd (omega arith)
      go true false p q h = let z : ◌≡◌ {A = ℕ} 0 1 = cc in absurd (omega arith)
      go true true p q h =
          let there-are : Headers = record { count = be_at f (c + 7) 1; end = cpi_end f c } in
          let same : maps ≡ there-are = cc in
          let is-n : maps.count ≡ be_at f (c + 7) 1 = ap (λ (x : Headers). x.count) same in
          let is-e : maps.end ≡ cpi_end f c = ap (λ (x : Headers). x.end) same in
          let count : map_count f c ≡ be_at f (c + 7) 1 = count_by f c true q in
          let there = section_in_lem f c q p in
          (refl, record { small = small; counted = is-n ∙ sym count; end_is = is-e; end_in = omega (arith, there.0); headers = omega (arith, there.1) })

  -- where the head tells of no maps, both counts of the section are 0
  pub head_none : cpi_head f c ≡ Ok None → Ok (record { maps = 0; entries = 0 }) ≡ cpi_measured f c
  unfolding cpi_head cpi_measured maps_measured
  head_none h = go (cpi_in f c) (has_maps f c) refl h
    where
      go : (a m : Bool) → has_maps f c ≡ m → head_told f c a m ≡ Ok None
          → Ok (record { maps = 0; entries = 0 }) ≡ cpi_told_by (unless a 6 (maps_refusal f c)) (length (maps_from f c)) (length (entries_from f c))
      go true false q h = no_maps q
      go true true q h = let z : ◌≡◌ {A = ℕ} 0 1 = cc in absurd (omega arith)
      go false m q h = let z : ◌≡◌ {A = ℕ} 0 1 = cc in absurd (omega arith)

  -- where the head is refused, so is the section, by the same number
  pub head_refused : {e : Refusal} → cpi_head f c ≡ Err e → Err (number_of e) ≡ cpi_measured f c
  unfolding cpi_head cpi_measured
  head_refused {e} h = go (cpi_in f c) (has_maps f c) h
    where
      go : (a m : Bool) → head_told f c a m ≡ Err e
          → Err (number_of e) ≡ cpi_told_by (unless a 6 (maps_refusal f c)) (length (maps_from f c)) (length (entries_from f c))
      go true true h = let z : ◌≡◌ {A = ℕ} 0 1 = cc in absurd (omega arith)
      go true false h = let z : ◌≡◌ {A = ℕ} 0 1 = cc in absurd (omega arith)
      go false m h = let is : e ≡ Refusal.Cpi = cc in rw is

  -- of a section that is in the file the maps decide
  pub maps_then : {r : Result CpiCounts ℕ} → cpi_in f c ≡ true → r ≡ maps_measured f c → r ≡ cpi_measured f c
  unfolding cpi_measured maps_measured
  maps_then h e = e ∙ rw h
