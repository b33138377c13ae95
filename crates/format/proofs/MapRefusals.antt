-- The maps of a section: it ends in the file; no map is refused exactly where every map lies as it must; the first that is refused decides.
use Prim.Native.Nat.{ℕ, zero, suc, ◌+◌, ◌*◌, ◌<◌, ◌≤◌}
use mathlib.Core.Path.{◌≡◌, refl, sym, ap₂, ◌∙◌}
use mathlib.Core.List.{List}
use mathlib.Core.Bool.{Bool, true, false}
use native.Mathlib.Omega.{arith}
use lib.ListN.{length}
use lib.Dec.{eqb, eqb-suc-zero}
use borrow.Author.Tests.{eq-eqb, eqb-true, leb-true}
use Rattle.format.specs.Bytes.{both, pick, every, unless, or_later, first_refusal, be_at, rows_at, end_of}
use Rattle.format.specs.ClipRecord.{present}
use Rattle.format.specs.EntryPoints.{next_map, cpi_end, has_maps, map_count, cpi_length_in, cpi_in, address_in, coarse_rows_in, fine_address_in, fine_rows_in, map_in, maps_in, map_refusal, maps_refusal}
use Rattle.format.proofs.Tests.{both_true, later_met}

-- ---- a section with maps

-- a count that is not 0 was read of a section with maps
pub counted_maps : (f : List ℕ) (c : ℕ) → 0 < map_count f c → has_maps f c ≡ true
unfolding map_count
counted_maps f c h = go (has_maps f c) h
  where
    go : (m : Bool) → 0 < pick m (be_at f (c + 7) 1) 0 → m ≡ true
    go true h = refl
    go false h = absurd (omega arith)

-- one that is in the file ends there, and so do its headers
pub section_in_lem : (f : List ℕ) (c : ℕ) → has_maps f c ≡ true → cpi_in f c ≡ true → (cpi_end f c ≤ length f) × (c + 8 + 12 * map_count f c ≤ length f)
unfolding cpi_in has_maps
section_in_lem f c maps h =
    let b = both_true {a = cpi_length_in f c} h in
    let there : present f c ≡ true = (both_true maps).0 in (
      leb-true (cpi_end f c) (length f) (rw there at b.0),
      leb-true (c + 8 + 12 * map_count f c) (length f) (rw maps at b.1),
    )

-- ---- no refusal

-- one of two refusals is met unless both are 0
later_zero : (refusal later : ℕ) → eqb (or_later refusal later) 0 ≡ both (eqb refusal 0) (eqb later 0)
later_zero zero later = refl
later_zero (suc n) later = rw (eqb-suc-zero n)

-- if each item is refused by nothing exactly where it passes its test, all are refused by nothing exactly where all pass
first_zero : (refusal : ℕ → ℕ) (test : ℕ → Bool) → ((p : ℕ) → eqb (refusal p) 0 ≡ test p) → (next : ℕ → ℕ) (p n : ℕ)
    → eqb (first_refusal (rows_at refusal next p n)) 0 ≡ every (λ b. b) (rows_at test next p n)
first_zero refusal test e next p zero = refl
first_zero refusal test e next p (suc n) =
    later_zero (refusal p) (first_refusal (rows_at refusal next (next p) n)) ∙ ap₂ both (e p) (first_zero refusal test e next (next p) n)

module _ (f : List ℕ) (c : ℕ) where
  -- a map is refused by nothing exactly where its four tests pass
  map_zero : (p : ℕ) → eqb (map_refusal f c p) 0 ≡ map_in f c p
  map_zero p = go (address_in f c p) (coarse_rows_in f c p) (fine_address_in f c p) (fine_rows_in f c p)
    where
      go : (a b d e : Bool) → eqb (unless a 7 (unless b 42 (unless d 41 (unless e 42 0)))) 0 ≡ both a (both b (both d e))
      go true true true true = refl
      go true true true false = refl
      go true true false e = refl
      go true false d e = refl
      go false b d e = refl

  -- the maps of a section are refused by nothing exactly where each lies as it must
  pub maps_zero : eqb (maps_refusal f c) 0 ≡ maps_in f c
  unfolding maps_refusal maps_in
  maps_zero = first_zero (map_refusal f c) (map_in f c) map_zero next_map (c + 8) (map_count f c)

  -- both ways
  pub maps_pass : maps_in f c ≡ true → maps_refusal f c ≡ 0
  maps_pass h = eqb-true (maps_refusal f c) 0 (maps_zero ∙ h)

  pub maps_passed : maps_refusal f c ≡ 0 → maps_in f c ≡ true
  maps_passed h = sym maps_zero ∙ eq-eqb (maps_refusal f c) 0 h

-- ---- the first refusal

-- one of n items from p has this refusal, and none before it has any
pub record FirstMet (refusal : ℕ → ℕ) (next : ℕ → ℕ) (p n number : ℕ) : Type 0 where
  pub item : ℕ
  pub there : item < n
  pub met : refusal (end_of next p item) ≡ number
  pub before : (k : ℕ) → k < item → refusal (end_of next p k) ≡ 0

module _ (refusal : ℕ → ℕ) (next : ℕ → ℕ) where
  -- the first that is met is told
  pub met_told : (p n number : ℕ) → (number ≡ 0 → ⊥) → (k : ℕ) → k < n → refusal (end_of next p k) ≡ number
      → ((j : ℕ) → j < k → refusal (end_of next p j) ≡ 0) → first_refusal (rows_at refusal next p n) ≡ number
  met_told p zero number not0 k below met before = absurd (omega arith)
  met_told p (suc n) number not0 zero below met before =
      rw met (later_met number (first_refusal (rows_at refusal next (next p) n)) not0)
  met_told p (suc n) number not0 (suc k) below met before =
      rw (before 0 (omega arith)) (met_told (next p) n number not0 k (omega arith) met (λ j h. before (suc j) (omega arith)))

  -- and what is told is met
  pub told_met : (p n number : ℕ) → (number ≡ 0 → ⊥) → first_refusal (rows_at refusal next p n) ≡ number → FirstMet refusal next p n number
  told_met p zero number not0 h = absurd (not0 (sym h))
  told_met p (suc n) number not0 h = go (refusal p) refl h (told_met (next p) n number not0)
    where
      rest : ℕ
      rest = first_refusal (rows_at refusal next (next p) n)

      before_next : refusal p ≡ 0 → (later : FirstMet refusal next (next p) n number) (k : ℕ) → k < suc later.item → refusal (end_of next p k) ≡ 0
      before_next e later zero below = e
      before_next e later (suc k) below = later.before k (omega arith)

      go : (r : ℕ) → refusal p ≡ r → or_later r rest ≡ number → (rest ≡ number → FirstMet refusal next (next p) n number)
          → FirstMet refusal next p (suc n) number
      go (suc r) e h told = record { item = 0; there = omega arith; met = e ∙ h; before = λ k below. absurd (omega arith) }
      go zero e h told =
          let later = told h in
          record { item = suc later.item; there = omega (arith, later.there); met = later.met; before = before_next e later }
