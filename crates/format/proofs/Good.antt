-- The facts of a record whose counts add up and whose cells fit: what a file's record can look like.
use Prim.Native.Nat.{ℕ, ◌≤◌}
use mathlib.Core.Path.{◌≡◌, refl}
use mathlib.Core.List.{List, [], ◌∷◌, ◌++◌}
use mathlib.Core.Bool.{Bool, true, false}
use native.Mathlib.Omega.{arith}
use lib.ListN.{length}
use lib.Dec.{eqb}
use borrow.Author.Tests.{eqb-true}
use Rattle.format.specs.Bytes.{either, pick, total}
use Rattle.format.specs.ClipRecord.{Row, Clip, hdmv, clpi, are_letters, atc_stc_count, stream_count, coding_type_of, aspect, language, map_type_of, entry_count}
use Rattle.format.specs.Programs.{is_video}
use Rattle.format.specs.Rewriting.{runs}
use Rattle.format.proofs.Fields.{Fit}
use Rattle.format.proofs.Join.{GoodEntry}
use Rattle.format.proofs.Lists.{All}

-- packet, STC count and offset id fit their fields
abbrev pub GoodAtc : Row → Type 0
GoodAtc = Fit (32 ∷ 8 ∷ 8 ∷ [])

-- PID, packet, start and end fit their fields
abbrev pub GoodStc : Row → Type 0
GoodStc = Fit (16 ∷ 32 ∷ 32 ∷ 32 ∷ [])

-- packet, PID and stream count fit their fields
abbrev pub GoodProgram : Row → Type 0
GoodProgram = Fit (32 ∷ 16 ∷ 8 ∷ [])

-- the cells fit their fields, and video has no language, anything else no aspect
pub record GoodStream (s : Row) : Type 0 where
  pub cells : Fit (16 ∷ 8 ∷ 8 ∷ 4 ∷ 24 ∷ []) s
  pub only : pick (is_video (coding_type_of s)) (eqb (language s) 0) (eqb (aspect s) 0) ≡ true

-- PID, type and entry count fit their fields
abbrev pub GoodMap : Row → Type 0
GoodMap = Fit (16 ∷ 4 ∷ 18 ∷ [])

-- maps of at most `most` runs each, and their entries in one table
pub data Maps (most : ℕ) : List Row → List Row → Type 0 where
  none : Maps most [] []
  more : {m : Row} {ms own rest : List Row} → GoodMap m → length own ≡ entry_count m → All (GoodEntry (map_type_of m)) own → runs own ≤ most
      → Maps most ms rest → Maps most (m ∷ ms) (own ++ rest)

-- all cells fit, heads are at most 255 a table and their counts add up to their rows, and no map has more than `most` runs
pub record GoodClip (most : ℕ) (c : Clip) : Type 0 where
  pub scalars : Fit (32 ∷ 8 ∷ 8 ∷ 32 ∷ 32 ∷ 8 ∷ 32 ∷ [])
      (c.scalars.version ∷ c.scalars.stream_type ∷ c.scalars.application_type ∷ c.scalars.rate ∷ c.scalars.packets ∷ c.scalars.validity_flags ∷ c.scalars.format_id ∷ [])
  pub atcs_few : length c.atcs ≤ 255
  pub atcs_good : All GoodAtc c.atcs
  pub stcs_good : All GoodStc c.stcs
  pub stcs_add : total atc_stc_count c.atcs ≡ length c.stcs
  pub programs_few : length c.programs ≤ 255
  pub programs_good : All GoodProgram c.programs
  pub streams_good : All GoodStream c.streams
  pub streams_add : total stream_count c.programs ≡ length c.streams
  pub maps_few : length c.maps ≤ 255
  pub maps_good : Maps most c.maps c.entries

-- the number of either word
pub data IsWord : ℕ → Type 0 where
  is_hdmv : IsWord hdmv
  is_clpi : IsWord clpi

-- right letters are one of the two
pub letters_are : (l : ℕ) → are_letters l ≡ true → IsWord l
letters_are l h = go (eqb l hdmv) (eqb l clpi) refl refl h
  where
    go : (a b : Bool) → eqb l hdmv ≡ a → eqb l clpi ≡ b → either a b ≡ true → IsWord l
    go true b e f h = rw (eqb-true l hdmv e) IsWord.is_hdmv
    go false true e f h = rw (eqb-true l clpi f) IsWord.is_clpi
    go false false e f h = let z : ◌≡◌ {A = ℕ} 0 1 = cc in absurd (omega arith)

-- what writing refuses by nothing: right letters, and no map has more than 65,535 runs
pub record Writable (c : Clip) : Type 0 where
  pub letters : are_letters c.scalars.letters ≡ true
  pub good : GoodClip 65535 c
