-- The chain of refusals, test by test.
use Prim.Native.Nat.{ℕ, zero, suc, ◌+◌, ◌-◌, ◌<◌, ◌≤◌}
use mathlib.Core.Path.{◌≡◌, refl, sym, ap, ◌∙◌}
use mathlib.Core.List.{List}
use mathlib.Core.Bool.{Bool, true, false}
use native.Mathlib.Omega.{arith}
use lib.ListN.{length}
use lib.Dec.{leb, eqb, eqb-suc-zero}
use borrow.Author.Tests.{eq-eqb, ne_eqb, le-leb, lt-leb, lt-ltb, le-ltb, leb-true}
use Rattle.format.specs.Bytes.{pick, unless, or_later, be_at}
use Rattle.format.specs.ClipRecord.{letters_right, clip_info_in, sequences_start, programs_start, cpi_start, marks_start, atcs_from, stcs_from, sequences_end, marks_in}
use Rattle.format.specs.Programs.{programs_from, streams_from, programs_end}
use Rattle.format.specs.EntryPoints.{cpi_in, maps_refusal, maps_from, entries_from}
use Rattle.format.specs.Reading.{clip_of}
use Rattle.format.specs.Refusals.{refusal_of}
use Rattle.format.proofs.Tests.{both_true, passed, later_met, unless_later}
use Rattle.common.specs.Header.{parsed_of}
use Rattle.common.specs.declared.header.BdmvHeader.{BdmvHeader}
use Rattle.std.specs.Prelude.{Result, Ok, Err}
use Rattle.refusals.specs.declared.Refusal.{Refusal}
use Rattle.refusals.specs.Numbers.{number_of}
use Rattle.common.proofs.Laws.{rest}
use Rattle.cpi.specs.Maps.{cpi_told_by, index_refusal, cpi_measured}
use Rattle.cpi.specs.declared.maps.CpiCounts.{CpiCounts}
use Rattle.clip_sections.specs.Clips.{front_of, counted_of, sections_of}
use Rattle.clip_sections.specs.declared.sections.Sections.{Sections}

-- ---- marks

module _ (f : List ℕ) (start : ℕ) where
  -- a start of 0 is no marks, and passes
  pub marks_zero : start ≡ 0 → true ≡ marks_in f start
  unfolding marks_in
  marks_zero h = rw (eq-eqb start 0 h)

  -- so does a start at or past the end
  pub marks_far : (start ≡ 0 → ⊥) → length f ≤ start → true ≡ marks_in f start
  unfolding marks_in
  marks_far n h = rw (ne_eqb start 0 n, le-ltb start (length f) h)

  -- a start within the file passes where six bytes are left from it on
  pub marks_near : (start ≡ 0 → ⊥) → start < length f → leb 6 (length f - start) ≡ marks_in f start
  unfolding marks_in
  marks_near n h = rw (ne_eqb start 0 n, lt-ltb start (length f) h) (rest start 6 (length f) (omega arith))

-- ---- the header and ClipInfo

module _ (f : List ℕ) where
  -- a file of more than 536,870,912 bytes is 20
  pub too_long : 536870912 < length f → 20 ≡ front_of f
  unfolding front_of
  too_long h = rw (lt-leb (length f) 536870912 h)

  module _ (most : length f ≤ 536870912) where
    -- a file without the eight bytes of letters and version is 1, and letters that are not a clip file's are 2
    pub parse_refused : {e : Refusal} → Err e ≡ parsed_of f → number_of e ≡ front_of f
    unfolding front_of
    parse_refused {e} h = rw (le-leb (length f) 536870912 most) (go (leb 8 (length f)) (letters_right f) _ h)
      where
        go : (a b : Bool) (x : BdmvHeader) → Err e ≡ pick a (pick b (Ok x) (Err Refusal.Letters)) (Err Refusal.HeaderShort)
            → number_of e ≡ unless a 1 (unless b 2 (unless (leb 40 (length f)) 1 (unless (clip_info_in f) 3 0)))
        go false b x h = let is : e ≡ Refusal.HeaderShort = cc in rw is
        go true true x h = let z : ◌≡◌ {A = ℕ} 0 1 = cc in absurd (omega arith)
        go true false x h = let is : e ≡ Refusal.Letters = cc in rw is

    module _ (v : BdmvHeader) (clip : Ok v ≡ parsed_of f) where
      -- the letters are right
      front_is : front_of f ≡ unless (leb 40 (length f)) 1 (unless (clip_info_in f) 3 0)
      unfolding front_of
      front_is = rw (le-leb (length f) 536870912 most) (go (leb 8 (length f)) (letters_right f) _ clip)
        where
          go : (a b : Bool) (x : BdmvHeader) → Ok v ≡ pick a (pick b (Ok x) (Err Refusal.Letters)) (Err Refusal.HeaderShort)
              → unless a 1 (unless b 2 (unless (leb 40 (length f)) 1 (unless (clip_info_in f) 3 0))) ≡ unless (leb 40 (length f)) 1 (unless (clip_info_in f) 3 0)
          go false b x h = let z : ◌≡◌ {A = ℕ} 0 1 = cc in absurd (omega arith)
          go true true x h = refl
          go true false x h = let z : ◌≡◌ {A = ℕ} 0 1 = cc in absurd (omega arith)

      -- a file that ends within the header's 40 bytes is 1
      pub under_40 : length f < 40 → 1 ≡ front_of f
      under_40 h = rw (front_is, lt-leb 40 (length f) h)

      -- a file of less than 194 bytes, where ClipInfo's last field ends, is 3
      pub under_194 : 40 ≤ length f → length f < 194 → 3 ≡ front_of f
      unfolding clip_info_in
      under_194 k h = rw (front_is, le-leb 40 (length f) k, lt-leb 194 (length f) h)

      -- so is a ClipInfo whose length passes the file's end
      pub info_past : 194 ≤ length f → length f < 44 + be_at f 40 4 → 3 ≡ front_of f
      unfolding clip_info_in
      info_past k h = rw (front_is, le-leb 40 (length f) (omega arith), le-leb 194 (length f) k, lt-leb (44 + be_at f 40 4) (length f) h)

      -- else the front passes
      pub front_passes : 194 ≤ length f → 44 + be_at f 40 4 ≤ length f → 0 ≡ front_of f
      unfolding clip_info_in
      front_passes k h = rw (front_is, le-leb 40 (length f) (omega arith), le-leb 194 (length f) k, le-leb (44 + be_at f 40 4) (length f) h)

-- what a front that passes says
pub front_facts : (f : List ℕ) → front_of f ≡ 0 → (length f ≤ 536870912) × (194 ≤ length f)
unfolding front_of clip_info_in
front_facts f h =
    let a = passed (leb (length f) 536870912) 19 _ h in
    let b = passed (leb 8 (length f)) 0 _ a.1 in
    let c = passed (letters_right f) 1 _ b.1 in
    let d = passed (leb 40 (length f)) 0 _ c.1 in
    let e = passed (clip_info_in f) 2 0 d.1 in
    (leb-true (length f) 536870912 a.0, leb-true 194 (length f) (both_true e.0).0)

-- ---- the sections behind it

-- the refusals behind ClipInfo, in their order
abbrev pub later_of : List ℕ → ℕ
later_of f =
    unless (leb (sequences_end f (sequences_start f)) (length f)) 4
    (unless (leb (programs_end f (programs_start f)) (length f)) 5
    (unless (cpi_in f (cpi_start f)) 6
    (or_later (maps_refusal f (cpi_start f))
    (unless (marks_in f (marks_start f)) 8 0))))

-- the sections are tested only where the front passes
pub front_then : (f : List ℕ) → refusal_of f ≡ pick (eqb (front_of f) 0) (later_of f) (front_of f)
unfolding refusal_of front_of
front_then f = go (leb (length f) 536870912) (leb 8 (length f)) (letters_right f) (leb 40 (length f)) (clip_info_in f) (later_of f)
  where
    go : (a b c d e : Bool) (x : ℕ)
        → unless a 20 (unless b 1 (unless c 2 (unless d 1 (unless e 3 x))))
        ≡ pick (eqb (unless a 20 (unless b 1 (unless c 2 (unless d 1 (unless e 3 0))))) 0) x (unless a 20 (unless b 1 (unless c 2 (unless d 1 (unless e 3 0)))))
    go true true true true true x = refl
    go true true true true false x = refl
    go true true true false e x = refl
    go true true false d e x = refl
    go true false c d e x = refl
    go false b c d e x = refl

-- of an accepted file the front passes, and so does all behind it
pub both_pass : (f : List ℕ) → refusal_of f ≡ 0 → (front_of f ≡ 0) × (later_of f ≡ 0)
both_pass f h = go (front_of f) (later_of f) (sym (front_then f) ∙ h)
  where
    go : (r x : ℕ) → pick (eqb r 0) x r ≡ 0 → (r ≡ 0) × (x ≡ 0)
    go zero x h = (refl, h)
    go (suc r) x h = let g = rw (eqb-suc-zero r) at h in absurd (omega arith)

module _ (f : List ℕ) where
  -- a number that is not 0 is a refusal, and the answer
  refused_by : (r : ℕ) → refusal_of f ≡ r → (r ≡ 0 → ⊥) → Err r ≡ sections_of f
  unfolding sections_of
  refused_by r is h = rw (is, ne_eqb r 0 h)

  -- so is every number above 0
  refused : (n : ℕ) → refusal_of f ≡ suc n → Err (suc n) ≡ sections_of f
  refused n is = refused_by (suc n) is (λ e. omega arith)

  -- the refusal of a front that does not pass is the answer
  pub front_refused : (r : ℕ) → r ≡ front_of f → (r ≡ 0 → ⊥) → Err r ≡ sections_of f
  front_refused r e h =
      let n : front_of f ≡ 0 → ⊥ = λ z. h (e ∙ z) in
      refused_by r (front_then f ∙ rw (ne_eqb (front_of f) 0 n) (sym e)) h

  module _ (front : front_of f ≡ 0) where
    -- where the front passes, the sections decide
    later : refusal_of f ≡ later_of f
    later = front_then f ∙ rw front

    -- sequences that pass the file's end are 4
    pub sequences_refused : leb (sequences_end f (sequences_start f)) (length f) ≡ false → Err 4 ≡ sections_of f
    sequences_refused h = refused 3 (later ∙ rw h)

    module _ (seq : leb (sequences_end f (sequences_start f)) (length f) ≡ true) where
      -- programs that pass it are 5, where the sequences do not
      pub programs_refused : leb (programs_end f (programs_start f)) (length f) ≡ false → Err 5 ≡ sections_of f
      programs_refused h = refused 4 (later ∙ rw (seq, h))

      module _ (prog : leb (programs_end f (programs_start f)) (length f) ≡ true) where
        -- the CPI section's own refusal and its maps', as they are measured
        index_then : later_of f ≡ or_later (index_refusal f (cpi_start f)) (unless (marks_in f (marks_start f)) 8 0)
        index_then = rw (seq, prog) (unless_later (cpi_in f (cpi_start f)) 5 (maps_refusal f (cpi_start f)) (unless (marks_in f (marks_start f)) 8 0))

        -- the refusal of the CPI section or of a map is the answer, where all tested before it passes
        pub index_refused : (r : ℕ) → index_refusal f (cpi_start f) ≡ r → (r ≡ 0 → ⊥) → Err r ≡ sections_of f
        index_refused r e h = refused_by r (later ∙ index_then ∙ rw e (later_met r (unless (marks_in f (marks_start f)) 8 0) h)) h

        module _ (index : index_refusal f (cpi_start f) ≡ 0) where
          -- marks that pass the file's end are 8, where all tested before them is in it
          pub marks_refused : marks_in f (marks_start f) ≡ false → Err 8 ≡ sections_of f
          marks_refused h = refused 7 (later ∙ index_then ∙ rw (index, h))

          -- where no test fails, the rows are counted
          pub all_measured : (a s p t m e : ℕ) → marks_in f (marks_start f) ≡ true → a ≡ length (clip_of f).atcs → s ≡ length (clip_of f).stcs
              → p ≡ length (clip_of f).programs → t ≡ length (clip_of f).streams → m ≡ length (clip_of f).maps → e ≡ length (clip_of f).entries
              → Ok (record { atcs = a; stcs = s; programs = p; streams = t; maps = m; entries = e }) ≡ sections_of f
          unfolding sections_of
          all_measured a s p t m e h ea es ep et em ee =
              let z : refusal_of f ≡ 0 = later ∙ index_then ∙ rw (index, h) in
              rw (z, ea, es, ep, et, em, ee)

-- the same with the rows of each section
pub all_counted : (f : List ℕ) → front_of f ≡ 0 → leb (sequences_end f (sequences_start f)) (length f) ≡ true → leb (programs_end f (programs_start f)) (length f) ≡ true
    → index_refusal f (cpi_start f) ≡ 0 → marks_in f (marks_start f) ≡ true → {a s p t m e : ℕ}
    → a ≡ length (atcs_from f (sequences_start f)) → s ≡ length (stcs_from f (sequences_start f)) → p ≡ length (programs_from f (programs_start f))
    → t ≡ length (streams_from f (programs_start f)) → m ≡ length (maps_from f (cpi_start f)) → e ≡ length (entries_from f (cpi_start f))
    → Ok (record { atcs = a; stcs = s; programs = p; streams = t; maps = m; entries = e }) ≡ sections_of f
unfolding clip_of
all_counted f front seq prog index marks {a} {s} {p} {t} {m} {e} ea es ep et em ee = all_measured f front seq prog index a s p t m e marks ea es ep et em ee

-- ---- what the measure of the entry index says

module _ (f : List ℕ) (c : ℕ) where
  -- the measure, unfolded
  measured : {told : Result CpiCounts ℕ} → cpi_measured f c ≡ told → cpi_told_by (index_refusal f c) (length (maps_from f c)) (length (entries_from f c)) ≡ told
  unfolding cpi_measured
  measured h = h

  -- a refusal is told of a section that has it, and is not 0
  pub cpi_refused : {r : ℕ} → cpi_measured f c ≡ Err r → (index_refusal f c ≡ r) × (r ≡ 0 → ⊥)
  cpi_refused {r} h = go (index_refusal f c) (measured h)
    where
      go : (x : ℕ) → cpi_told_by x (length (maps_from f c)) (length (entries_from f c)) ≡ Err r → (x ≡ r) × (r ≡ 0 → ⊥)
      go zero h = let z : ◌≡◌ {A = ℕ} 0 1 = cc in absurd (omega arith)
      go (suc n) h = let is : suc n ≡ r = cc in (is, λ e. omega arith)

  -- counts are told of a section that is refused by nothing, and are those of its rows
  pub cpi_counts : (counts : CpiCounts) → cpi_measured f c ≡ Ok counts
      → (index_refusal f c ≡ 0) × (counts.maps ≡ length (maps_from f c)) × (counts.entries ≡ length (entries_from f c))
  cpi_counts counts h = go (index_refusal f c) (measured h)
    where
      go : (x : ℕ) → cpi_told_by x (length (maps_from f c)) (length (entries_from f c)) ≡ Ok counts
          → (x ≡ 0) × (counts.maps ≡ length (maps_from f c)) × (counts.entries ≡ length (entries_from f c))
      go zero h =
          let there : CpiCounts = record { maps = length (maps_from f c); entries = length (entries_from f c) } in
          let same : counts ≡ there = cc in
          (refl, ap (λ (x : CpiCounts). x.maps) same, ap (λ (x : CpiCounts). x.entries) same)
      go (suc n) h = let z : ◌≡◌ {A = ℕ} 0 1 = cc in absurd (omega arith)

-- ---- what was measured

-- what counts of rows say of the file
pub record SectionsAre (f : List ℕ) (s : Sections) : Type 0 where
  pub accepts : refusal_of f ≡ 0
  pub same : s ≡ counted_of f

module _ (f : List ℕ) where
  -- counts are answered for an accepted file
  pub sections_are : {s : Sections} → sections_of f ≡ Ok s → SectionsAre f s
  unfolding sections_of
  sections_are {s} h = go (refusal_of f) refl h
    where
      go : (r : ℕ) → refusal_of f ≡ r → pick (eqb r 0) (Ok (counted_of f)) (Err r) ≡ Ok s → SectionsAre f s
      go zero q h = let is = h in record { accepts = q; same = cc }
      go (suc r) q h = let g = rw (eqb-suc-zero r) at h in let z : ◌≡◌ {A = ℕ} 0 1 = cc in absurd (omega arith)

  -- an accepted file's front passes
  pub accepted_bounds : refusal_of f ≡ 0 → (length f ≤ 536870912) × (194 ≤ length f)
  accepted_bounds h = front_facts f (both_pass f h).0
