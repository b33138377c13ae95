-- Entries by their words: what the masks leave tells whether a run goes on.
use Prim.Native.Nat.{ℕ, ◌+◌, ◌*◌, ◌/◌, ◌%◌, ◌^◌, ◌<◌}
use mathlib.Core.Path.{◌≡◌, refl, sym, ap, ap₂, ◌∙◌}
use mathlib.Core.List.{List}
use mathlib.Core.Bool.{Bool, true, false}
use native.Mathlib.Omega.{arith}
use borrow.Author.Tests.{lt-ltb, eqb-true, eqb-false, eq-eqb, ne_eqb}
use lib.Bits.{bit_and}
use lib.Dec.{eqb, ltb, lit≤}
use Rattle.format.specs.Bytes.{both, fits}
use Rattle.format.specs.ClipRecord.{Row, time, entry_type_of, entry_cells}
use Rattle.format.specs.Refusals.{entry_bits, entry_fits}
use Rattle.format.specs.Rewriting.{same_run}
use Rattle.format.proofs.Fields.{Fit, one, fits_fit, words_masked, gap_masked, time_cells}
use Rattle.format.proofs.Tests.{both_true}
use Rattle.format.specs.Tables.{cells_at}
use Rattle.entry_rows.specs.declared.EntryRow.{EntryRow}
use Rattle.entry_rows.specs.declared.Words.{Words}
use Rattle.entry_rows.specs.Reads.{EntryIs, WordsAre, row_of, words_row, words_type}
use Rattle.entry_rows.proofs.Laws.{entry_whole}
use Rattle.row_limits.proofs.Fits.{angle_masked, last_test, last_fails}
use Rattle.entry_runs.specs.Fitting.{words_same, goes_on}

-- two times of which the first is a multiple of 512 agree in all bits but those of a fine time where their keys are equal and the second is one too
pub times_masked : (s t : ℕ) → s < 2 ^ 64 → t < 2 ^ 64 → s % 512 ≡ 0
    → eqb (bit_and t 0xfffffffffff801ff) (bit_and s 0xfffffffffff801ff) ≡ both (eqb (s / 524288) (t / 524288)) (eqb (t % 512) 0)
times_masked s t h g z = rw (gap_masked t 45 19 9 (lit≤ tt) g, gap_masked s 45 19 9 (lit≤ tt) h) (go (eqb (s / 524288) (t / 524288)) refl (eqb (t % 512) 0) refl)
  where
    go : (b : Bool) → eqb (s / 524288) (t / 524288) ≡ b → (c : Bool) → eqb (t % 512) 0 ≡ c → eqb (t / 524288 * 524288 + t % 512) (s / 524288 * 524288 + s % 512) ≡ both b c
    go true a true e =
        let x = eqb-true (s / 524288) (t / 524288) a in
        let y = eqb-true (t % 512) 0 e in
        eq-eqb (t / 524288 * 524288 + t % 512) (s / 524288 * 524288 + s % 512) (omega arith)
    go true a false e = ne_eqb (t / 524288 * 524288 + t % 512) (s / 524288 * 524288 + s % 512) (λ same. eqb-false (t % 512) 0 e (omega arith))
    go false a c e = ne_eqb (t / 524288 * 524288 + t % 512) (s / 524288 * 524288 + s % 512) (λ same. eqb-false (s / 524288) (t / 524288) a (omega arith))

-- what the mask leaves of a packet with its type
abbrev keyed : ℕ → ℕ
keyed x = x / 4294967296 * 4294967296 + x % 4294967296 / 131072 * 131072

-- packets with their types agree in all bits but those of a fine packet where the types and the keys are equal
pub packets_masked : (v w : ℕ) → v < 2 ^ 64 → w < 2 ^ 64
    → eqb (bit_and w 0xfffffffffffe0000) (bit_and v 0xfffffffffffe0000)
    ≡ both (eqb (w / 4294967296) (v / 4294967296)) (eqb (v % 4294967296 / 131072) (w % 4294967296 / 131072))
packets_masked v w h g = rw (masked v h, masked w g) (go (eqb (w / 4294967296) (v / 4294967296)) refl (eqb (v % 4294967296 / 131072) (w % 4294967296 / 131072)) refl)
  where
    masked : (x : ℕ) → x < 2 ^ 64 → bit_and x 0xfffffffffffe0000 ≡ keyed x
    masked x b =
        let parts : x ≡ x / 4294967296 * 4294967296 + x % 4294967296 = omega arith in
        ap (λ (y : ℕ). bit_and y 0xfffffffffffe0000) parts
        ∙ words_masked (x / 4294967296) (x % 4294967296) 0 17 (lit≤ tt) (lit≤ tt) (omega arith) (omega arith)
        ∙ omega arith

    go : (b : Bool) → eqb (w / 4294967296) (v / 4294967296) ≡ b → (c : Bool) → eqb (v % 4294967296 / 131072) (w % 4294967296 / 131072) ≡ c → eqb (keyed w) (keyed v) ≡ both b c
    go true a true e =
        let x = eqb-true (w / 4294967296) (v / 4294967296) a in
        let y = eqb-true (v % 4294967296 / 131072) (w % 4294967296 / 131072) e in
        eq-eqb (keyed w) (keyed v) (omega arith)
    go true a false e =
        let x = eqb-true (w / 4294967296) (v / 4294967296) a in
        ne_eqb (keyed w) (keyed v) (λ same. eqb-false (v % 4294967296 / 131072) (w % 4294967296 / 131072) e (omega arith))
    go false a c e = ne_eqb (keyed w) (keyed v) (λ same. eqb-false (w / 4294967296) (v / 4294967296) a (omega arith))

-- the three words tell it, in whichever order their parts are tested: equal time keys leave no bit in the upper cell, an equal type is narrow
in_order : (key multiple type packet angle end upper narrow : Bool) → (key ≡ true → upper ≡ true) → (type ≡ true → narrow ≡ true)
    → both (both key multiple) (both (both type packet) (both angle end))
    ≡ both (both key packet) (both (both angle (both end (both true (both upper (both true (both narrow true)))))) (both multiple type))
in_order false z y p a i u w h g = refl
in_order true false y p a i u w h g = go p
  where
    go : (p : Bool) → false ≡ both p (both (both a (both i (both true (both u (both true (both w true)))))) false)
    go false = refl
    go true = last_fails (both a (both i (both true (both u (both true (both w true))))))
in_order true true false p a i u w h g = go p
  where
    go : (p : Bool) → false ≡ both p (both (both a (both i (both true (both u (both true (both w true)))))) false)
    go false = refl
    go true = last_fails (both a (both i (both true (both u (both true (both w true))))))
in_order true true true p a i u w h g = rw (h refl, g refl) (ap (both p) (ap (both a) (last_test i) ∙ last_test (both a (both i true))))

-- of an entry that fits: its time is below 2^32 and a multiple of 512, its type narrow
pub record Fitting (w : Words) : Type 0 where
  pub multiple : w.time % 512 ≡ 0
  pub upper : w.time / 4294967296 < 1
  pub narrow : words_type w < 16

-- each of the three is one of the tests
fitting : (w : Words) → entry_fits (words_type w) (words_row w) ≡ true → Fitting w
fitting w fit =
    let parts = both_true fit in
    go (fits_fit entry_bits (words_row w) parts.0) (rw time_cells at (eqb-true (time (words_row w) % 512) 0 (both_true parts.1).0))
  where
    go : Fit entry_bits (words_row w) → w.time % 512 ≡ 0 → Fitting w
    go (one a (one i (one t (one u (one p (one y f)))))) z = record { multiple = z; upper = u; narrow = y }

-- words of 64 bits
pub record Wide (w : Words) : Type 0 where
  pub front : w.front < 2 ^ 64
  pub time : w.time < 2 ^ 64
  pub back : w.back < 2 ^ 64

-- an entry that fits, and one that is compared with it
module _ (a b : Words) (x : Wide a) (y : Wide b) (fit : entry_fits (words_type a) (words_row a) ≡ true) where
  -- what the masks leave of their words tells whether the second is in the run of the first, and fits too
  told : both (eqb (bit_and b.time 0xfffffffffff801ff) (bit_and a.time 0xfffffffffff801ff))
      (both (eqb (bit_and b.back 0xfffffffffffe0000) (bit_and a.back 0xfffffffffffe0000)) (eqb (bit_and b.front 0xfffffff8fffffffe) 0))
      ≡ goes_on a b
  told =
      let f = fitting a fit in
      let front : b.front ≡ b.front / 4294967296 * 4294967296 + b.front % 4294967296 = omega arith in
      let angles = ap (λ (w : ℕ). eqb (bit_and w 0xfffffff8fffffffe) 0) front ∙ angle_masked (b.front % 4294967296) (b.front / 4294967296) (omega arith) (omega (arith, y.front)) in
      rw (times_masked a.time b.time x.time y.time f.multiple, packets_masked a.back b.back x.back y.back, angles, lt-ltb (b.time % 2 ^ 32) (2 ^ 32) (omega arith), lt-ltb (b.back % 4294967296) (2 ^ 32) (omega arith), time_cells b.time)
      (in_order
      (eqb (a.time / 524288) (b.time / 524288))
      (eqb (b.time % 512) 0)
      (eqb (words_type b) (words_type a))
      (eqb (a.back % 4294967296 / 131072) (b.back % 4294967296 / 131072))
      (ltb (b.front % 4294967296) 2)
      (ltb (b.front / 4294967296) 8)
      (ltb (b.time / 2 ^ 32) 1)
      (ltb (words_type b) 16)
      (λ k. let e = eqb-true (a.time / 524288) (b.time / 524288) k in lt-ltb (b.time / 2 ^ 32) 1 (omega (arith, f.upper)))
      (λ k. let e = eqb-true (words_type b) (words_type a) k in lt-ltb (words_type b) 16 (omega (arith, f.narrow))))

  -- their times differ in what is the same in a run
  pub other_time : (bit_and b.time 0xfffffffffff801ff ≡ bit_and a.time 0xfffffffffff801ff → ⊥) → false ≡ goes_on a b
  other_time n = rw (ne_eqb (bit_and b.time 0xfffffffffff801ff) (bit_and a.time 0xfffffffffff801ff) n) at told

  module _ (same : bit_and b.time 0xfffffffffff801ff ≡ bit_and a.time 0xfffffffffff801ff) where
    -- their packets or types do
    pub other_packet : (bit_and b.back 0xfffffffffffe0000 ≡ bit_and a.back 0xfffffffffffe0000 → ⊥) → false ≡ goes_on a b
    other_packet n = rw (eq-eqb (bit_and b.time 0xfffffffffff801ff) (bit_and a.time 0xfffffffffff801ff) same, ne_eqb (bit_and b.back 0xfffffffffffe0000) (bit_and a.back 0xfffffffffffe0000) n) at told

    -- neither does, so that angle and I-end decide
    pub angles_tell : bit_and b.back 0xfffffffffffe0000 ≡ bit_and a.back 0xfffffffffffe0000 → eqb (bit_and b.front 0xfffffff8fffffffe) 0 ≡ goes_on a b
    angles_tell e = rw (eq-eqb (bit_and b.time 0xfffffffffff801ff) (bit_and a.time 0xfffffffffff801ff) same, eq-eqb (bit_and b.back 0xfffffffffffe0000) (bit_and a.back 0xfffffffffffe0000) e) at told

-- the words of an entry in a table are its row
pub words_row_lem : (t : List ℕ) (q : ℕ) {w : Words} → WordsAre t q w → words_row w ≡ cells_at t entry_cells q
words_row_lem t q are = entry_whole t q are.angle_is are.end_is are.time_is are.packet_is are.type_is

-- an entry in a table that fits a map of some type is of that type
fit_type : (type : ℕ) (e : Row) → entry_fits type e ≡ true → entry_type_of e ≡ type
fit_type type e h = eqb-true (entry_type_of e) type (both_true {a = eqb (time e % 512) 0} (both_true {a = fits entry_bits e} h).1).1

-- it fits by its words
pub words_fit : (t : List ℕ) (q type : ℕ) {w : Words} {f : Bool} → WordsAre t q w → f ≡ entry_fits type (cells_at t entry_cells q) → f ≡ true → entry_fits (words_type w) (words_row w) ≡ true
words_fit t q type {w} {f} are is y =
    let h = sym is ∙ y in
    ap₂ entry_fits (are.type_is.same ∙ fit_type type (cells_at t entry_cells q) h) (words_row_lem t q are) ∙ h

-- the words of two entries in a table
module _ (t : List ℕ) (p q : ℕ) {a b : Words} (are : WordsAre t p a) (those : WordsAre t q b) where
  -- tell whether they are in one run
  words_same_lem : words_same a b ≡ same_run (cells_at t entry_cells p) (cells_at t entry_cells q)
  words_same_lem = rw (are.time_is.same, are.packet_is.same, those.time_is.same, those.packet_is.same)

  -- and, where the first fits a map of some type, whether the second is in its run and fits
  pub words_go_on : (type : ℕ) → entry_fits type (cells_at t entry_cells p) ≡ true → goes_on a b ≡ both (same_run (cells_at t entry_cells p) (cells_at t entry_cells q)) (entry_fits type (cells_at t entry_cells q))
  words_go_on type h = ap₂ both words_same_lem (ap₂ entry_fits (are.type_is.same ∙ fit_type type (cells_at t entry_cells p) h) (words_row_lem t q those))

-- an entry that was read is tested as its row
pub tested : {t : List ℕ} {q : ℕ} {e : EntryRow} {b : Bool} (type : ℕ) → EntryIs t q e → b ≡ entry_fits type (row_of e) → b ≡ entry_fits type (cells_at t entry_cells q)
tested {t} {q} type i is = is ∙ ap (entry_fits type) (entry_whole t q i.angle_is i.end_is i.time_is i.packet_is i.type_is)
