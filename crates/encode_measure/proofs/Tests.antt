-- The refusals of writing, in the order in which the code tests them.
use Rattle.std.proofs.Common.{Result, Ok, Err}
use Prim.Native.Nat.{ℕ, ◌+◌, ◌≤◌}
use mathlib.Core.Path.{◌≡◌, sym, ap, ◌∙◌}
use mathlib.Core.Bool.{Bool, true, false}
use native.Mathlib.Omega.{arith}
use lib.Dec.{eqb}
use borrow.Author.Tests.{eqb-true, ne_eqb}
use Rattle.format.specs.Bytes.{pick, unless}
use Rattle.format.specs.ClipRecord.{Clip, are_letters}
use Rattle.format.specs.Tables.{ClipTables, clip_in}
use Rattle.format.specs.Refusals.{all_stated, counts_add, cells_fit, runs_fit, write_refusal}
use Rattle.format.proofs.Tests.{picked, not_picked, unless_both}
use Rattle.limits.proofs.Clips.{all_counted}
use Rattle.refusals.specs.declared.Refusal.{Refusal}
use Rattle.refusals.specs.Numbers.{number_of, numbered}
use Rattle.refusals.proofs.Laws.{number_positive}
use Rattle.encode_measure.specs.declared.Places.{Places}
use Rattle.encode_measure.specs.Places.{refusal_in, pairs_counted, programs_place, cpi_place, marks_place, places_of, measured_by, Placed}

-- what an answer says of its test, where the code goes on, and where it refuses
pub passes_by : {r b : Bool} → r ≡ b → r ≡ true → b ≡ true
passes_by is h = sym is ∙ h

pub fails_by : {r b : Bool} → r ≡ b → r ≡ false → b ≡ false
fails_by is h = sym is ∙ h

-- 22 by pairs of tables, then 40, 30 and 31
pub refusal_is : (l : ClipTables)
    → refusal_in l ≡ unless (pairs_counted l) 22 (unless (are_letters l.scalars.letters) 40 (unless (cells_fit (clip_in l)) 30 (unless (runs_fit (clip_in l)) 31 0)))
unfolding clip_in write_refusal pairs_counted
refusal_is l =
    let later = unless (are_letters l.scalars.letters) 40 (unless (cells_fit (clip_in l)) 30 (unless (runs_fit (clip_in l)) 31 0)) in
    unless_both (all_stated l) (counts_add (clip_in l)) 22 later ∙ ap (λ (b : Bool). unless b 22 later) (sym (all_counted l))

-- a refusal is told
pub refused_by : (refusal : ℕ) (c : Clip) (r : Refusal) → refusal ≡ number_of r → Err (number_of r) ≡ measured_by refusal c
unfolding measured_by
refused_by refusal c r e = rw (e, ne_eqb (number_of r) 0 (λ z. omega (arith, number_positive r)))

-- without one, the places are told
pub places_by : (refusal : ℕ) (c : Clip) {programs cpi marks : ℕ} → refusal ≡ 0 → programs ≡ programs_place c → cpi ≡ cpi_place c → marks ≡ marks_place c
    → Ok (record { programs = programs; cpi = cpi; marks = marks }) ≡ measured_by refusal c
unfolding measured_by
places_by refusal c e p q m = rw (e, p, q, m)

-- ---- what the answer says of the refusal

-- of places and a refusal, chosen by a test: the refusal is told where the test fails, the places where it passes
told_refused : (b : Bool) (at : Places) (r : ℕ) {n : ℕ} → pick b (Ok at) (Err r) ≡ Err n → (b ≡ false) × (r ≡ n)
told_refused b at r h = let p = not_picked b (λ e. let z : ◌≡◌ {A = ℕ} 0 1 = cc in omega arith) h in (p.0, cc p.1)

-- places that are told are those that were given
told_placed : (b : Bool) (at : Places) (r : ℕ) {at' : Places} → pick b (Ok at) (Err r) ≡ Ok at' → (b ≡ true) × (at' ≡ at)
told_placed b at r h = let p = picked b (λ e. let z : ◌≡◌ {A = ℕ} 0 1 = cc in omega arith) h in (p.0, cc p.1)

module _ (refusal : ℕ) (c : Clip) {m : Result Places Refusal} (is : numbered m ≡ measured_by refusal c) where
  -- a refusal that is told is the record's, and is not 0
  pub refused_told : {r : Refusal} → m ≡ Err r → (eqb refusal 0 ≡ false) × (refusal ≡ number_of r)
  unfolding measured_by
  refused_told told = told_refused (eqb refusal 0) (places_of c) refusal (sym is ∙ ap numbered told)

  -- where places are told, there is no refusal
  pub none_told : {at : Places} → m ≡ Ok at → refusal ≡ 0
  unfolding measured_by
  none_told told = eqb-true refusal 0 (told_placed (eqb refusal 0) (places_of c) refusal (sym is ∙ ap numbered told)).0

  -- they are the places of the record's sections, where the output has room
  pub placed_told : {at : Places} (bytes : ℕ) → m ≡ Ok at → at.marks + 6 ≤ bytes → Placed c at.programs at.cpi at.marks bytes
  unfolding measured_by
  placed_told bytes told h =
      let same = (told_placed (eqb refusal 0) (places_of c) refusal (sym is ∙ ap numbered told)).1 in
      record { programs_at = ap (λ (p : Places). p.programs) same; cpi_at = ap (λ (p : Places). p.cpi) same; marks_at = ap (λ (p : Places). p.marks) same; room = h }
