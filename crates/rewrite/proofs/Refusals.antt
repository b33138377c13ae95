-- The refusal of a file, from what was measured of it, and what its absence says.
use Prim.Native.Nat.{ℕ, ◌+◌, ◌^◌, ◌<◌, ◌≤◌}
use mathlib.Core.Path.{◌≡◌, refl, sym, ap, ◌∙◌}
use mathlib.Core.List.{List}
use mathlib.Core.Bool.{Bool, true, false}
use native.Mathlib.Omega.{arith}
use lib.ListN.{length}
use lib.Dec.{eqb}
use borrow.Author.Tests.{eqb-true, eq-eqb}
use Rattle.std.specs.Prelude.{Ok, Err}
use Rattle.format.specs.Bytes.{IsBytes, pick, unless}
use Rattle.format.specs.ClipRecord.{cpi_start}
use Rattle.format.specs.EntryPoints.{maps_from, entries_from}
use Rattle.format.specs.Reading.{clip_of}
use Rattle.format.specs.Rewriting.{cpi_bytes, encode}
use Rattle.format.specs.Refusals.{every_map, refusal_of, runs_fit, WriteAnswer}
use Rattle.refusals.specs.Numbers.{number_of}
use Rattle.refusals.specs.declared.Refusal.{Refusal}
use Rattle.format.proofs.Read.{narrow, good_clip}
use Rattle.format.proofs.Tests.{picked, not_picked}
use Rattle.clip_sections.specs.Clips.{counted_of, sections_of}
use Rattle.encode_cpi.specs.Cpi.{few_runs, cpi_length_of}
use Rattle.encode_cpi.proofs.Lengths.{length_said}
use Rattle.encode_measure.specs.Places.{programs_place, cpi_place, marks_place}
use Rattle.encode.specs.Writing.{bytes_in}
use Rattle.encode_measure.proofs.Parts.{good_short, encode_length}
use Rattle.encode.proofs.Answers.{bytes_narrow}
use Rattle.rewrite.specs.declared.measure.Plan.{Plan}
use Rattle.rewrite.specs.Rewrite.{rewrite_refusal, plan_of, planned_of, Ready, LengthAnswer, refused, bytes, length_answer, length_in, rewrite_answer}

-- ---- choices by a test

-- of a value and a refusal, the refusal is told where the test fails
err_told : {A E : Type 0} (b : Bool) (x : A) {r n : E} → pick b (Ok x) (Err r) ≡ Err n → (b ≡ false) × (r ≡ n)
err_told b x h = let t = not_picked b (λ e. cc) h in (t.0, cc t.1)

-- and the value where it passes
ok_told : {A E : Type 0} (b : Bool) (r : E) {x y : A} → pick b (Ok x) (Err r) ≡ Ok y → (b ≡ true) × (x ≡ y)
ok_told b r h = let t = picked b (λ e. cc) h in (t.0, cc t.1)

-- no refusal of either kind
neither : (c : Bool) (r : ℕ) → eqb r 0 ≡ c → (b : Bool) → pick c (unless b 31 0) r ≡ 0 → (r ≡ 0) × (b ≡ true)
neither true r e true h = (eqb-true r 0 e, refl)
neither true r e false h = absurd (omega (arith, h))
neither false r e b h =
    let t : eqb r 0 ≡ true = eq-eqb r 0 h in
    let z : ◌≡◌ {A = ℕ} 0 1 = cc in
    absurd (omega arith)

module _ (f : List ℕ) where
  -- ---- a refusal

  -- a refusal that is not 0 is what the plan tells
  plan_is : (n : ℕ) → eqb n 0 ≡ false → rewrite_refusal f ≡ n → Err n ≡ planned_of f
  unfolding planned_of
  plan_is n h e = rw (e, h)

  -- that of reading
  pub reading_refuses : {n : ℕ} → Err n ≡ sections_of f → Err n ≡ planned_of f
  unfolding sections_of
  reading_refuses {n} h =
      let told = err_told (eqb (refusal_of f) 0) (counted_of f) (sym h) in
      let is : rewrite_refusal f ≡ n = rw told.0 told.1 in
      plan_is n (rw told.1 at told.0) is

  -- the runs of a map, for the refusal of the CPI's length
  pub runs_refuse : {start : ℕ} {refusal : Refusal} → refusal_of f ≡ 0 → start ≡ cpi_start f → Err refusal ≡ cpi_length_of (maps_from f start) (entries_from f start)
      → Err (number_of refusal) ≡ planned_of f
  unfolding clip_of runs_fit cpi_length_of
  runs_refuse e here is =
      let told = err_told (every_map few_runs (maps_from f (cpi_start f)) (entries_from f (cpi_start f))) _ (sym (rw here at is)) in
      rw (← told.1) (plan_is 31 refl (rw (e, told.0)))

  -- ---- none

  -- where the CPI's length is answered no map has too many runs, and that length is the new CPI's
  pub runs_pass : {start n : ℕ} → start ≡ cpi_start f → Ok n ≡ cpi_length_of (maps_from f start) (entries_from f start)
      → (runs_fit (clip_of f) ≡ true) × (n ≡ length (cpi_bytes (clip_of f)))
  unfolding clip_of runs_fit cpi_bytes
  runs_pass {start} {n} here is = length_said (maps_from f (cpi_start f)) (entries_from f (cpi_start f)) (sym (rw here at is))

  -- a file that reading accepts and whose runs fit is not refused
  pub none : refusal_of f ≡ 0 → runs_fit (clip_of f) ≡ true → rewrite_refusal f ≡ 0
  none e h = rw (e, h)

  -- a file that is not refused was accepted by reading, and its runs fit
  pub passed : rewrite_refusal f ≡ 0 → (refusal_of f ≡ 0) × (runs_fit (clip_of f) ≡ true)
  passed h = neither (eqb (refusal_of f) 0) (refusal_of f) refl (runs_fit (clip_of f)) h

  -- the new file is short
  pub marks_short : IsBytes f → rewrite_refusal f ≡ 0 → marks_place (clip_of f) + 6 ≤ 402515706
  marks_short b h = good_short (clip_of f) (narrow (clip_of f) (good_clip f b) (passed h).1)

  -- the counts and places
  pub planned_by : {a s m p q k : ℕ} → rewrite_refusal f ≡ 0 → a ≡ length (clip_of f).atcs → s ≡ length (clip_of f).stcs → m ≡ length (clip_of f).maps
      → p ≡ programs_place (clip_of f) → q ≡ cpi_place (clip_of f) → k ≡ marks_place (clip_of f) → Ok (record { atcs = a; stcs = s; maps = m; places = record { programs = p; cpi = q; marks = k } }) ≡ planned_of f
  unfolding planned_of
  planned_by e a s m p q k = rw (e, a, s, m, p, q, k)

  -- ---- what the plan says

  -- a refusal that the plan tells is the file's, and not 0
  pub refusal_told : {n : ℕ} → Err n ≡ planned_of f → (eqb (rewrite_refusal f) 0 ≡ false) × (rewrite_refusal f ≡ n)
  unfolding planned_of
  refusal_told is = err_told (eqb (rewrite_refusal f) 0) (plan_of (clip_of f)) (sym is)

  -- counts and places that the plan tells are the file's, and an output that holds the six bytes of its marks has room
  pub ready_told : {plan : Plan} (size : ℕ) → Ok plan ≡ planned_of f → plan.places.marks + 6 ≤ size → Ready f plan size
  unfolding planned_of
  ready_told size is h =
      let told = ok_told (eqb (rewrite_refusal f) 0) (rewrite_refusal f) (sym is) in
      let same = sym told.1 in
      record {
        rewritable = eqb-true (rewrite_refusal f) 0 told.0;
        atcs_are = ap (λ (p : Plan). p.atcs) same;
        stcs_are = ap (λ (p : Plan). p.stcs) same;
        maps_are = ap (λ (p : Plan). p.maps) same;
        placed = record { programs_at = ap (λ (p : Plan). p.places.programs) same; cpi_at = ap (λ (p : Plan). p.places.cpi) same; marks_at = ap (λ (p : Plan). p.places.marks) same; room = h };
      }

  -- ---- the length alone

  -- of a file that is refused the refusal is told
  pub length_refuses : {n : ℕ} → (eqb (rewrite_refusal f) 0 ≡ false) × (rewrite_refusal f ≡ n) → refused n ≡ length_answer f
  unfolding length_answer
  length_refuses h = rw (h.0, h.1)

  -- of any other the place of its marks in the new file, and their six bytes more
  pub length_tells : {marks : ℕ} → rewrite_refusal f ≡ 0 → marks ≡ marks_place (clip_of f) → bytes (marks + 6) ≡ length_answer f
  unfolding length_answer
  length_tells e m = rw (e, encode_length (clip_of f), m)

  -- ---- lengths of 32 bits

  -- of a length of 32 bits or a refusal, either tells a length of 32 bits, as beside a refusal it is 0
  length_narrow_by : (b : Bool) (n r : ℕ) → (b ≡ true → n < 2 ^ 32) → length_in (pick b (bytes n) (refused r)) < 2 ^ 32
  length_narrow_by true n r h = h refl
  length_narrow_by false n r h = omega arith

  -- the new file's length
  new_narrow : IsBytes f → rewrite_refusal f ≡ 0 → length (encode (clip_of f)) < 2 ^ 32
  new_narrow b e = omega (arith, encode_length (clip_of f), marks_short b e)

  -- and so the length that is told
  pub length_narrow : IsBytes f → {x : LengthAnswer} → x ≡ length_answer f → length_in x < 2 ^ 32
  unfolding length_answer
  length_narrow b is =
      rw is (length_narrow_by (eqb (rewrite_refusal f) 0) (length (encode (clip_of f))) (rewrite_refusal f) (λ e. new_narrow b (eqb-true (rewrite_refusal f) 0 e)))

  -- written or needed
  pub answer_narrow : IsBytes f → (out : List ℕ) {x : WriteAnswer} → x ≡ rewrite_answer f out → bytes_in x < 2 ^ 32
  unfolding rewrite_answer
  answer_narrow b out is = rw is (bytes_narrow (rewrite_refusal f) (clip_of f) out (new_narrow b))
