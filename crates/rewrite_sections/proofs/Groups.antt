-- The items of a section, one behind the other: of the sequences the very bytes of the file, of the programs their new bytes.
use Prim.Native.Nat.{ℕ, zero, suc, ◌+◌, ◌*◌, ◌-◌, ◌≤◌}
use mathlib.Core.Path.{◌≡◌, refl, sym, ap, ap₂, ◌∙◌}
use mathlib.Core.List.{List, [], ◌∷◌, ◌++◌}
use native.Mathlib.Nat.{le_trans}
use native.Mathlib.Omega.{arith}
use lib.ListN.{length, length-append}
use lib.Seq.{sets, length-sets, take_at, drop_at}
use Rattle.format.specs.Bytes.{IsBytes, be_at, rows_at, gather, end_of, flat, part}
use Rattle.format.specs.ClipRecord.{Row, atc_stc_count, stream_count, sequences_start, programs_start, atc_at, stc_at, next_stc, stcs_of, next_atc, atcs_from, stcs_from, sequences_end}
use Rattle.format.specs.Programs.{program_at, stream_at, next_stream, streams_of, next_program, programs_from, streams_from, programs_end}
use Rattle.format.specs.Reading.{clip_of}
use Rattle.format.specs.Rewriting.{groups, atc_bytes, stc_bytes, sequences_bytes, program_bytes, stream_bytes, programs_bytes}
use Rattle.format.proofs.Loops.{end_ge}
use Rattle.format.proofs.Places.{up_stc, atc_head, up_atc, up_program}
use Rattle.format.proofs.Rows.{rows_length}
use Rattle.format.proofs.Sweep.{end_steps}
use Rattle.format.proofs.Stores.{part_then}
use Rattle.section_heads.proofs.Stored.{section_head, section_head_lem}
use Rattle.rewrite_sections.specs.Sections.{new_sequences, new_items, new_programs}
use Rattle.format.proofs.Lists.{part_length, part_two}
use Rattle.rewrite_sections.proofs.Parts.{fields_part, items_part}

-- ---- any kind of items

-- the bytes of rows, joined
pub flat_gather : {A : Type 0} (bytes : A → List ℕ) (row : ℕ → A) (next : ℕ → ℕ) (p n : ℕ)
    → flat bytes (rows_at row next p n) ≡ gather (λ q. bytes (row q)) next p n
flat_gather bytes row next p zero = refl
flat_gather bytes row next p (suc n) = ap (λ (l : List ℕ). bytes (row p) ++ l) (flat_gather bytes row next (next p) n)

-- headers that were read with as many rows behind each as it counts: header and rows, and then the next
pub groups_gather : (head : Row → List ℕ) (count : Row → ℕ) (bytes : Row → List ℕ) (head_at : ℕ → Row) (rows : ℕ → List Row) (next : ℕ → ℕ)
    → ((q : ℕ) → length (rows q) ≡ count (head_at q)) → (p n : ℕ)
    → groups head count bytes (rows_at head_at next p n) (gather rows next p n) ≡ gather (λ q. head (head_at q) ++ flat bytes (rows q)) next p n
groups_gather head count bytes head_at rows next h p zero = refl
groups_gather head count bytes head_at rows next h p (suc n) =
    let later = gather rows next (next p) n in
    rw (take_at (rows p) later (count (head_at p)) (h p), drop_at (rows p) later (count (head_at p)) (h p), groups_gather head count bytes head_at rows next h (next p) n)

-- ---- sequences

module _ (f : List ℕ) (bytes : IsBytes f) where
  -- an STC is stored as its own bytes
  stc_part : (q : ℕ) → next_stc q ≤ length f → stc_bytes (stc_at f q) ≡ part f q (next_stc q - q)
  stc_part q h =
      let a : q + 2 + 4 ≡ q + 6 = omega arith in
      let b : q + 6 + 4 ≡ q + 10 = omega arith in
      let d : q + 14 - q ≡ 14 = omega arith in
      rw d (rw (a, b) at (fields_part f bytes (2 ∷ 4 ∷ 4 ∷ 4 ∷ []) q h))

  -- so are the six bytes of an ATC
  atc_part : (q : ℕ) → q + 6 ≤ length f → atc_bytes (atc_at f q) ≡ part f q 6
  atc_part q h =
      let a : q + 4 + 1 ≡ q + 5 = omega arith in
      rw a at (fields_part f bytes (4 ∷ 1 ∷ 1 ∷ []) q h)

  -- and an ATC with its STCs
  group_part : (q : ℕ) → next_atc f q ≤ length f → atc_bytes (atc_at f q) ++ flat stc_bytes (stcs_of f q) ≡ part f q (next_atc f q - q)
  group_part q h =
      let n = be_at f (q + 4) 1 in
      let head = atc_head f q in
      let all : 6 + (next_atc f q - (q + 6)) ≡ next_atc f q - q = omega arith in
      let rows = flat_gather stc_bytes (stc_at f) next_stc (q + 6) n ∙ items_part f (λ p. stc_bytes (stc_at f p)) next_stc up_stc stc_part (q + 6) n h in
      ap₂ (λ (x y : List ℕ). x ++ y) (atc_part q (omega arith)) rows ∙ sym (part_two f q 6 (next_atc f q - (q + 6))) ∙ ap (part f q) all

  -- the items of the sequences are the very bytes of the file, up to the section's end
  pub sequences_part : (start : ℕ) → sequences_end f start ≤ length f
      → groups atc_bytes atc_stc_count stc_bytes (atcs_from f start) (stcs_from f start) ≡ part f (start + 6) (sequences_end f start - (start + 6))
  unfolding atcs_from stcs_from sequences_end
  sequences_part start h =
      let n = be_at f (start + 5) 1 in
      groups_gather atc_bytes atc_stc_count stc_bytes (atc_at f) (stcs_of f) (next_atc f) (λ q. rows_length (stc_at f) next_stc (q + 6) (be_at f (q + 4) 1)) (start + 6) n
      ∙ items_part f (λ q. atc_bytes (atc_at f q) ++ flat stc_bytes (stcs_of f q)) (next_atc f) (up_atc f) group_part (start + 6) n h

-- six bytes for each ATC, and fourteen for each STC
atcs_end : (f : List ℕ) (p n : ℕ) → end_of (next_atc f) p n ≡ p + (6 * n + 14 * length (gather (stcs_of f) (next_atc f) p n))
atcs_end f p zero = omega arith
atcs_end f p (suc n) =
    let own = stcs_of f p in
    let later = gather (stcs_of f) (next_atc f) (next_atc f p) n in
    let c = be_at f (p + 4) 1 in
    omega (arith, atcs_end f (next_atc f p) n, end_steps 14 (p + 6) c, length-append own later, rows_length (stc_at f) next_stc (p + 6) c)

module _ (f : List ℕ) (start : ℕ) where
  -- where the section ends, by its counts
  pub sequences_end_lem : sequences_end f start ≡ start + 6 + (6 * length (atcs_from f start) + 14 * length (stcs_from f start))
  unfolding atcs_from stcs_from sequences_end
  sequences_end_lem = rw (rows_length (atc_at f) (next_atc f) (start + 6) (be_at f (start + 5) 1)) (atcs_end f (start + 6) (be_at f (start + 5) 1))

  -- the new section: its head, and the bytes of the file
  pub sequences_are : IsBytes f → sequences_end f start ≤ length f → {atcs stcs : ℕ} → atcs ≡ length (atcs_from f start) → stcs ≡ length (stcs_from f start)
      → new_sequences f start ≡ section_head (2 + (6 * atcs + 14 * stcs)) atcs ++ part f (start + 6) (6 * atcs + 14 * stcs)
  unfolding new_sequences
  sequences_are bytes h {atcs} {stcs} a b =
      let items = 6 * atcs + 14 * stcs in
      let size : sequences_end f start - (start + 6) ≡ items = omega (arith, sequences_end_lem) in
      let is = sequences_part f bytes start h ∙ ap (λ (n : ℕ). part f (start + 6) n) size in
      let long : length (part f (start + 6) items) ≡ items = part_length f (start + 6) items (omega (arith, sequences_end_lem)) in
      rw (is, long, ← a)

-- ---- programs

module _ (f : List ℕ) (start : ℕ) {n : ℕ} (count : n ≡ be_at f (start + 5) 1) where
  -- the new section: its head, and the programs with their streams
  pub programs_are : new_programs f start ≡ section_head (2 + length (new_items f (start + 6) n)) n ++ new_items f (start + 6) n
  unfolding new_programs programs_from streams_from
  programs_are =
      let m = be_at f (start + 5) 1 in
      let items = groups_gather program_bytes stream_count stream_bytes (program_at f) (streams_of f) (next_program f) (λ q. rows_length (stream_at f) (next_stream f) (q + 8) (be_at f (q + 6) 1)) (start + 6) m in
      rw (rows_length (program_at f) (next_program f) (start + 6) m, items, ← count)

  -- six bytes and those of the items
  pub programs_long : length (new_programs f start) ≡ 6 + length (new_items f (start + 6) n)
  programs_long =
      let items = new_items f (start + 6) n in
      ap length programs_are ∙ length-append (section_head (2 + length items) n) items ∙ rw (section_head_lem (2 + length items) n)

  -- once the head is stored, the items have room
  pub items_room : {size : ℕ} → size ≡ length (new_programs f start) → (o : List ℕ) (at : ℕ) (head : List ℕ) {o' : List ℕ} → at + size ≤ length o
      → o' ≡ sets o at head → at + 6 + length (new_items f (start + 6) n) ≤ length o'
  items_room long o at head h e = rw (e, length-sets o at head) (omega (arith, long, programs_long))

  -- the head is stored, and the items behind it
  pub programs_put : {size : ℕ} → size ≡ length (new_programs f start) → (o : List ℕ) (at : ℕ) {o' o'' : List ℕ}
      → o' ≡ sets o at (section_head (size - 4) n) → o'' ≡ sets o' (at + 6) (new_items f (start + 6) n)
      → o'' ≡ sets o at (new_programs f start)
  programs_put {size} long o at e h =
      let items = new_items f (start + 6) n in
      let rest : size - 4 ≡ 2 + length items = omega (arith, long, programs_long) in
      part_then o at 6 (section_head (size - 4) n) items (section_head_lem (size - 4) n) refl e h
      ∙ ap (λ (k : ℕ). sets o at (section_head k n ++ items)) rest
      ∙ ap (sets o at) (sym programs_are)

  -- the items end within the file
  pub items_within : programs_end f start ≤ length f → end_of (next_program f) (start + 6) n ≤ length f
  unfolding programs_end
  items_within h = rw count h

  -- so does the head
  pub head_within : programs_end f start ≤ length f → start + 6 ≤ length f
  head_within h = le_trans (end_ge (next_program f) (up_program f) (start + 6) n) (items_within h)

-- ---- the record of a file

-- its sequences and its programs are the new sections of the file
pub sequences_of_lem : (f : List ℕ) → sequences_bytes (clip_of f) ≡ new_sequences f (sequences_start f)
unfolding sequences_bytes clip_of new_sequences
sequences_of_lem f = refl

-- the programs of a file's record are the new section of those in the file
pub programs_of_lem : (f : List ℕ) → programs_bytes (clip_of f) ≡ new_programs f (programs_start f)
unfolding programs_bytes clip_of new_programs
programs_of_lem f = refl
