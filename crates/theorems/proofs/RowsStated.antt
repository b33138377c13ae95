-- Rows stated and rows that are there: by the tests that compare them.
use Prim.Native.Nat.{ℕ, ◌+◌, ◌*◌, ◌/◌, ◌<◌}
use mathlib.Core.Path.{◌≡◌, refl, ap, ◌∙◌}
use mathlib.Core.List.{List, [], ◌∷◌, Memᴰ}
use mathlib.Core.Bool.{Bool, true, false}
use native.Mathlib.Omega.{arith}
use lib.ListN.{length}
use lib.Dec.{leb, ltb}
use borrow.Author.Tests.{leb-true, lt-leb, le-leb, ltb-true, lt-ltb}
use Rattle.format.specs.Bytes.{part, both, every, unless}
use Rattle.format.specs.ClipRecord.{Row}
use Rattle.format.specs.Extensions.{data_start, data_length, data_in}
use Rattle.format.specs.Tables.{Table, ClipTables, clip_in, cell_at, cells_at, table_rows_of}
use Rattle.format.specs.Questions.{Question, Answer, Part, parts_of, part_stated, answer, ask}
use Rattle.format.specs.Refusals.{stated_of, WriteAnswer, write_answer, all_stated, data_refusal, data_asked, data_numbers, extension_row}
use Rattle.format.proofs.Cell.{item_at}
use Rattle.format.proofs.Lists.{All, all_map, all_every, one_fails}
use Rattle.theorems.specs.RowsStated.{TooMany, all_six, data_start_in, data_length_in, HasData, RowsStated}

-- ---- the tests of a table

-- the test of a part fails where too many rows are stated
fails : (l : ClipTables) (p : Part) → TooMany l p → part_stated l p ≡ false
fails l Part.scalars h = absurd h
fails l Part.atcs h = lt-leb l.atcs.rows (length l.atcs.bytes / 12) (omega arith)
fails l Part.stcs h = lt-leb l.stcs.rows (length l.stcs.bytes / 16) (omega arith)
fails l Part.programs h = lt-leb l.programs.rows (length l.programs.bytes / 12) (omega arith)
fails l Part.streams h = lt-leb l.streams.rows (length l.streams.bytes / 20) (omega arith)
fails l Part.maps h = lt-leb l.maps.rows (length l.maps.bytes / 12) (omega arith)
fails l Part.entries h = lt-leb l.entries.rows (length l.entries.bytes / 24) (omega arith)

-- and passes where not
pub passes : (l : ClipTables) (p : Part) → (TooMany l p → ⊥) → part_stated l p ≡ true
passes l Part.scalars h = refl
passes l Part.atcs h = le-leb l.atcs.rows (length l.atcs.bytes / 12) (omega arith)
passes l Part.stcs h = le-leb l.stcs.rows (length l.stcs.bytes / 16) (omega arith)
passes l Part.programs h = le-leb l.programs.rows (length l.programs.bytes / 12) (omega arith)
passes l Part.streams h = le-leb l.streams.rows (length l.streams.bytes / 20) (omega arith)
passes l Part.maps h = le-leb l.maps.rows (length l.maps.bytes / 12) (omega arith)
passes l Part.entries h = le-leb l.entries.rows (length l.entries.bytes / 24) (omega arith)

-- nothing behind the last
last : (b : Bool) → both b true ≡ b
last true = refl
last false = refl

-- writing tests all six
pub six_stated : (l : ClipTables) → all_stated l ≡ every (part_stated l) all_six
unfolding all_stated
six_stated l = rw (last (part_stated l Part.entries))

-- ---- an extension's data

-- the row's last two cells
start_is : (t : Table) (k : ℕ) → k < t.rows → data_start (extension_row t k) ≡ data_start_in t k
unfolding table_rows_of
start_is t k h =
    let e : 0 + 16 * k + 4 + 4 ≡ 16 * k + 8 = omega arith in
    ap (λ (r : Row). data_start r) (item_at (cells_at t.bytes 4) [] 16 0 t.rows k h) ∙ ap (cell_at t.bytes) e

-- the length
length_is : (t : Table) (k : ℕ) → k < t.rows → data_length (extension_row t k) ≡ data_length_in t k
unfolding table_rows_of
length_is t k h =
    let e : 0 + 16 * k + 4 + 4 + 4 ≡ 16 * k + 12 = omega arith in
    ap (λ (r : Row). data_length r) (item_at (cells_at t.bytes 4) [] 16 0 t.rows k h) ∙ ap (cell_at t.bytes) e

module _ (f : List ℕ) (t : Table) (k : ℕ) where
  -- data that is there is not refused
  not_refused : HasData f t k → data_refusal f t k ≡ 0
  unfolding data_refusal
  not_refused h =
      let there = h.rows in
      rw (
        le-leb t.rows (length t.bytes / 16) (omega arith),
        lt-ltb k t.rows h.row,
        start_is t k h.row,
        length_is t k h.row,
        le-leb (data_start_in t k + data_length_in t k) (length f) h.within,
      )

  -- so it is given
  data_given : HasData f t k → (data_asked f t k ≡ part f (data_start_in t k) (data_length_in t k)) × (data_numbers f t k ≡ 0 ∷ data_start_in t k ∷ data_length_in t k ∷ [])
  unfolding data_asked
  data_given h =
      let a = start_is t k h.row in
      let b = length_is t k h.row in
      (rw (not_refused h, a, b), rw (not_refused h, a, b))

  -- else one of the three tests fails
  refused_22 : (HasData f t k → ⊥) → data_refusal f t k ≡ 22
  unfolding data_refusal
  refused_22 h = go (leb t.rows (length t.bytes / 16)) refl (ltb k t.rows) refl (data_in f (extension_row t k)) refl
    where
      go : (a : Bool) → leb t.rows (length t.bytes / 16) ≡ a → (b : Bool) → ltb k t.rows ≡ b → (d : Bool) → data_in f (extension_row t k) ≡ d
          → unless a 22 (unless b 22 (unless d 22 0)) ≡ 22
      go false p b q d r = refl
      go true p false q d r = refl
      go true p true q false r = refl
      go true p true q true r =
          let there = leb-true t.rows (length t.bytes / 16) p in
          let row = ltb-true k t.rows q in
          let within = leb-true (data_start (extension_row t k) + data_length (extension_row t k)) (length f) r in
          absurd (h (record { rows = omega arith; row = row; within = rw (start_is t k row, length_is t k row) at within }))

  -- and nothing is given
  no_data_given : (HasData f t k → ⊥) → (data_asked f t k ≡ []) × (data_numbers f t k ≡ 22 ∷ 0 ∷ 0 ∷ [])
  unfolding data_asked
  no_data_given h = (rw (refused_22 h), rw (refused_22 h))

-- ---- the statements together

-- a question
asked_22 : (q : Question) (l : ClipTables) (p : Part) → Memᴰ p (parts_of q) → TooMany l p → ask q l ≡ Answer.refused 22
unfolding ask
asked_22 q l p m h = rw (one_fails (part_stated l) m (fails l p h))

-- one whose tables are long enough
asked_of : (q : Question) (l : ClipTables) → All (λ p. TooMany l p → ⊥) (parts_of q) → ask q l ≡ answer q (clip_in l)
unfolding ask
asked_of q l h = rw (all_every (part_stated l) (all_map (passes l) h))

-- writing
written_22 : (l : ClipTables) (p : Part) → Memᴰ p all_six → TooMany l p → (out : List ℕ) → write_answer l out ≡ WriteAnswer.refused 22
unfolding write_answer
written_22 l p m h out = rw (six_stated l ∙ one_fails (part_stated l) m (fails l p h))

-- all of it
pub rows_stated : RowsStated
unfolding stated_of
rows_stated = record {
  entry_bytes = refl;
  too_many = asked_22;
  not_too_many = asked_of;
  too_many_written = written_22;
  has_data = data_given;
  no_data = no_data_given;
  stated = λ f. (refl, refl, refl);
}
