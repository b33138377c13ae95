-- 21 and 23: which table is too short and how many rows it needs, how long an output must be, and what comes before both.
use Rattle.std.specs.Prelude.{ℕ, ◌+◌, ◌/◌, ◌≤◌, ◌<◌, ◌≡◌, List, [], ◌∷◌, ◌++◌, length}
use Rattle.format.specs.ClipRecord.{Row}
use Rattle.format.specs.Rewriting.{encode}
use Rattle.format.specs.Tables.{Nine, ClipTables, clip_in}
use Rattle.format.specs.Refusals.{tables_of, refusal_of, stated_of, ReadAnswer, read_answer, WriteAnswer, write_refusal, write_answer}
use Rattle.format.proofs.Lists.{All}
use Rattle.theorems.specs.RowsStated.{TooMany, all_six}

-- ---- reading

-- a table: the rows that a file has for it, and the rows that it has room for
pub record Needs : Type 0 where
  pub needed : ℕ
  pub room : ℕ

-- rows of a table that has so many bytes, a row having so many
abbrev pub needs : List Row → List ℕ → ℕ → Needs
needs rows t bytes = record { needed = length rows; room = length t / bytes }

-- tables 1 to 9 in their order
abbrev pub all_needs : List ℕ → Nine (List ℕ) → List Needs
all_needs f t =
    let rows = tables_of f in
    needs rows.atcs t.atcs 12
    ∷ needs rows.stcs t.stcs 16
    ∷ needs rows.programs t.programs 12
    ∷ needs rows.streams t.streams 20
    ∷ needs rows.maps t.maps 12
    ∷ needs rows.entries t.entries 24
    ∷ needs rows.extensions t.extensions 16
    ∷ needs rows.list_programs t.list_programs 12
    ∷ needs rows.list_streams t.list_streams 20
    ∷ []

-- long enough
abbrev pub Suffices : Needs → Type 0
Suffices n = n.needed ≤ n.room

-- ---- all of it

-- the statements together
pub record TooShort : Type 0 where
  -- a file that is refused is refused whatever the tables are
  pub file_first : (f : List ℕ) (t : Nine (List ℕ)) → (refusal_of f ≡ 0 → ⊥) → read_answer f t ≡ ReadAnswer.refused (refusal_of f)
  -- else 21 names the first table that does not suffice, counted from 1, and the rows that it needs
  pub table : (f : List ℕ) (t : Nine (List ℕ)) (before : List Needs) (n : Needs) (behind : List Needs) → all_needs f t ≡ before ++ (n ∷ behind)
      → refusal_of f ≡ 0 → All Suffices before → n.room < n.needed → read_answer f t ≡ ReadAnswer.too_short (1 + length before) n.needed
  -- and a file is accepted where all suffice
  pub no_table : (f : List ℕ) (t : Nine (List ℕ)) → refusal_of f ≡ 0 → All Suffices (all_needs f t) → read_answer f t ≡ ReadAnswer.accepted (stated_of f)
  -- writing: what the record is refused for comes before the output, which must have the new file's length
  pub record_first : (l : ClipTables) (out : List ℕ) → All (λ p. TooMany l p → ⊥) all_six → (write_refusal (clip_in l) ≡ 0 → ⊥)
      → write_answer l out ≡ WriteAnswer.refused (write_refusal (clip_in l))
  pub output : (l : ClipTables) (out : List ℕ) → All (λ p. TooMany l p → ⊥) all_six → write_refusal (clip_in l) ≡ 0
      → length out < length (encode (clip_in l)) → write_answer l out ≡ WriteAnswer.too_short (length (encode (clip_in l)))
  pub no_output : (l : ClipTables) (out : List ℕ) → All (λ p. TooMany l p → ⊥) all_six → write_refusal (clip_in l) ≡ 0
      → length (encode (clip_in l)) ≤ length out → write_answer l out ≡ WriteAnswer.written (length (encode (clip_in l)))
