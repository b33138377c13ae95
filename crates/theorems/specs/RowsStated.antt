-- 22 where more rows are stated than a table has, for questions, for writing and for an extension's data; what reading states.
use Rattle.std.specs.Prelude.{ℕ, ◌+◌, ◌*◌, ◌≤◌, ◌<◌, ◌≡◌, length}
use mathlib.Core.List.{List, [], ◌∷◌, Memᴰ}
use Rattle.format.specs.Bytes.{part}
use Rattle.format.specs.ClipRecord.{entry_size}
use Rattle.format.specs.Tables.{Table, ClipTables, clip_in, cell_at}
use Rattle.format.specs.Questions.{Question, Answer, Part, parts_of, answer, ask}
use Rattle.format.specs.Reading.{record_of}
use Rattle.format.specs.Refusals.{stated_of, WriteAnswer, write_answer, data_asked, data_numbers}
use Rattle.format.proofs.Lists.{All}

-- ---- rows stated and rows that are there

-- more rows are stated to be in a table than it has bytes for: four for each cell; a row of table 6 has six cells
abbrev pub TooMany : ClipTables → Part → Type 0
TooMany l Part.scalars = ⊥
TooMany l Part.atcs = length l.atcs.bytes < 12 * l.atcs.rows
TooMany l Part.stcs = length l.stcs.bytes < 16 * l.stcs.rows
TooMany l Part.programs = length l.programs.bytes < 12 * l.programs.rows
TooMany l Part.streams = length l.streams.bytes < 20 * l.streams.rows
TooMany l Part.maps = length l.maps.bytes < 12 * l.maps.rows
TooMany l Part.entries = length l.entries.bytes < 24 * l.entries.rows

-- tables 1 to 6, which writing is handed
abbrev pub all_six : List Part
all_six = Part.atcs ∷ Part.stcs ∷ Part.programs ∷ Part.streams ∷ Part.maps ∷ Part.entries ∷ []

-- ---- an extension's data

-- row k of table 7 tells in its last two cells where the data starts and how long it is; a row has 16 bytes
abbrev pub data_start_in : Table → ℕ → ℕ
data_start_in t k = cell_at t.bytes (16 * k + 8)

abbrev pub data_length_in : Table → ℕ → ℕ
data_length_in t k = cell_at t.bytes (16 * k + 12)

-- the rows stated are there, row k is one of them, and its data lies inside the file
pub record HasData (f : List ℕ) (t : Table) (k : ℕ) : Type 0 where
  pub rows : 16 * t.rows ≤ length t.bytes
  pub row : k < t.rows
  pub within : data_start_in t k + data_length_in t k ≤ length f

-- ---- all of it

-- the statements together
pub record RowsStated : Type 0 where
  -- the row of an entry has 24 bytes
  pub entry_bytes : entry_size ≡ 24
  -- 22 where too many rows are stated for a table that the question looks at; else what the record in the tables answers
  pub too_many : (q : Question) (l : ClipTables) (p : Part) → Memᴰ p (parts_of q) → TooMany l p → ask q l ≡ Answer.refused 22
  pub not_too_many : (q : Question) (l : ClipTables) → All (λ p. TooMany l p → ⊥) (parts_of q) → ask q l ≡ answer q (clip_in l)
  -- writing refuses with 22 too, whatever the output
  pub too_many_written : (l : ClipTables) (p : Part) → Memᴰ p all_six → TooMany l p → (out : List ℕ) → write_answer l out ≡ WriteAnswer.refused 22
  -- the data of an extension is that part of the file, or 22 and nothing
  pub has_data : (f : List ℕ) (t : Table) (k : ℕ) → HasData f t k
      → (data_asked f t k ≡ part f (data_start_in t k) (data_length_in t k)) × (data_numbers f t k ≡ 0 ∷ data_start_in t k ∷ data_length_in t k ∷ [])
  pub no_data : (f : List ℕ) (t : Table) (k : ℕ) → (HasData f t k → ⊥) → (data_asked f t k ≡ []) × (data_numbers f t k ≡ 22 ∷ 0 ∷ 0 ∷ [])
  -- what reading states of an accepted file is what its record has
  pub stated : (f : List ℕ) → ((stated_of f).scalars ≡ (record_of f).clip.scalars) × ((stated_of f).marks ≡ (record_of f).marks) × ((stated_of f).has_list ≡ (record_of f).has_list)
