-- The sequences and the programs of the new file, told of the bytes of the old one.
use Rattle.std.specs.Prelude.{ℕ, ◌+◌, ◌*◌, ◌≤◌, ◌≡◌, List, length}
use Rattle.format.specs.Bytes.{gather}
use Rattle.format.specs.ClipRecord.{atc_stc_count, stream_count, atcs_from, stcs_from, sequences_end}
use Rattle.format.specs.Programs.{next_program, programs_from, streams_from, programs_end}
use Rattle.format.specs.Rewriting.{groups, section_bytes, atc_bytes, stc_bytes, program_bytes, stream_bytes}
use Rattle.rewrite_program.specs.Programs.{new_program}

-- ---- sequences

-- the new section of the sequences that start at `start`
unfoldable pub new_sequences : List ℕ → ℕ → List ℕ
new_sequences f start = section_bytes (length (atcs_from f start)) (groups atc_bytes atc_stc_count stc_bytes (atcs_from f start) (stcs_from f start))

-- the section ends within the file and has these counts, and the output has room for the new one
pub record SequencesRoom (f : List ℕ) (start atcs stcs : ℕ) (out : List ℕ) (at : ℕ) : Type 0 where
  pub ends : sequences_end f start ≤ length f
  pub atcs_are : atcs ≡ length (atcs_from f start)
  pub stcs_are : stcs ≡ length (stcs_from f start)
  pub room : at + (6 + 6 * atcs + 14 * stcs) ≤ length out

-- ---- programs

-- the new bytes of the n programs at p
abbrev pub new_items : List ℕ → ℕ → ℕ → List ℕ
new_items f p n = gather (new_program f) (next_program f) p n

-- the new section of the programs that start at `start`
unfoldable pub new_programs : List ℕ → ℕ → List ℕ
new_programs f start = section_bytes (length (programs_from f start)) (groups program_bytes stream_count stream_bytes (programs_from f start) (streams_from f start))

-- the section ends within the file, `size` is the length of the new one, and the output has room for it
pub record ProgramsRoom (f : List ℕ) (start size : ℕ) (out : List ℕ) (at : ℕ) : Type 0 where
  pub ends : programs_end f start ≤ length f
  pub size_is : size ≡ length (new_programs f start)
  pub room : at + size ≤ length out
