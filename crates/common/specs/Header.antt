-- What the front of a file says, and where its sections start.
use Rattle.std.specs.Prelude.{ℕ, ◌≡◌, List, length, leb, Result, Ok, Err}
use Rattle.format.specs.Bytes.{pick}
use Rattle.format.specs.ClipRecord.{letters_of, letters_right, version_of, sequences_start, programs_start, cpi_start, marks_start, extensions_start}
use Rattle.common.specs.declared.header.BdmvHeader.{BdmvHeader}
use Rattle.refusals.specs.declared.Refusal.{Refusal}
use Rattle.common.specs.declared.header.Starts.{Starts}

-- the letters and the version that were read
pub record HeaderIs (f : List ℕ) (h : BdmvHeader) : Type 0 where
  pub letters : h.type_indicator ≡ letters_of f
  pub version : h.version_number ≡ version_of f

-- eight bytes are there, the letters are right, and then the header counts
abbrev pub parsed_of : List ℕ → Result BdmvHeader Refusal
parsed_of f =
    pick (leb 8 (length f))
    (pick (letters_right f) (Ok (record { type_indicator = letters_of f; version_number = version_of f })) (Err Refusal.Letters))
    (Err Refusal.HeaderShort)

-- the five starts that were read
pub record StartsAre (f : List ℕ) (s : Starts) : Type 0 where
  pub sequences : s.sequences ≡ sequences_start f
  pub programs : s.programs ≡ programs_start f
  pub cpi : s.cpi ≡ cpi_start f
  pub marks : s.marks ≡ marks_start f
  pub extensions : s.extensions ≡ extensions_start f
