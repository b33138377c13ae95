-- The first 220 bytes of a written file, in two parts: the header, and ClipInfo behind its length.
use Rattle.std.specs.Prelude.{ℕ, List, [], ◌∷◌}
use Rattle.format.specs.ClipRecord.{Scalars}

-- letters, version, five starts and 12 spare bytes
abbrev pub header_widths : List ℕ
header_widths = 4 ∷ 4 ∷ 4 ∷ 4 ∷ 4 ∷ 4 ∷ 4 ∷ 12 ∷ []

-- what stands in these fields: the sequences are at 220, and there are no extensions
abbrev pub header_numbers : (letters version programs cpi marks : ℕ) → List ℕ
header_numbers letters version programs cpi marks = letters ∷ version ∷ 220 ∷ programs ∷ cpi ∷ marks ∷ 0 ∷ 0 ∷ []

-- validity flags, format id, and spare bytes
abbrev pub format_widths : List ℕ
format_widths = 1 ∷ 1 ∷ 4 ∷ 26 ∷ []

-- what stands in these fields, with zeros in the spare bytes
abbrev pub format_numbers : Scalars → List ℕ
format_numbers s = s.validity_flags ∷ 0 ∷ s.format_id ∷ 0 ∷ []

-- ClipInfo of 176 bytes behind its length
abbrev pub info_widths : List ℕ
info_widths = 4 ∷ 2 ∷ 1 ∷ 1 ∷ 4 ∷ 4 ∷ 4 ∷ 128 ∷ format_widths

-- what stands in these fields, with zeros where the record holds nothing
abbrev pub info_numbers : Scalars → List ℕ
info_numbers s =
    176 ∷ 0 ∷ s.stream_type ∷ s.application_type ∷ 0 ∷ s.rate ∷ s.packets ∷ 0 ∷ format_numbers s
