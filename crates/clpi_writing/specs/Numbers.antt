-- The numbers of the structs that C is handed, in the order of the definitions.
use Rattle.std.specs.Prelude.{ℕ, List, [], ◌∷◌}
use Rattle.clpi_writing.specs.declared.ClpiWriting.{ClpiWriting}
use Rattle.clpi_writing.specs.declared.ClpiLength.{ClpiLength}

-- the three numbers of writing's answer
abbrev pub writing_numbers : ClpiWriting → List ℕ
writing_numbers r = r.refusal ∷ r.bytes_needed ∷ r.bytes_written ∷ []

-- the two numbers of a new file's length
abbrev pub new_length_numbers : ClpiLength → List ℕ
new_length_numbers r = r.refusal ∷ r.bytes ∷ []
