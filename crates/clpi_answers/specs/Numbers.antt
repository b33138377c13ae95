-- The numbers of the structs with which C is answered, in the order of the definitions.
use Rattle.std.specs.Prelude.{ℕ, List, [], ◌∷◌, Result, Ok, Err}
use Rattle.std.specs.Float.{binary64}
use Rattle.std.specs.Float.Ieee.{to_bits}
use Rattle.refusals.specs.declared.Refusal.{Refusal}
use Rattle.refusals.specs.Numbers.{number_of}
use Rattle.extension_entry.specs.declared.Part.{Part}
use Rattle.clpi_answers.specs.declared.part.ClpiPart.{ClpiPart}
use Rattle.clpi_answers.specs.declared.ClpiAnswer.{ClpiAnswer}
use Rattle.clpi_answers.specs.declared.seconds.ClpiSeconds.{ClpiSeconds}
use Rattle.clpi_answers.specs.declared.ClpiRows.{ClpiRows}

-- the three numbers of a question's answer
abbrev pub found_numbers : ClpiAnswer → List ℕ
found_numbers a = a.refusal ∷ a.found ∷ a.value ∷ []

-- those of the transfer duration, its seconds by their bits
abbrev pub seconds_numbers : ClpiSeconds → List ℕ
seconds_numbers s = s.refusal ∷ s.found ∷ to_bits binary64 s.seconds ∷ []

-- those of the rows of a header row
abbrev pub rows_numbers : ClpiRows → List ℕ
rows_numbers r = r.refusal ∷ r.first ∷ r.count ∷ []

-- the three numbers of an extension's data
abbrev pub part_numbers : ClpiPart → List ℕ
part_numbers p = p.refusal ∷ p.offset ∷ p.length ∷ []

-- those of a place: the refusal's number and zeros where it is refused
abbrev pub place_numbers : Result Part Refusal → List ℕ
place_numbers (Ok part) = 0 ∷ part.start ∷ part.len ∷ []
place_numbers (Err refusal) = number_of refusal ∷ 0 ∷ 0 ∷ []
