-- The numbers of the refusals in documents 01 and 02, and an answer whose refusal is told by its number.
use Rattle.std.specs.Prelude.{ℕ, Result, Ok, Err}
use Rattle.refusals.specs.declared.Refusal.{Refusal}

-- each refusal's number
abbrev pub number_of : Refusal → ℕ
number_of Refusal.HeaderShort = 1
number_of Refusal.Letters = 2
number_of Refusal.ClipInfo = 3
number_of Refusal.Sequences = 4
number_of Refusal.Programs = 5
number_of Refusal.Cpi = 6
number_of Refusal.MapAddress = 7
number_of Refusal.Marks = 8
number_of Refusal.FileTooLong = 20
number_of Refusal.Rows = 22
number_of Refusal.Cells = 30
number_of Refusal.Runs = 31
number_of Refusal.RecordLetters = 40
number_of Refusal.FineAddress = 41
number_of Refusal.MapBody = 42

-- what is answered, or the refusal's number
abbrev pub numbered : {A : Type 0} → Result A Refusal → Result A ℕ
numbered (Ok a) = Ok a
numbered (Err refusal) = Err (number_of refusal)

-- the refusal's number, 0 where there is an answer
abbrev pub refusal_in : {A : Type 0} → Result A Refusal → ℕ
refusal_in (Ok a) = 0
refusal_in (Err refusal) = number_of refusal
