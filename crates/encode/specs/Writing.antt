-- The answer of writing, as the code holds it.
use Rattle.std.specs.Prelude.{ℕ, Result, Ok, Err}
use Rattle.format.specs.Refusals.{WriteAnswer, refused, too_short, written}
use Rattle.refusals.specs.Numbers.{number_of}
use Rattle.encode.specs.declared.write.WriteError.{WriteError}

-- the code's answer as that of the definition
abbrev pub write_answer_of : Result ℕ WriteError → WriteAnswer
write_answer_of (Ok n) = written n
write_answer_of (Err (WriteError.Refused refusal)) = refused (number_of refusal)
write_answer_of (Err (WriteError.OutputShort n)) = too_short n

-- the length that an answer tells, written or needed; none beside a refusal
abbrev pub bytes_in : WriteAnswer → ℕ
bytes_in (refused n) = 0
bytes_in (too_short n) = n
bytes_in (written n) = n
