-- The code's answers as the answers of the definitions.
use Rattle.std.specs.Prelude.{ℕ, Option, None, Some, Result, Ok, Err}
use Rattle.format.specs.Questions.{Answer, refused, none, number, ticks45, ticks90}
use Rattle.refusals.specs.declared.Refusal.{Refusal}
use Rattle.refusals.specs.Numbers.{number_of}
use Rattle.ticks.specs.Times.{as45, as90}
use Rattle.ticks.specs.declared.Ticks45.{Ticks45}
use Rattle.ticks.specs.declared.Ticks90.{Ticks90}

-- a refusal, nothing, or a number
abbrev pub found_of : Result (Option ℕ) Refusal → Answer
found_of (Err refusal) = refused (number_of refusal)
found_of (Ok None) = none
found_of (Ok (Some n)) = number n

-- a refusal, or a time
abbrev pub time45_of : Result Ticks45 Refusal → Answer
time45_of (Err refusal) = refused (number_of refusal)
time45_of (Ok t) = ticks45 (as45 t)

-- a refusal, nothing, or a time
abbrev pub time90_of : Result (Option Ticks90) Refusal → Answer
time90_of (Err refusal) = refused (number_of refusal)
time90_of (Ok None) = none
time90_of (Ok (Some t)) = ticks90 (as90 t)
