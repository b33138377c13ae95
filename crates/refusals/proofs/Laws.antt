-- A refusal is told from none by its number; and what `ok_or` makes of no answer.
use Prim.Native.Nat.{◌<◌}
use mathlib.Core.Path.{◌≡◌}
use lib.Dec.{lit<}
use Rattle.std.specs.Prelude.{Option, None, Err}
use Rattle.std.specs.Option.{ok_or}
use Rattle.refusals.specs.declared.Refusal.{Refusal}
use Rattle.refusals.specs.Numbers.{number_of}

-- no refusal has the number 0
pub number_positive : (r : Refusal) → 0 < number_of r
number_positive Refusal.HeaderShort = lit< tt
number_positive Refusal.Letters = lit< tt
number_positive Refusal.ClipInfo = lit< tt
number_positive Refusal.Sequences = lit< tt
number_positive Refusal.Programs = lit< tt
number_positive Refusal.Cpi = lit< tt
number_positive Refusal.MapAddress = lit< tt
number_positive Refusal.Marks = lit< tt
number_positive Refusal.FileTooLong = lit< tt
number_positive Refusal.Rows = lit< tt
number_positive Refusal.Cells = lit< tt
number_positive Refusal.Runs = lit< tt
number_positive Refusal.RecordLetters = lit< tt
number_positive Refusal.FineAddress = lit< tt
number_positive Refusal.MapBody = lit< tt

-- where `ok_or` is given no answer, its error is the refusal that it was given
pub refused_as : {A : Type 0} {o : Option A} {e w : Refusal} → Err e ≡ ok_or o w → o ≡ None → e ≡ w
refused_as h none = let is = rw none at h in cc
