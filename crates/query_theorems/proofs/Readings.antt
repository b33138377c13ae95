-- Reading the code's results as the definitions' answers loses nothing: equal readings are of equal results.
use Prim.Native.Nat.{ℕ}
use mathlib.Core.Path.{◌≡◌, refl, sym, ap, ◌∙◌}
use lib.Dec.{eqb}
use Rattle.std.specs.Prelude.{Option, None, Some, Result, Ok, Err}
use Rattle.format.specs.Bytes.{pick}
use Rattle.format.specs.Questions.{Answer, refused, none, number, ticks45, ticks90, seconds, no_rate}
use Rattle.refusals.specs.declared.Refusal.{Refusal}
use Rattle.refusals.specs.Numbers.{number_of}
use Rattle.ticks.specs.declared.Ticks45.{Ticks45}
use Rattle.ticks.specs.declared.Ticks90.{Ticks90}
use Rattle.queries.specs.Answers.{found_of, time45_of, time90_of}
use Rattle.clip_info_queries.specs.Durations.{transfer_of}
use Rattle.clip_info_queries.specs.declared.Duration.{Duration}
use Rattle.table_rows.specs.OwnRows.{Owned, refusal, owns, owned_of}
use Rattle.table_rows.specs.declared.own.OwnRows.{OwnRows}

-- a reading, and the way back from it
pub record Reading {A B : Type 0} (read : A → B) : Type 0 where
  pub back : B → A
  pub returns : (a : A) → back (read a) ≡ a

-- so equal readings are of equal results
pub same_result : {A B : Type 0} {read : A → B} → Reading read → (x y : A) → read x ≡ read y → x ≡ y
same_result r x y e = sym (r.returns x) ∙ ap r.back e ∙ r.returns y

-- the refusal with a number
abbrev refusal_with : ℕ → Refusal
refusal_with n =
    pick (eqb n 1) Refusal.HeaderShort (pick (eqb n 2) Refusal.Letters (pick (eqb n 3) Refusal.ClipInfo (pick (eqb n 4) Refusal.Sequences (pick (eqb n 5) Refusal.Programs (pick (eqb n 6) Refusal.Cpi (pick (eqb n 7) Refusal.MapAddress (pick (eqb n 8) Refusal.Marks (pick (eqb n 20) Refusal.FileTooLong (pick (eqb n 22) Refusal.Rows (pick (eqb n 30) Refusal.Cells (pick (eqb n 31) Refusal.Runs (pick (eqb n 40) Refusal.RecordLetters (pick (eqb n 41) Refusal.FineAddress Refusal.MapBody)))))))))))))

-- each comes back from its number
refusal_returns : (r : Refusal) → refusal_with (number_of r) ≡ r
refusal_returns Refusal.HeaderShort = refl
refusal_returns Refusal.Letters = refl
refusal_returns Refusal.ClipInfo = refl
refusal_returns Refusal.Sequences = refl
refusal_returns Refusal.Programs = refl
refusal_returns Refusal.Cpi = refl
refusal_returns Refusal.MapAddress = refl
refusal_returns Refusal.Marks = refl
refusal_returns Refusal.FileTooLong = refl
refusal_returns Refusal.Rows = refl
refusal_returns Refusal.Cells = refl
refusal_returns Refusal.Runs = refl
refusal_returns Refusal.RecordLetters = refl
refusal_returns Refusal.FineAddress = refl
refusal_returns Refusal.MapBody = refl

-- a refusal, nothing or a number
abbrev found_in : Answer → Result (Option ℕ) Refusal
found_in (refused n) = Err (refusal_with n)
found_in none = Ok None
found_in (number n) = Ok (Some n)
found_in (ticks45 t) = Ok None
found_in (ticks90 t) = Ok None
found_in (seconds q) = Ok None
found_in no_rate = Ok None

-- each of the three comes back from its reading
found_returns : (x : Result (Option ℕ) Refusal) → found_in (found_of x) ≡ x
found_returns (Err r) = ap (λ (e : Refusal). Err e) (refusal_returns r)
found_returns (Ok None) = refl
found_returns (Ok (Some n)) = refl

-- so a result that may be nothing is read without loss
pub found : Reading found_of
found = record { back = found_in; returns = found_returns }

-- nothing or a number
abbrev optional_in : Answer → Option ℕ
optional_in (refused n) = None
optional_in none = None
optional_in (number n) = Some n
optional_in (ticks45 t) = None
optional_in (ticks90 t) = None
optional_in (seconds q) = None
optional_in no_rate = None

-- either comes back from its reading
optional_returns : (x : Option ℕ) → optional_in (found_of (Ok x)) ≡ x
optional_returns None = refl
optional_returns (Some n) = refl

-- so a result that is never refused is read without loss
pub optional : Reading (λ (x : Option ℕ). found_of (Ok x))
optional = record { back = optional_in; returns = optional_returns }

-- a refusal or a time in 45 kHz ticks
abbrev time45_in : Answer → Result Ticks45 Refusal
time45_in (refused n) = Err (refusal_with n)
time45_in none = Err Refusal.Rows
time45_in (number n) = Err Refusal.Rows
time45_in (ticks45 t) = Ok (record { 0 = t.ticks })
time45_in (ticks90 t) = Err Refusal.Rows
time45_in (seconds q) = Err Refusal.Rows
time45_in no_rate = Err Refusal.Rows

-- a refusal and a time come back from their readings
time45_returns : (x : Result Ticks45 Refusal) → time45_in (time45_of x) ≡ x
time45_returns (Err r) = ap (λ (e : Refusal). Err e) (refusal_returns r)
time45_returns (Ok t) = refl

-- so a time in 45 kHz ticks is read without loss
pub time45 : Reading time45_of
time45 = record { back = time45_in; returns = time45_returns }

-- a refusal, nothing or a time in 90 kHz ticks
abbrev time90_in : Answer → Result (Option Ticks90) Refusal
time90_in (refused n) = Err (refusal_with n)
time90_in none = Ok None
time90_in (number n) = Ok None
time90_in (ticks45 t) = Ok None
time90_in (ticks90 t) = Ok (Some (record { 0 = t.ticks }))
time90_in (seconds q) = Ok None
time90_in no_rate = Ok None

-- a refusal, nothing and a time come back from their readings
time90_returns : (x : Result (Option Ticks90) Refusal) → time90_in (time90_of x) ≡ x
time90_returns (Err r) = ap (λ (e : Refusal). Err e) (refusal_returns r)
time90_returns (Ok None) = refl
time90_returns (Ok (Some t)) = refl

-- so a time in 90 kHz ticks is read without loss
pub time90 : Reading time90_of
time90 = record { back = time90_in; returns = time90_returns }

-- seconds or no rate
abbrev duration_in : Answer → Duration
duration_in (refused n) = Duration.NoRate
duration_in none = Duration.NoRate
duration_in (number n) = Duration.NoRate
duration_in (ticks45 t) = Duration.NoRate
duration_in (ticks90 t) = Duration.NoRate
duration_in (seconds q) = Duration.Seconds q
duration_in no_rate = Duration.NoRate

-- either comes back from its reading
duration_returns : (x : Duration) → duration_in (transfer_of x) ≡ x
duration_returns (Duration.Seconds q) = refl
duration_returns Duration.NoRate = refl

-- so a duration is read without loss
pub duration : Reading transfer_of
duration = record { back = duration_in; returns = duration_returns }

-- a number alone
abbrev number_in : Answer → ℕ
number_in (refused n) = 0
number_in none = 0
number_in (number n) = n
number_in (ticks45 t) = 0
number_in (ticks90 t) = 0
number_in (seconds q) = 0
number_in no_rate = 0

-- a number comes back from its reading
bytes_returns : (n : ℕ) → number_in (number n) ≡ n
bytes_returns n = refl

-- so a result that is a number, as the length in bytes is, is read without loss
pub bytes : Reading number
bytes = record { back = number_in; returns = bytes_returns }

-- a refusal, or the first row and how many there are
abbrev own_in : Owned → Result OwnRows Refusal
own_in (refusal n) = Err (refusal_with n)
own_in (owns first count) = Ok (record { first = first; count = count })

-- either comes back from its reading
own_returns : (x : Result OwnRows Refusal) → own_in (owned_of x) ≡ x
own_returns (Err r) = ap (λ (e : Refusal). Err e) (refusal_returns r)
own_returns (Ok rows) = refl

-- so where the rows of a head begin and how many they are is read without loss
pub own : Reading owned_of
own = record { back = own_in; returns = own_returns }
