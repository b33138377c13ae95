-- The code's tuple structs as the times of the definitions, and times added up.
use Rattle.std.specs.Prelude.{ℕ, ◌+◌, ◌*◌, ◌<◌, ◌≡◌}
use Rattle.format.specs.Ticks as of
use Rattle.ticks.specs.declared.Ticks45.{Ticks45}
use Rattle.ticks.specs.declared.Ticks90.{Ticks90}
use Rattle.ticks.specs.declared.Pts90.{Pts90}
use Rattle.ticks.specs.declared.Minutes.{Minutes}

-- a time in 45 kHz ticks
abbrev pub as45 : Ticks45 → of.Ticks45
as45 t = record { ticks = t.0 }

-- a time in 90 kHz ticks, of 64 bits or of 32
abbrev pub as90 : Ticks90 → of.Ticks90
as90 t = record { ticks = t.0 }

abbrev pub as_pts : Pts90 → of.Ticks90
as_pts t = record { ticks = t.0 }

-- the ticks that whole minutes and the ticks below a minute stand for
abbrev pub in_ticks : Minutes → ℕ
in_ticks m = m.whole * 5400000 + (as90 m.rest).ticks

-- m stands for so many ticks in all, and its rest is less than a minute
pub record IsSum (m : Minutes) (all : ℕ) : Type 0 where
  pub together : in_ticks m ≡ all
  pub below : (as90 m.rest).ticks < 5400000
