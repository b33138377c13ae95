-- Times: the file's STC times count 45 kHz ticks, entry times and the questions 90 kHz ticks.
use Rattle.std.specs.Prelude.{ℕ, ◌+◌, ◌*◌, ◌-◌, ◌/◌, max}

-- a time in 45 kHz ticks
pub record Ticks45 : Type 0 where
  pub ticks : ℕ

-- a time in 90 kHz ticks
pub record Ticks90 : Type 0 where
  pub ticks : ℕ

-- the doubling, the only way from 45 kHz ticks to 90 kHz ticks
abbrev pub doubled : Ticks45 → Ticks90
doubled t = record { ticks = 2 * t.ticks }

-- one time less another, not below 0
abbrev pub less45 : Ticks45 → Ticks45 → Ticks45
less45 a b = record { ticks = a.ticks - b.ticks }

abbrev pub less90 : Ticks90 → Ticks90 → Ticks90
less90 a b = record { ticks = a.ticks - b.ticks }

-- two times added up
abbrev pub plus90 : Ticks90 → Ticks90 → Ticks90
plus90 a b = record { ticks = a.ticks + b.ticks }

-- the later of two times
abbrev pub later90 : Ticks90 → Ticks90 → Ticks90
later90 a b = record { ticks = max a.ticks b.ticks }

-- whole minutes of 5,400,000 ticks at 90 kHz, rounded down
abbrev pub minutes : Ticks90 → ℕ
minutes t = t.ticks / 5400000
