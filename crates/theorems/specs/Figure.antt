-- Durations, the presentation span and the front figure in words: a clock's rate, the latest end, the least start, what is left of an STC,
-- durations added up, whole minutes.
use Rattle.std.specs.Prelude.{ℕ, suc, ◌+◌, ◌*◌, ◌≤◌, ◌≡◌, length}
use mathlib.Core.List.{List, [], ◌∷◌, ◌++◌, map, Memᴰ}
use Rattle.format.specs.Ticks.{Ticks45, Ticks90, doubled}
use Rattle.format.specs.ClipRecord.{Row, Clip}
use Rattle.format.specs.Questions.{refused, number, ticks45, ticks90, minutes_remaining, presentation_span_90k, duration45k, duration90k, answer}
use Rattle.format.proofs.Lists.{All}

-- ---- STCs as table 2 has them

-- PID, packet, and start and end in 45 kHz ticks
pub record Stc : Type 0 where
  pub pid : ℕ
  pub packet : ℕ
  pub start : ℕ
  pub end : ℕ

-- its row
abbrev pub stc_row : Stc → Row
stc_row s = s.pid ∷ s.packet ∷ s.start ∷ s.end ∷ []

-- a record whose table 2 has these STCs
pub record WithStcs (stcs : List Stc) : Type 0 where
  pub clip : Clip
  pub rows : clip.stcs ≡ map stc_row stcs

-- ---- words

-- r is a less b, and 0 where b is the greater
pub record IsLess (a b r : ℕ) : Type 0 where
  pub above : b ≤ a → b + r ≡ a
  pub below : a ≤ b → r ≡ 0

-- one time counted by two clocks: t ticks at 45,000 a second and u ticks at 90,000 a second
abbrev pub SameTime : (t u : ℕ) → Type 0
SameTime t u = t * 90000 ≡ u * 45000

-- some STC ends then, and none later
pub record IsLatestEnd (stcs : List Stc) (t : ℕ) : Type 0 where
  pub of : Stc
  pub one : Memᴰ of stcs
  pub ends : of.end ≡ t
  pub no_later : All (λ s. s.end ≤ t) stcs

-- some STC starts then, and none earlier
pub record IsLeastStart (stcs : List Stc) (t : ℕ) : Type 0 where
  pub of : Stc
  pub one : Memᴰ of stcs
  pub starts : of.start ≡ t
  pub no_earlier : All (λ s. t ≤ s.start) stcs

-- n minutes of 60 seconds, at 90,000 ticks a second, go into so many ticks, and no greater number does
pub record WholeMinutes (ticks n : ℕ) : Type 0 where
  pub fit : n * (60 * 90000) ≤ ticks
  pub greatest : (m : ℕ) → m * (60 * 90000) ≤ ticks → m ≤ n

-- ---- what is answered

-- how long an STC is, by either clock
pub record IsDuration (s : Stc) (t u : ℕ) : Type 0 where
  pub is_45 : IsLess s.end s.start t
  pub is_90 : SameTime t u

-- from the least start to the latest end, each counted by the 90 kHz clock
pub record IsSpan (stcs : List Stc) (span : ℕ) : Type 0 where
  pub end : ℕ
  pub is_end : IsLatestEnd stcs end
  pub start : ℕ
  pub is_start : IsLeastStart stcs start
  pub end_90 : ℕ
  pub same_end : SameTime end end_90
  pub start_90 : ℕ
  pub same_start : SameTime start start_90
  pub span_is : IsLess end_90 start_90 span

-- what is left of an STC at a time, by the 90 kHz clock: from the time, but not from before the start, to the end
pub record IsLeft (s : Stc) (at left : ℕ) : Type 0 where
  pub start_90 : ℕ
  pub same_start : SameTime s.start start_90
  pub end_90 : ℕ
  pub same_end : SameTime s.end end_90
  pub from : ℕ
  pub not_before : at ≤ start_90 → from ≡ start_90
  pub else_at : start_90 ≤ at → from ≡ at
  pub left_is : IsLess end_90 from left

-- the durations of STCs by the 90 kHz clock, added up
pub data Durations : List Stc → ℕ → Type 0 where
  none : Durations [] 0
  one_more : {s : Stc} {later : List Stc} (t u rest : ℕ) → IsDuration s t u → Durations later rest → Durations (s ∷ later) (u + rest)

-- what is left of an STC at a time, with the durations of the later ones, in whole minutes
pub record IsRemaining (s : Stc) (later : List Stc) (at minutes : ℕ) : Type 0 where
  pub left : ℕ
  pub is_left : IsLeft s at left
  pub others : ℕ
  pub others_are : Durations later others
  pub minutes_are : WholeMinutes (left + others) minutes

-- a figure of an STC and one at a time not earlier: it does not rise, in a minute it falls by one at most, and by one in a minute that lies
-- between start and end
pub record Falls (s : Stc) (at at' minutes minutes' : ℕ) : Type 0 where
  pub not_above_lem : minutes' ≤ minutes
  pub slowly : at' ≤ at + 60 * 90000 → minutes ≤ minutes' + 1
  pub each_minute : (start end : ℕ) → SameTime s.start start → SameTime s.end end → start ≤ at → at' ≡ at + 60 * 90000 → at' ≤ end
      → minutes ≡ minutes' + 1

-- a time of an STC at its end or later, and one of the next STC at its start or before
pub record IsBetween (s next : Stc) (at at' : ℕ) : Type 0 where
  pub end : ℕ
  pub same_end : SameTime s.end end
  pub over : end ≤ at
  pub start : ℕ
  pub same_start : SameTime next.start start
  pub not_begun : at' ≤ start

-- ---- worked cases

-- two lectures whose clocks each begin again, of 40 min 30 s and 10 min 40 s, with an STC between them that ends before it starts
abbrev pub lectures : List Stc
lectures =
    record { pid = 4097; packet = 0; start = 2430000; end = 111780000 }
    ∷ record { pid = 4097; packet = 70000000; start = 4500000; end = 1800000 }
    ∷ record { pid = 4097; packet = 75937500; start = 675000; end = 29475000 }
    ∷ []

-- the figure of them at a time of one
abbrev pub Shows : WithStcs lectures → (stc at minutes : ℕ) → Type 0
Shows c stc at minutes = answer (minutes_remaining stc (record { ticks = at })) c.clip ≡ number minutes

-- before the first start and at it; the last tick at which 51 whole minutes are left, and the next; at the first end and behind it; the STC
-- without a duration; before the last start and at it; the last tick with 10 whole minutes, and the next; at the last end, as late as can be
pub record Worked (c : WithStcs lectures) : Type 0 where
  pub before : Shows c 0 0 51
  pub start : Shows c 0 4860000 51
  pub last : Shows c 0 5760000 51
  pub next : Shows c 0 5760001 50
  pub end : Shows c 0 223560000 10
  pub past : Shows c 0 223560001 10
  pub empty : Shows c 1 0 10
  pub later_before : Shows c 2 0 10
  pub later_start : Shows c 2 1350000 10
  pub later_last : Shows c 2 4950000 10
  pub later_next : Shows c 2 4950001 9
  pub later_end : Shows c 2 58950000 0
  pub latest : Shows c 2 18446744073709551615 0

-- ---- all of it

-- the statements together, of any record
pub record Figure : Type 0 where
  -- the doubling is the one time by the other clock
  pub doubling : (t : Ticks45) → SameTime t.ticks (doubled t).ticks
  -- the STC behind some others, in both clocks; a row that is not there is 22
  pub duration : (before : List Stc) (s : Stc) (behind : List Stc) (c : WithStcs (before ++ (s ∷ behind)))
      → (t : ℕ) × (u : ℕ) × (answer (duration45k (length before)) c.clip ≡ ticks45 (record { ticks = t }))
      × (answer (duration90k (length before)) c.clip ≡ ticks90 (record { ticks = u })) × IsDuration s t u
  pub no_stc : (stcs : List Stc) (c : WithStcs stcs) (k : ℕ) (at : Ticks90) → length stcs ≤ k
      → (answer (duration45k k) c.clip ≡ refused 22) × (answer (duration90k k) c.clip ≡ refused 22)
      × (answer (minutes_remaining k at) c.clip ≡ refused 22)
  -- the span, and 0 without STCs
  pub span : (s : Stc) (later : List Stc) (c : WithStcs (s ∷ later))
      → (t : ℕ) × (answer presentation_span_90k c.clip ≡ ticks90 (record { ticks = t })) × IsSpan (s ∷ later) t
  pub no_span : (c : WithStcs []) → answer presentation_span_90k c.clip ≡ ticks90 (record { ticks = 0 })
  -- the front figure at a time of an STC, with the STCs behind it, whatever stands before
  pub remaining : (before : List Stc) (s : Stc) (later : List Stc) (c : WithStcs (before ++ (s ∷ later))) (at : Ticks90)
      → (n : ℕ) × (answer (minutes_remaining (length before) at) c.clip ≡ number n) × IsRemaining s later at.ticks n
  -- it falls without a jump: within an STC by one a minute, and at the end of an STC or later it is what it is at the start of the next one or
  -- before, whatever their clocks say
  pub falls : (before : List Stc) (s : Stc) (later : List Stc) (c : WithStcs (before ++ (s ∷ later))) (at at' : Ticks90) → at.ticks ≤ at'.ticks
      → (n : ℕ) × (n' : ℕ) × (answer (minutes_remaining (length before) at) c.clip ≡ number n)
      × (answer (minutes_remaining (length before) at') c.clip ≡ number n') × Falls s at.ticks at'.ticks n n'
  pub steady : (before : List Stc) (s next : Stc) (later : List Stc) (c : WithStcs (before ++ (s ∷ next ∷ later))) (at at' : Ticks90)
      → IsBetween s next at.ticks at'.ticks
      → answer (minutes_remaining (length before) at) c.clip ≡ answer (minutes_remaining (suc (length before)) at') c.clip
  pub worked : (c : WithStcs lectures) → Worked c
