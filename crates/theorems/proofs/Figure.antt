-- Durations, spans and the figure: by the laws of differences, and over the STCs one after the other.
use Prim.Native.Nat.{ℕ, suc, ◌+◌, ◌*◌, ◌-◌, ◌/◌, ◌≤◌, ◌<◌, max, min}
use mathlib.Core.Path.{◌≡◌, refl, sym, ap, ◌∙◌}
use mathlib.Core.List.Memᴰ
use mathlib.Core.List.{List, [], ◌∷◌, ◌++◌, map, append_assoc}
use mathlib.Core.Bool.{Bool, true, false}
use native.Mathlib.Omega.{arith}
use lib.ListN.{length, get_or, drop, length-map, length-append}
use lib.Dec.{leb}
use borrow.Author.Tests.{leb-true, leb-false, lt-ltb, le-ltb}
use Rattle.format.specs.Ticks.{Ticks90}
use Rattle.format.specs.ClipRecord.{Row, stc_start}
use Rattle.format.specs.Questions.{refused, number, ticks45, ticks90, minutes_remaining, presentation_span_90k, duration45k, duration90k, latest_end, least_start, presentation_span, durations_of, minutes_left, of_stc, answer}
use Rattle.format.proofs.Lists.{none, more, all_map}
use Rattle.theorems.specs.Figure.{Stc, stc_row, WithStcs, IsLess, SameTime, IsLatestEnd, IsLeastStart, WholeMinutes, IsSpan, IsLeft, Durations, IsRemaining, Falls, IsBetween, lectures, Worked, Figure}

-- ---- words

-- a difference that stops at 0
pub less_is : (a b : ℕ) → IsLess a b (a - b)
less_is a b = record { above = λ h. omega arith; below = λ h. omega arith }

-- twice as many ticks by the faster clock
twice : (t : ℕ) → SameTime t (2 * t)
twice t = omega arith

-- the quotient is the greatest number that fits
whole : (ticks : ℕ) → WholeMinutes ticks (ticks / 5400000)
whole ticks = record { fit = omega arith; greatest = λ m h. omega arith }

-- ---- the latest end

-- a later one of two ends, of which the second is the latest of the STCs behind the first
later_end : (s : Stc) (later : List Stc) (e : ℕ) → IsLatestEnd later e → IsLatestEnd (s ∷ later) (max s.end e)
later_end s later e r = go (leb s.end e) refl
  where
    go : (b : Bool) → leb s.end e ≡ b → IsLatestEnd (s ∷ later) (max s.end e)
    go true h =
        let l = leb-true s.end e h in
        let m : max s.end e ≡ e = omega arith in
        rw m (record { of = r.of; one = Memᴰ.tail r.one; ends = r.ends; no_later = more l r.no_later })
    go false h =
        let l = leb-false s.end e h in
        let m : max s.end e ≡ s.end = omega arith in
        rw m (record { of = s; one = Memᴰ.head refl; ends = refl; no_later = more {x = s} (omega arith) (all_map (λ y i. omega arith) r.no_later) })

-- of one STC or more
latest : (s : Stc) (later : List Stc) → IsLatestEnd (s ∷ later) (latest_end (map stc_row (s ∷ later))).ticks
latest s [] = record { of = s; one = Memᴰ.head refl; ends = omega arith; no_later = more {x = s} (omega arith) none }
latest s (x ∷ xs) = later_end s (x ∷ xs) (latest_end (map stc_row (x ∷ xs))).ticks (latest x xs)

-- ---- the least start

-- the lesser of two starts, of which the second is the least of the STCs behind the first
earlier_start : (s : Stc) (later : List Stc) (e : ℕ) → IsLeastStart later e → IsLeastStart (s ∷ later) (min s.start e)
earlier_start s later e r = go (leb s.start e) refl
  where
    go : (b : Bool) → leb s.start e ≡ b → IsLeastStart (s ∷ later) (min s.start e)
    go true h =
        let l = leb-true s.start e h in
        let m : min s.start e ≡ s.start = omega arith in
        rw m (record { of = s; one = Memᴰ.head refl; starts = refl; no_earlier = more {x = s} (omega arith) (all_map (λ y i. omega arith) r.no_earlier) })
    go false h =
        let l = leb-false s.start e h in
        let m : min s.start e ≡ e = omega arith in
        rw m (record { of = r.of; one = Memᴰ.tail r.one; starts = r.starts; no_earlier = more {x = s} (omega arith) r.no_earlier })

-- a start that is looked at first may as well be looked at last
least_first : (t u : ℕ) (rows : List Row) → (least_start (record { ticks = min t u }) rows).ticks ≡ min t (least_start (record { ticks = u }) rows).ticks
least_first t u [] = refl
least_first t u (r ∷ rows) =
    let v = (stc_start r).ticks in
    let e : min (min t u) v ≡ min t (min u v) = omega arith in
    ap (λ (n : ℕ). (least_start (record { ticks = n }) rows).ticks) e ∙ least_first t (min u v) rows

-- of one STC or more
least : (s : Stc) (later : List Stc) → IsLeastStart (s ∷ later) (least_start (stc_start (stc_row s)) (map stc_row later)).ticks
least s [] = record { of = s; one = Memᴰ.head refl; starts = refl; no_earlier = more {x = s} (omega arith) none }
least s (x ∷ xs) =
    rw (least_first s.start x.start (map stc_row xs))
    (earlier_start s (x ∷ xs) (least_start (stc_start (stc_row x)) (map stc_row xs)).ticks (least x xs))

-- ---- what is answered

-- the row of the STC behind some others
row_there : (before : List Stc) (s : Stc) (behind : List Stc) → get_or (map stc_row (before ++ (s ∷ behind))) (length before) [] ≡ stc_row s
row_there [] s behind = refl
row_there (x ∷ before) s behind = row_there before s behind

-- what stands behind some others is one of the rows
pub is_there : {A B : Type 0} (row : A → B) (before : List A) (x : A) (behind : List A) → length before < length (map row (before ++ (x ∷ behind)))
is_there row [] x behind = omega arith
is_there row (b ∷ before) x behind = let h = is_there row before x behind in omega arith

-- the durations of that STC
durations : (before : List Stc) (s : Stc) (behind : List Stc) (c : WithStcs (before ++ (s ∷ behind)))
    → (answer (duration45k (length before)) c.clip ≡ ticks45 (record { ticks = s.end - s.start }))
    × (answer (duration90k (length before)) c.clip ≡ ticks90 (record { ticks = 2 * (s.end - s.start) }))
unfolding answer of_stc
durations before s behind c =
    let l = lt-ltb (length before) (length (map stc_row (before ++ (s ∷ behind)))) (is_there stc_row before s behind) in
    let e = row_there before s behind in
    (rw (c.rows, l, e), rw (c.rows, l, e))

-- a row behind the last is refused
no_stc_is : (stcs : List Stc) (c : WithStcs stcs) (k : ℕ) (at : Ticks90) → length stcs ≤ k
    → (answer (duration45k k) c.clip ≡ refused 22) × (answer (duration90k k) c.clip ≡ refused 22)
    × (answer (minutes_remaining k at) c.clip ≡ refused 22)
unfolding answer of_stc
no_stc_is stcs c k at h =
    let l = le-ltb k (length (map stc_row stcs)) (omega (arith, length-map stcs stc_row)) in
    (rw (c.rows, l), rw (c.rows, l), rw (c.rows, l))

-- the span
span_is : (s : Stc) (later : List Stc) (c : WithStcs (s ∷ later))
    → (t : ℕ) × (answer presentation_span_90k c.clip ≡ ticks90 (record { ticks = t })) × IsSpan (s ∷ later) t
unfolding answer presentation_span
span_is s later c =
    let e = (latest_end (map stc_row (s ∷ later))).ticks in
    let b = (least_start (stc_start (stc_row s)) (map stc_row later)).ticks in (
      2 * e - 2 * b,
      rw c.rows,
      record {
        end = e;
        is_end = latest s later;
        start = b;
        is_start = least s later;
        end_90 = 2 * e;
        same_end = twice e;
        start_90 = 2 * b;
        same_start = twice b;
        span_is = less_is (2 * e) (2 * b);
      },
    )

-- ---- the figure

-- what is left of an STC
left_is : (s : Stc) (at : ℕ) → IsLeft s at (2 * s.end - max at (2 * s.start))
left_is s at = record {
  start_90 = 2 * s.start;
  same_start = twice s.start;
  end_90 = 2 * s.end;
  same_end = twice s.end;
  from = max at (2 * s.start);
  not_before = λ h. omega arith;
  else_at = λ h. omega arith;
  left_is = less_is (2 * s.end) (max at (2 * s.start));
}

-- the durations of STCs
durations_are : (stcs : List Stc) → Durations stcs (durations_of (map stc_row stcs)).ticks
durations_are [] = Durations.none
durations_are (s ∷ later) =
    let t = s.end - s.start in
    Durations.one_more t (2 * t) (durations_of (map stc_row later)).ticks (record { is_45 = less_is s.end s.start; is_90 = twice t }) (durations_are later)

-- the rows behind one
rows_behind : (before : List Stc) (s : Stc) (later : List Stc) → drop (suc (length before)) (map stc_row (before ++ (s ∷ later))) ≡ map stc_row later
rows_behind [] s later = refl
rows_behind (x ∷ before) s later = rows_behind before s later

-- the figure of the STC behind some others
figure_is : (before : List Stc) (s : Stc) (later : List Stc) (c : WithStcs (before ++ (s ∷ later))) (at : Ticks90)
    → answer (minutes_remaining (length before) at) c.clip ≡ number ((2 * s.end - max at.ticks (2 * s.start) + (durations_of (map stc_row later)).ticks) / 5400000)
unfolding answer of_stc minutes_left
figure_is before s later c at =
    let l = lt-ltb (length before) (length (map stc_row (before ++ (s ∷ later)))) (is_there stc_row before s later) in
    rw (c.rows, l, row_there before s later, rows_behind before s later)

-- it is what is left of the STC and the durations of the later ones, in whole minutes
remaining_is : (before : List Stc) (s : Stc) (later : List Stc) (c : WithStcs (before ++ (s ∷ later))) (at : Ticks90)
    → (n : ℕ) × (answer (minutes_remaining (length before) at) c.clip ≡ number n) × IsRemaining s later at.ticks n
remaining_is before s later c at =
    let left = 2 * s.end - max at.ticks (2 * s.start) in
    let others = (durations_of (map stc_row later)).ticks in (
      (left + others) / 5400000,
      figure_is before s later c at,
      record {
        left = left;
        is_left = left_is s at.ticks;
        others = others;
        others_are = durations_are later;
        minutes_are = whole (left + others);
      },
    )

-- the minutes of what is left to an end, and of what else there is, at a time and at one not earlier
falls_are : (s : Stc) (others at at' : ℕ) → at ≤ at'
    → Falls s at at' ((2 * s.end - max at (2 * s.start) + others) / 5400000) ((2 * s.end - max at' (2 * s.start) + others) / 5400000)
falls_are s others at at' h = record {
  not_above_lem = omega arith;
  slowly = λ soon. omega arith;
  each_minute = λ start end b e from minute within. omega arith;
}

-- so falls the figure of an STC
falls_is : (before : List Stc) (s : Stc) (later : List Stc) (c : WithStcs (before ++ (s ∷ later))) (at at' : Ticks90) → at.ticks ≤ at'.ticks
    → (n : ℕ) × (n' : ℕ) × (answer (minutes_remaining (length before) at) c.clip ≡ number n)
    × (answer (minutes_remaining (length before) at') c.clip ≡ number n') × Falls s at.ticks at'.ticks n n'
falls_is before s later c at at' h =
    (_, _, figure_is before s later c at, figure_is before s later c at', falls_are s (durations_of (map stc_row later)).ticks at.ticks at'.ticks h)

-- an STC that is over leaves what the next one has at its start
next_is : (s next : Stc) (later at at' : ℕ) → IsBetween s next at at'
    → 2 * s.end - max at (2 * s.start) + (2 * (next.end - next.start) + later) ≡ 2 * next.end - max at' (2 * next.start) + later
next_is s next later at at' b = omega (arith, b.same_end, b.over, b.same_start, b.not_begun)

-- so the figure is the same there
steady_is : (before : List Stc) (s next : Stc) (later : List Stc) (c : WithStcs (before ++ (s ∷ next ∷ later))) (at at' : Ticks90)
    → IsBetween s next at.ticks at'.ticks
    → answer (minutes_remaining (length before) at) c.clip ≡ answer (minutes_remaining (suc (length before)) at') c.clip
steady_is before s next later c at at' b =
    let moved : WithStcs ((before ++ (s ∷ [])) ++ (next ∷ later)) = record { clip = c.clip; rows = rw (append_assoc before (s ∷ []) (next ∷ later)) c.rows } in
    let row : length (before ++ (s ∷ [])) ≡ suc (length before) = length-append before (s ∷ []) ∙ omega arith in
    figure_is before s (next ∷ later) c at
    ∙ ap (λ (n : ℕ). number (n / 5400000)) (next_is s next (durations_of (map stc_row later)).ticks at.ticks at'.ticks b)
    ∙ sym (rw row at (figure_is (before ++ (s ∷ [])) next later moved at'))

-- the worked cases, each by the figure of its STC
worked_are : (c : WithStcs lectures) → Worked c
worked_are c =
    let first = figure_is [] _ _ c in
    let middle = figure_is (_ ∷ []) _ _ c in
    let final = figure_is (_ ∷ _ ∷ []) _ _ c in
    record {
      before = first _;
      start = first _;
      last = first _;
      next = first _;
      end = first _;
      past = first _;
      empty = middle _;
      later_before = final _;
      later_start = final _;
      later_last = final _;
      later_next = final _;
      later_end = final _;
      latest = final _;
    }

-- without STCs there is no span
no_span_is : (c : WithStcs []) → answer presentation_span_90k c.clip ≡ ticks90 (record { ticks = 0 })
unfolding answer presentation_span
no_span_is c = rw c.rows

-- the statements together
pub figure : Figure
figure = record {
  doubling = λ t. twice t.ticks;
  duration = λ before s behind c.
      let d = durations before s behind c in
      let t = s.end - s.start in
      (t, 2 * t, d.0, d.1, record { is_45 = less_is s.end s.start; is_90 = twice t });
  no_stc = no_stc_is;
  span = span_is;
  no_span = no_span_is;
  remaining = remaining_is;
  falls = falls_is;
  steady = steady_is;
  worked = worked_are;
}
