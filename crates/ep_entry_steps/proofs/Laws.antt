-- What is found in a row of records is what the definitions answer for its rows.
use Prim.Native.Nat.{ℕ, zero, suc}
use mathlib.Core.Path.{◌≡◌, refl, sym, ap, ◌∙◌}
use mathlib.Core.List.{List, [], ◌∷◌}
use native.Mathlib.Omega.{arith}
use lib.ListN.{length, get_or}
use borrow.Author.Tests.{ne_eqb}
use Rattle.std.specs.Prelude.{None, Some}
use Rattle.format.specs.ClipRecord.{time, packet, entry_time}
use Rattle.format.specs.Ticks.{Ticks90, less90}
use Rattle.format.specs.Questions.{number, of_row, last_of, span_of}
use Rattle.nearest.specs.Nearest.{find_in, seek_in}
use Rattle.nearest.specs.declared.Side.{Side}
use Rattle.ep_entry_steps.specs.declared.EpEntry.{EpEntry}
use Rattle.ep_entry_steps.specs.Records.{as_row, as_rows, no_entry}
use Rattle.ep_entry_steps.specs.Lookups.{last_row, ends_of, span_between}

-- the time of record k is that of row k, also past the end
pub time_at : (es : List EpEntry) (k : ℕ) → time (as_row (get_or es k no_entry)) ≡ time (get_or (as_rows es) k [])
time_at [] k = refl
time_at (e ∷ es) zero = refl
time_at (e ∷ es) (suc k) = time_at es k

-- its packet is that of row k; past the end both are 0
packet_at : (es : List EpEntry) (k : ℕ) → packet (as_row (get_or es k no_entry)) ≡ packet (get_or (as_rows es) k [])
packet_at [] k = refl
packet_at (e ∷ es) zero = refl
packet_at (e ∷ es) (suc k) = packet_at es k

-- the packet of the row that is found is the one that is sought
pub packet_is : (es : List EpEntry) (side : Side) (at : ℕ) (k : ℕ) → number k ≡ find_in side (as_rows es) at → number (packet (as_row (get_or es k no_entry))) ≡ seek_in side (as_rows es) at
packet_is es side at k h = ap (λ (x : ℕ). number x) (packet_at es k) ∙ ap (of_row packet (as_rows es)) h

-- ---- the span

-- the last time behind a record
last_at : (t : Ticks90) (es : List EpEntry) (d : EpEntry) → t ≡ entry_time (as_row d) → last_of t (as_rows es) ≡ entry_time (as_row (get_or (d ∷ es) (length es) no_entry))
last_at t [] d h = h
last_at t (e ∷ es) d h = last_at (entry_time (as_row e)) es e refl

-- from the first record to the last
pub span_is : (es : List EpEntry) {first last : EpEntry} → Some (first, last) ≡ ends_of es → span_between (as_row first) (as_row last) ≡ span_of (as_rows es)
unfolding span_of
span_is [] e = cc
span_is (d ∷ es) {first} {last} e =
    let some = rw (ne_eqb (length (d ∷ es)) 0 (λ z. omega arith)) at e in
    let both : ◌≡◌ {A = EpEntry × EpEntry} (first, last) (d, get_or (d ∷ es) (last_row (length (d ∷ es))) no_entry) = cc in
    let f : first ≡ d = ap (λ (p : EpEntry × EpEntry). p.0) both in
    let l : last ≡ get_or (d ∷ es) (last_row (length (d ∷ es))) no_entry = ap (λ (p : EpEntry × EpEntry). p.1) both in
    let z : last_row (length (d ∷ es)) ≡ length es = omega arith in
    rw (f, l, z) (ap (λ (t : Ticks90). less90 t (entry_time (as_row d))) (sym (last_at (entry_time (as_row d)) es d refl)))

-- without records there is none
pub no_span : (es : List EpEntry) → None ≡ ends_of es → record { ticks = 0 } ≡ span_of (as_rows es)
unfolding span_of
no_span [] e = refl
no_span (d ∷ es) e =
    let some = rw (ne_eqb (length (d ∷ es)) 0 (λ z. omega arith)) at e in
    cc
