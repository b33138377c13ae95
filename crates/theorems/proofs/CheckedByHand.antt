-- M1 to M11: by computation, M3 and M9 by the facts given, and M11 by a law for every number of runs.
use Prim.Native.Nat.{ℕ, zero, suc, ◌+◌, ◌*◌, ◌/◌, ◌%◌, ◌^◌, ◌<◌}
use mathlib.Core.Path.{◌≡◌, refl, ap}
use mathlib.Core.List.{List, map}
use mathlib.Core.Bool.{Bool, true, false}
use native.Mathlib.Nat.{add-zero}
use native.Mathlib.Omega.{arith}
use lib.ListN.{length, take}
use lib.Seq.{take_all}
use lib.Dec.{leb, ltb, lit<}
use borrow.Author.Tests.{ne_eqb, eq-eqb, lt-ltb, lt-leb}
use Rattle.format.specs.Bytes.{be_at, bytes_of, both, every, unless, total}
use Rattle.format.specs.ClipRecord.{Row, entry_count, entry_row, time, letters_right}
use Rattle.format.specs.EntryPoints.{join_time, join_packet}
use Rattle.format.specs.Questions.{entry_point_at_or_before, spn_to_byte, byte_to_spn, Answer, number, nothing, best_of, at_or_before, byte_of, spn_of, of_map, answer}
use Rattle.format.specs.Rewriting.{time_key, coarse_after, runs, sequences_bytes, programs_bytes, body_bytes, cpi_bytes, head_bytes, encode}
use Rattle.format.specs.Refusals.{refusal_of, entry_fits, counts_add, cells_fit, runs_fit, write_refusal}
use Rattle.format.proofs.Fields.{time_cells, narrow_cells}
use Rattle.format.proofs.Lists.{All, none, more}
use Rattle.theorems.specs.CheckedByHand.{refusal, answered, evaluate, AnyBytes, Packets, RightLetters, hdmv, clpi, right_file, OtherLetters, other_file, BeforeAll, empty_clip, alternating, one_map, table, Holds, end, row}

-- ---- M1

-- 39 bytes are one too few, with either word in front
right_letters : (g : RightLetters 35) → refusal_of (right_file g) ≡ 1
unfolding refusal_of letters_right be_at
right_letters (hdmv behind size) = rw size
right_letters (clpi behind size) = rw size

-- ---- M2

-- seven bytes are refused before the letters are looked at
seven_bytes : (g : AnyBytes 7) → refusal_of g.all ≡ 1
unfolding refusal_of
seven_bytes g = rw g.size

-- ---- M3: four bytes that are not those of a word are not its number
other_letters : (o : OtherLetters 35) → refusal_of (other_file o) ≡ 2
unfolding refusal_of letters_right be_at
other_letters o =
    let n = ((((0 * 256 + o.a) * 256 + o.b) * 256 + o.c) * 256 + o.d) in
    let bytes = o.bytes in
    let h : n ≡ 0x48444D56 → ⊥ = λ e. o.not_hdmv (omega arith, omega arith, omega arith, omega arith) in
    let k : n ≡ 0x434C5049 → ⊥ = λ e. o.not_clpi (omega arith, omega arith, omega arith, omega arith) in
    rw (o.size, ne_eqb n 0x48444D56 h, ne_eqb n 0x434C5049 k)

-- ---- M7 and M8

-- a packet number equal to the count still has its byte: the end of the clip
tenth_packet : (g : Packets 10) → answer (spn_to_byte 10) g.clip ≡ number 1920
unfolding answer byte_of
tenth_packet g = rw g.count

-- but the byte there has no packet
past_last : (g : Packets 10) → answer (byte_to_spn 1920) g.clip ≡ Answer.none
unfolding answer spn_of
past_last g = rw g.count

-- ---- M9: where every time is later, no row passes

-- so the search of these times ends without a row
all_later : (t k : ℕ) (beats : ℕ → ℕ → Bool) {es : List Row} → All (λ e. t < time e) es
    → best_of (λ y. leb y t) beats k (map time es) nothing ≡ nothing
all_later t k beats none = refl
all_later t k beats (more {x = e} h hs) = rw (best_of, lt-leb (time e) t h) (all_later t (suc k) beats hs)

-- and row 0 is answered
before_all : (g : BeforeAll) → answer (entry_point_at_or_before g.map g.at) g.clip ≡ number 0
unfolding answer of_map at_or_before
before_all g =
    rw (
      eq-eqb (total entry_count g.clip.maps) (length g.clip.entries) g.adds_up,
      lt-ltb g.map (length g.clip.maps) g.is_row,
      g.entries,
      all_later g.at.ticks 0 (λ y z. ltb z y) g.later,
    )

-- ---- M11: n entries in n runs

-- there are n entries
size : (n : ℕ) → length (alternating n) ≡ n
unfolding alternating
size zero = refl
size (suc n) = ap suc (size n)

-- each fits its cells: the time is below 2^32 and a multiple of 512
fit : (n : ℕ) → every (entry_fits 1) (alternating n) ≡ true
unfolding alternating
fit zero = refl
fit (suc n) =
    let two = narrow_cells (n % 2 * 524288) (omega arith) in
    let small : n % 2 * 524288 < 4294967296 = omega arith in
    let even : (n % 2 * 524288 + 0) % 512 ≡ 0 = omega arith in
    rw (two.0, two.1, lt-ltb (n % 2 * 524288) 4294967296 small, eq-eqb ((n % 2 * 524288 + 0) % 512) 0 even) (fit n)

-- behind an entry whose coarse time is the other one
behind : (n k : ℕ) (e : Row) → time_key (time e) ≡ n % 2 → length (coarse_after e k (alternating n)) ≡ n
unfolding alternating coarse_after
behind zero k e h = refl
behind (suc n) k e h =
    let here : (n % 2 * 524288 % 2 ^ 32 + n % 2 * 524288 / 2 ^ 32 * 2 ^ 32) / 524288 ≡ n % 2 = rw (time_cells (n % 2 * 524288)) (omega arith) in
    let ne : suc n % 2 ≡ n % 2 → ⊥ = λ q. omega arith in
    let r = behind n (suc k) (entry_row 0 0 (n % 2 * 524288) 0 1) here in
    rw (h, here, ne_eqb (suc n % 2) (n % 2) ne) (ap suc r)

-- so each entry begins a run, the first one too
all_runs : (n : ℕ) → runs (alternating n) ≡ n
unfolding runs alternating
all_runs zero = refl
all_runs (suc n) = ap suc (behind n 1 (entry_row 0 0 (n % 2 * 524288) 0 1) (omega arith))

-- a map of n runs, n within its 18 bits: refused with 31 exactly over 65,535
pub eleven : (n : ℕ) → n < 262144 → write_refusal (one_map n) ≡ unless (leb n 65535) 31 0
unfolding one_map write_refusal counts_add cells_fit runs_fit
eleven n h =
    let t : take n (alternating n) ≡ alternating n = take_all n (alternating n) (omega (arith, size n)) in
    rw (add-zero n, size n, eq-eqb n n refl, lt-ltb n 262144 h, t, fit n, all_runs n) (last (leb n 65535))
  where
    last : (b : Bool) → unless (both b true) 31 0 ≡ unless b 31 0
    last true = refl
    last false = refl

-- ---- the sentence

-- case by case; those that are given nothing compute, apart from M11
pub holds : Holds table
unfolding table evaluate be_at bytes_of join_time join_packet refusal_of byte_of spn_of answer empty_clip sequences_bytes programs_bytes body_bytes cpi_bytes head_bytes encode counts_add cells_fit runs_fit write_refusal
holds =
    row (λ g. ap refusal (right_letters g))
    (row (λ g. ap refusal (seven_bytes g))
    (row (λ g. ap refusal (other_letters g))
    (row (λ g. refl)
    (row (λ g. refl)
    (row (λ g. refl)
    (row (λ g. ap answered (tenth_packet g))
    (row (λ g. ap answered (past_last g))
    (row (λ g. ap answered (before_all g))
    (row (λ g. refl)
    (row (λ g. ap refusal (eleven 65535 (lit< tt)))
    (row (λ g. ap refusal (eleven 65536 (lit< tt)))
    end)))))))))))
