-- Runs, coarse rows, fine rows: joined by the stepping rule they give the entries back.
use Prim.Native.Nat.{ℕ, suc, ◌+◌, ◌*◌, ◌/◌, ◌%◌, ◌^◌, ◌<◌, ◌≤◌}
use mathlib.Core.Path.{◌≡◌, refl, ap₂, ◌∙◌}
use mathlib.Core.List.{List, [], ◌∷◌}
use mathlib.Core.Bool.{Bool, true, false}
use native.Mathlib.Nat.{le_refl}
use native.Mathlib.Omega.{arith}
use lib.ListN.{get_or}
use borrow.Author.Tests.{le-leb, lt-leb, eqb-true}
use Rattle.format.specs.ClipRecord.{Row, time, packet, entry_type_of}
use Rattle.format.specs.EntryPoints.{coarse_time, coarse_packet, entry_of, step_on, coarse_for, entries_for}
use Rattle.format.specs.Refusals.{entry_bits}
use Rattle.format.specs.Rewriting.{time_key, packet_key, same_run, coarse_row, unless_same, coarse_after, coarse_rows, fine_row}
use Rattle.format.proofs.Fields.{Fit, time_back, packet_back, one}
use Rattle.format.proofs.Lists.{All, none, more}
use Rattle.format.proofs.Tests.{both_true}

-- ---- the stepping rule

-- rows that start past k are not stepped to
stay : (c e : Row) (k j : ℕ) (xs : List Row) → k < j → step_on c (coarse_after e j xs) k ≡ c
unfolding coarse_after
stay c e k j [] h = refl
stay c e k j (x ∷ xs) h = go (same_run e x) (stay c x k (suc j) xs (omega arith))
  where
    go : (b : Bool) → step_on c (coarse_after x (suc j) xs) k ≡ c
        → step_on c (unless_same b (coarse_row j x) (coarse_after x (suc j) xs)) k ≡ c
    go true i = i
    go false i = rw (lt-leb j k h)

-- the fine rows of entries, one for each, in their order
abbrev pub fines_of : List Row → List Row
fines_of [] = []
fines_of (e ∷ es) = fine_row e ∷ fines_of es

-- coarse row c has the key of entry e
record Covers (c e : Row) : Type 0 where
  same_time : coarse_time c ≡ time_key (time e)
  same_packet : coarse_packet c / 131072 ≡ packet_key (packet e)

-- an entry of a map of this type
pub record GoodEntry (type : ℕ) (e : Row) : Type 0 where
  pub cells : Fit entry_bits e
  pub step : time e % 512 ≡ 0
  pub type_same : entry_type_of e ≡ type

-- an entry whose time is a multiple of 512 comes back from its fine row and any coarse row with its key
joined_by : (type : ℕ) (c e : Row) → Fit entry_bits e → time e % 512 ≡ 0 → entry_type_of e ≡ type → Covers c e → entry_of type c (fine_row e) ≡ e
joined_by type c e (one {v = a} ha (one {v = i} hi (one {v = t} ht (one {v = u} hu (one {v = p} hp (one {v = y} hy Fit.none)))))) m ts k =
    let none : u ≡ 0 = omega arith in
    let below : t + u * 2 ^ 32 < 2 ^ 32 = omega arith in
    let low : (t + u * 2 ^ 32) % 2 ^ 32 ≡ t = omega arith in
    let high : (t + u * 2 ^ 32) / 2 ^ 32 ≡ u = omega arith in
    rw (k.same_time, time_back (t + u * 2 ^ 32) below m, low, high, packet_back (get_or c 2 0) p k.same_packet, ts)

module _ (type : ℕ) (whole : List Row) where
  -- from entry k on: the rule reaches, for every j from k on, what it reaches from row c
  join_from : (c e : Row) (k : ℕ) {xs : List Row} → All (GoodEntry type) xs → Covers c e
      → ((j : ℕ) → k ≤ j → coarse_for whole j ≡ step_on c (coarse_after e k xs) j)
      → entries_for type whole k (fines_of xs) ≡ xs
  unfolding coarse_after
  join_from c e k none cov way = refl
  join_from c e k (more {x = x} {xs = xs} g gs) cov way = go (same_run e x) refl way (λ d cov' way'. join_from d x (suc k) gs cov' way')
    where
      here : (d : Row) → Covers d x → coarse_for whole k ≡ d → entry_of type (coarse_for whole k) (fine_row x) ≡ x
      here d cov' e = rw e (joined_by type d x g.cells g.step g.type_same cov')

      go : (b : Bool) → same_run e x ≡ b
          → ((j : ℕ) → k ≤ j → coarse_for whole j ≡ step_on c (unless_same b (coarse_row k x) (coarse_after x (suc k) xs)) j)
          → ((d : Row) → Covers d x → ((j : ℕ) → suc k ≤ j → coarse_for whole j ≡ step_on d (coarse_after x (suc k) xs) j)
          → entries_for type whole (suc k) (fines_of xs) ≡ xs)
          → entry_of type (coarse_for whole k) (fine_row x) ∷ entries_for type whole (suc k) (fines_of xs) ≡ x ∷ xs
      go true t way rest =
          let b = both_true t in
          let cov' : Covers c x = record {
            same_time = cov.same_time ∙ eqb-true (time_key (time e)) (time_key (time x)) b.0;
            same_packet = cov.same_packet ∙ eqb-true (packet_key (packet e)) (packet_key (packet x)) b.1;
          } in
          ap₂ (λ (y : Row) (ys : List Row). y ∷ ys)
          (here c cov' (way k (le_refl k) ∙ stay c x k (suc k) xs (le_refl (suc k))))
          (rest c cov' (λ j h. way j (omega arith)))
      go false t way rest =
          let cov' : Covers (coarse_row k x) x = record { same_time = refl; same_packet = refl } in
          let way' : (j : ℕ) → k ≤ j → coarse_for whole j ≡ step_on (coarse_row k x) (coarse_after x (suc k) xs) j =
          λ j h. way j h ∙ rw (le-leb k j h) in
          ap₂ (λ (y : Row) (ys : List Row). y ∷ ys)
          (here (coarse_row k x) cov' (way' k (le_refl k) ∙ stay (coarse_row k x) x k (suc k) xs (le_refl (suc k))))
          (rest (coarse_row k x) cov' (λ j h. way' j (omega arith)))

-- a map's entries are given back
pub join_back : (type : ℕ) {es : List Row} → All (GoodEntry type) es → entries_for type (coarse_rows es) 0 (fines_of es) ≡ es
join_back type none = refl
join_back type (more {x = x} {xs = xs} g gs) =
    let cov : Covers (coarse_row 0 x) x = record { same_time = refl; same_packet = refl } in
    let whole = coarse_rows (x ∷ xs) in
    ap₂ (λ (y : Row) (ys : List Row). y ∷ ys)
    (rw (stay (coarse_row 0 x) x 0 1 xs (le_refl 1)) (joined_by type (coarse_row 0 x) x g.cells g.step g.type_same cov))
    (join_from type whole (coarse_row 0 x) x 1 gs cov (λ j h. refl))
