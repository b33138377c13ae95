-- Rows stored one behind the other, for any reader of rows, stepping and bytes: what is left, put from here, gives the whole and ends where it ends.
use Prim.Native.Nat.{ℕ, ◌+◌, ◌-◌, ◌<◌, ◌≤◌}
use mathlib.Core.Path.{◌≡◌, refl, sym, ap, ◌∙◌}
use mathlib.Core.List.{List, [], ◌++◌}
use native.Mathlib.Nat.{add-zero}
use native.Mathlib.Omega.{arith}
use lib.ListN.{length, length-append}
use lib.Seq.{sets, length-sets}
use Rattle.format.specs.Bytes.{rows_at, flat}
use Rattle.format.specs.ClipRecord.{Row}
use Rattle.format.proofs.Loops.{put_more}
use Rattle.format.proofs.Rows.{rest_turn, rest_done}
use Rattle.format.proofs.Stores.{part_then}

-- ---- an output while bytes are stored

-- those that are left have room from `at` on, and put there give the whole, up to its end
pub record Storing (o₀ whole : List ℕ) (end : ℕ) (left o : List ℕ) (at : ℕ) : Type 0 where
  pub long : length o ≡ length o₀
  pub room : end ≤ length o
  pub behind : at + length left ≡ end
  pub rest : sets o at left ≡ whole

-- before the first store
pub storing_first : (o bytes : List ℕ) (at : ℕ) {left : List ℕ} → at + length bytes ≤ length o → left ≡ bytes
    → Storing o (sets o at bytes) (at + length bytes) left o at
storing_first o bytes at h e = record { long = refl; room = h; behind = rw e; rest = rw e }

module _ {o₀ whole : List ℕ} {end : ℕ} {left o : List ℕ} {at : ℕ} (s : Storing o₀ whole end left o at) where
  -- the part that comes next has room
  pub part_room : (part rest : List ℕ) → left ≡ part ++ rest → at + length part ≤ length o
  part_room part rest e = omega (arith, s.room, s.behind, ap length e, length-append part rest)

  -- it is stored
  pub part_put : (part rest : List ℕ) {o' : List ℕ} {at' : ℕ} → left ≡ part ++ rest → o' ≡ sets o at part → at' ≡ at + length part
      → Storing o₀ whole end rest o' at'
  part_put part rest {o'} e p place =
      let same : length o' ≡ length o = ap length p ∙ length-sets o at part in
      record {
        long = same ∙ s.long;
        room = omega (arith, s.room, same);
        behind = omega (arith, s.behind, place, ap length e, length-append part rest);
        rest = rw place (put_more o at (length part) part rest refl p (rw e at s.rest));
      }

  -- nothing is left
  pub storing_done : left ≡ [] → (at ≡ end) × (o ≡ whole)
  storing_done e = (sym (add-zero at) ∙ rw e at s.behind, rw e at s.rest)

-- ---- two parts, one behind the other, for which there is room

module _ (o a b : List ℕ) (at : ℕ) (room : at + length (a ++ b) ≤ length o) where
  -- the first has room
  pub first_room : at + length a ≤ length o
  first_room = omega (arith, length-append a b)

  module _ {o' : List ℕ} {to : ℕ} (place : to ≡ at + length a) (first : o' ≡ sets o at a) where
    -- the first is stored, and the second has room
    pub second_room : to + length b ≤ length o'
    second_room = omega (arith, length-append a b, ap length first, length-sets o at a)

    -- both are stored
    pub both_stored : {o'' : List ℕ} {end : ℕ} → (end ≡ to + length b) × (o'' ≡ sets o' to b) → (end ≡ at + length (a ++ b)) × (o'' ≡ sets o at (a ++ b))
    both_stored s = (omega (arith, s.0, length-append a b), part_then o at (length a) a b refl place first s.1)

-- ---- rows: `row q` is the row at q, and `next q` where the one behind it stands

module _ (row : ℕ → Row) (next : ℕ → ℕ) (bytes : Row → List ℕ) (q n : ℕ) where
  -- after k of n rows, the bytes of those from q on
  abbrev pub rows_left : ℕ → List ℕ
  rows_left k = flat bytes (rows_at row next q (n - k))

  -- with a turn to go, those of the row at q and of the rows behind it
  rows_turn : (k : ℕ) → k < n → rows_left k ≡ bytes (row q) ++ flat bytes (rows_at row next (next q) (n - (k + 1)))
  rows_turn k h = ap (flat bytes) (rest_turn row next q n k h)

module _ (row : ℕ → Row) (next : ℕ → ℕ) (bytes : Row → List ℕ) {o₀ whole : List ℕ} {end : ℕ} {o : List ℕ} {at : ℕ} (q n k : ℕ)
    (s : Storing o₀ whole end (rows_left row next bytes q n k) o at) (h : k < n) where
  -- there is room for the row at q
  pub row_room_lem : at + length (bytes (row q)) ≤ length o
  row_room_lem = part_room s (bytes (row q)) (rows_left row next bytes (next q) n (k + 1)) (rows_turn row next bytes q n k h)

  -- it is stored, and the rest goes behind it
  pub row_put : {o' : List ℕ} {at' q' : ℕ} → o' ≡ sets o at (bytes (row q)) → at' ≡ at + length (bytes (row q)) → q' ≡ next q
      → Storing o₀ whole end (rows_left row next bytes q' n (k + 1)) o' at'
  row_put p place e = rw e (part_put s (bytes (row q)) (rows_left row next bytes (next q) n (k + 1)) (rows_turn row next bytes q n k h) p place)

-- ---- lengths added up: what was added and what is left is all

module _ (row : ℕ → Row) (next : ℕ → ℕ) (bytes : Row → List ℕ) (whole : ℕ) where
  -- after k of n rows the sum, with what is left from q on, is the whole
  abbrev pub Adding : (sum q n k : ℕ) → Type 0
  Adding sum q n k = sum + length (rows_left row next bytes q n k) ≡ whole

  -- the row at q is added
  pub row_added : (sum q n k : ℕ) {v q' : ℕ} → Adding sum q n k → k < n → v ≡ length (bytes (row q)) → q' ≡ next q → Adding (sum + v) q' n (k + 1)
  row_added sum q n k a h is e =
      let later = flat bytes (rows_at row next (next q) (n - (k + 1))) in
      rw e (omega (arith, a, is, ap length (rows_turn row next bytes q n k h), length-append (bytes (row q)) later))

  -- none is left
  pub rows_added : (sum q n k : ℕ) → Adding sum q n k → n ≤ k → sum ≡ whole
  rows_added sum q n k a h = sym (add-zero sum) ∙ rw (rest_done row next q n k h) at a
