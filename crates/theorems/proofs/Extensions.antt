-- Extensions: the rows are the entries that the rule keeps, and the list is that of the first (2, 5) entry.
use Prim.Native.Nat.{ℕ, zero, suc, ◌+◌, ◌<◌, ◌≤◌, min}
use mathlib.Core.Path.{◌≡◌, refl, ap}
use mathlib.Core.List.{List, [], ◌∷◌, ◌++◌, Memᴰ}
use mathlib.Core.Bool.{Bool, true, false, not}
use native.Mathlib.Omega.{arith}
use lib.ListN.{length, drop, length-drop}
use lib.Seq.{length-take-le}
use lib.Dec.{eqb}
use borrow.Author.Tests.{eqb-true, eqb-false, ne_eqb, eq-eqb, leb-true, le-leb, not-true}
use Rattle.format.specs.Bytes.{be_at, both, pick, gather}
use Rattle.format.specs.ClipRecord.{Extension}
use Rattle.format.specs.Programs.{programs_from, streams_from, programs_end}
use Rattle.format.specs.Extensions.{block_end, extension_count, address_at, data_length_at, next_extension, extension_at, is_kept, kept_at, has_extensions, extension_rows, nothing, found, list_data, list_in}
use Rattle.format.specs.Reading.{record_of}
use Rattle.format.proofs.Tests.{both_true, true_both}
use Rattle.format.proofs.Lists.{All, none, more, all_append}
use Rattle.theorems.specs.Extensions.{entry_at, Kept, IsKept, IsList, Extensions}

module _ (f : List ℕ) (start : ℕ) where
  -- the test and the rule
  kept_of : (p : ℕ) → is_kept f start p ≡ true → Kept f start p
  kept_of p h =
      let end = start + address_at f p + data_length_at f p in
      let b = both_true h in
      let l = leb-true end (min (block_end f start) (length f)) b.1 in
      record { address = eqb-false (address_at f p) 0 (not-true (eqb (address_at f p) 0) b.0); in_block = omega arith; in_file = omega arith }

  -- an entry that the rule keeps passes the test
  of_kept : (p : ℕ) → Kept f start p → is_kept f start p ≡ true
  of_kept p k =
      let a = k.in_block in
      let b = k.in_file in
      true_both (ap not (ne_eqb (address_at f p) 0 k.address))
      (le-leb (start + address_at f p + data_length_at f p) (min (block_end f start) (length f)) (omega arith))

  -- the row of entry k
  entry_kept : (k : ℕ) → k < extension_count f start → is_kept f start (entry_at start k) ≡ true → IsKept f start (extension_at f start (entry_at start k))
  entry_kept k h t =
      let p = entry_at start k in
      let g = kept_of p t in
      let i = g.in_file in
      let room : data_length_at f p ≤ length (drop (start + address_at f p) f) = omega (arith, length-drop (start + address_at f p) f) in
      record { entry = k; one_of = h; kept = g; row_is = refl; whole = length-take-le (data_length_at f p) (drop (start + address_at f p) f) room }

  -- the rows of n entries from entry k on
  rows_kept : (k n : ℕ) → k + n ≤ extension_count f start → All (IsKept f start) (gather (kept_at f start) next_extension (entry_at start k) n)
  rows_kept k zero h = none
  rows_kept k (suc n) h =
      let e : entry_at start k + 12 ≡ entry_at start (suc k) = omega arith in
      all_append (go (is_kept f start (entry_at start k)) refl) (rw e (rows_kept (suc k) n (omega arith)))
    where
      go : (b : Bool) → is_kept f start (entry_at start k) ≡ b → All (IsKept f start) (pick b (extension_at f start (entry_at start k) ∷ []) [])
      go true t = more (entry_kept k (omega arith) t) none
      go false t = none

  -- an entry that passes the test, j behind entry k, has its row among those of n entries from k on
  has_row : (k n j : ℕ) → j < n → is_kept f start (entry_at start (k + j)) ≡ true
      → Memᴰ (extension_at f start (entry_at start (k + j))) (gather (kept_at f start) next_extension (entry_at start k) n)
  has_row k zero j h t = absurd (omega arith)
  has_row k (suc n) zero h t =
      let z : k + 0 ≡ k = omega arith in
      let t' : is_kept f start (entry_at start k) ≡ true = rw z at t in
      let here : Memᴰ (extension_at f start (entry_at start (k + 0))) (kept_at f start (entry_at start k)) = rw (t', z) (mathlib.Core.List.Memᴰ.head refl) in
      mathlib.Core.List.Memᴰ.append_left (gather (kept_at f start) next_extension (next_extension (entry_at start k)) n) here
  has_row k (suc n) (suc j) h t =
      let z : k + suc j ≡ suc k + j = omega arith in
      let e : entry_at start k + 12 ≡ entry_at start (suc k) = omega arith in
      let t' : is_kept f start (entry_at start (suc k + j)) ≡ true = rw z at t in
      let later = has_row (suc k) n j (omega arith) t' in
      rw (z, e) (mathlib.Core.List.Memᴰ.append_right (kept_at f start (entry_at start k)) later)

  -- entry 0 stands behind the 12 bytes of the block's head
  first_at : start + 12 ≡ entry_at start 0
  first_at = omega arith

  -- without a block there are no rows; else every row is that of an entry which is kept
  rows_all : All (IsKept f start) (extension_rows f start)
  unfolding extension_rows
  rows_all = go (has_extensions f start)
    where
      go : (b : Bool) → All (IsKept f start) (pick b (gather (kept_at f start) next_extension (start + 12) (extension_count f start)) [])
      go true = rw first_at (rows_kept 0 (extension_count f start) (omega arith))
      go false = none

  -- in a block whose reads succeed, every entry that the rule keeps has its row
  all_rows : (k : ℕ) → has_extensions f start ≡ true → k < extension_count f start → Kept f start (entry_at start k)
      → Memᴰ (extension_at f start (entry_at start k)) (extension_rows f start)
  unfolding extension_rows
  all_rows k b h g =
      let z : 0 + k ≡ k = omega arith in
      let m = has_row 0 (extension_count f start) k h (rw z (of_kept (entry_at start k) g)) in
      rw b (rw (z, ← first_at) at m)

  -- a block with a failed read, or none, has no rows
  no_rows : has_extensions f start ≡ false → extension_rows f start ≡ []
  unfolding extension_rows
  no_rows h = rw h

-- ---- the (2, 5) list

-- other ids fail the test for 2 and 5
not_list : (x : Extension) → (IsList x → ⊥) → both (eqb x.id1 2) (eqb x.id2 5) ≡ false
not_list x h = go (eqb x.id1 2) (eqb x.id2 5) refl refl
  where
    go : (a b : Bool) → eqb x.id1 2 ≡ a → eqb x.id2 5 ≡ b → both a b ≡ false
    go true true s t = absurd (h (eqb-true x.id1 2 s, eqb-true x.id2 5 t))
    go true false s t = refl
    go false b s t = refl

-- extensions with other ids are passed over, and the first with these ids gives the list
first_list : {before : List Extension} (x : Extension) (behind : List Extension) → All (λ y. IsList y → ⊥) before → IsList x
    → list_data (before ++ (x ∷ behind)) ≡ found x.bytes
unfolding list_data
first_list x behind none h = rw (eq-eqb x.id1 2 h.0, eq-eqb x.id2 5 h.1)
first_list x behind (more {x = y} k ks) h = rw (not_list y k) (first_list x behind ks h)

-- where none has these ids there is no list
no_list : {xs : List Extension} → All (λ y. IsList y → ⊥) xs → list_data xs ≡ nothing
unfolding list_data
no_list none = refl
no_list (more {x = y} k ks) = rw (not_list y k) (no_list ks)

-- a record without a list has no programs and no streams of one
absent_list : (f : List ℕ) → (record_of f).has_list ≡ false → ((record_of f).list_programs ≡ []) × ((record_of f).list_streams ≡ [])
unfolding record_of
absent_list f h = (rw h, rw h)

-- the statements together; the lists of six and of five zero bytes compute
pub extensions : (f : List ℕ) → Extensions f
unfolding list_in programs_from streams_from programs_end be_at extension_rows
extensions f = record {
  rows = rows_all f;
  all = all_rows f;
  as_record = λ start p. refl;
  no_block = no_rows f;
  first = λ before x behind h k. first_list x behind h k;
  without = no_list;
  absent = absent_list f;
  empty = (refl, refl, refl);
  none = refl;
  ends_with_block = refl;
  past_block = refl;
}
