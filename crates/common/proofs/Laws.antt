-- Where bytes end within the buffer, and what an answer of the reader or of the header says.
use Prim.Native.Nat.{ℕ, ◌+◌, ◌-◌, ◌<◌, ◌≤◌}
use mathlib.Core.Path.{◌≡◌, refl, sym, ap, ◌∙◌}
use mathlib.Core.List.{List}
use mathlib.Core.Bool.{Bool, true, false}
use native.Mathlib.Nat.{one-le-pow}
use native.Mathlib.Omega.{arith}
use lib.ListN.{length}
use lib.Dec.{leb, lit<}
use borrow.Author.Tests.{leb-true, leb-false, le-leb, lt-leb}
use Rattle.format.specs.Bytes.{be_at}
use Rattle.format.specs.ClipRecord.{are_letters, letters_right}
use Rattle.format.proofs.Tests.{picked, not_picked}
use Rattle.numbers.specs.Reads.{ReadIs}
use Rattle.common.specs.Header.{parsed_of, HeaderIs}
use Rattle.common.specs.declared.header.BdmvHeader.{BdmvHeader}
use Rattle.common.specs.Reader.{number_at, moved_to, NumberIs}
use Rattle.common.specs.declared.reader.Reader.{Reader}
use Rattle.std.specs.Prelude.{Some, None, Ok, Err}
use Rattle.refusals.specs.declared.Refusal.{Refusal}

-- ---- the end of the buffer

-- n bytes from a place past the end pass it
pub past : (pos n len : ℕ) → len < pos → false ≡ leb (pos + n) len
past pos n len h = sym (lt-leb (pos + n) len (omega arith))

-- n bytes from a place within pass the end where they pass what is left
pub rest : (pos n len : ℕ) → pos ≤ len → leb n (len - pos) ≡ leb (pos + n) len
rest pos n len h = by_test (leb n (len - pos)) refl
  where
    by_test : (t : Bool) → leb n (len - pos) ≡ t → leb n (len - pos) ≡ leb (pos + n) len
    by_test true e = e ∙ sym (le-leb (pos + n) len (omega (arith, leb-true n (len - pos) e)))
    by_test false e = e ∙ sym (lt-leb (pos + n) len (omega (arith, leb-false n (len - pos) e)))

-- the fact of a test that passed
pub passed : (a b : ℕ) {r : Bool} → r ≡ leb a b → r ≡ true → a ≤ b
passed a b e t = leb-true a b (sym e ∙ t)

-- ---- the header

module _ (f : List ℕ) {h : BdmvHeader} {r : Bool} (long : 8 ≤ length f) (is : HeaderIs f h) (e : r ≡ are_letters h.type_indicator) where
  -- the test on the four letters that were read is the one on the file
  letters : letters_right f ≡ r
  unfolding letters_right
  letters = sym (e ∙ rw is.letters)

  -- the header of a file with the right letters is told
  pub clip_parsed : r ≡ true → Ok h ≡ parsed_of f
  clip_parsed t = rw (le-leb 8 (length f) long, letters, t) (λ i. Ok (record { type_indicator = is.letters i; version_number = is.version i }))

  -- other letters are told to be so
  pub other_parsed : r ≡ false → Err Refusal.Letters ≡ parsed_of f
  other_parsed t = rw (le-leb 8 (length f) long, letters, t)

-- ---- what an answer of the reader says

-- the bytes do not pass the end and the number is read
pub number_read : (f : List ℕ) (p n : ℕ) {r : ℕ} → leb (p + n) (length f) ≡ true → ReadIs f p n r
    → NumberIs f p n (Some (r, record { pos = p + n }))
number_read f p n h is = record { same = rw (h, is.same); below = is.below }

-- the bytes pass the end
pub number_past : (f : List ℕ) (p n : ℕ) → leb (p + n) (length f) ≡ false → NumberIs f p n None
number_past f p n h = record { same = rw h; below = one-le-pow n 256 (lit< tt) }

-- what a caller learns of a number that was read
pub record Got (f : List ℕ) (p n v : ℕ) (next : Reader) : Type 0 where
  pub inside : p + n ≤ length f
  pub value : v ≡ be_at f p n
  pub behind : next.pos ≡ p + n

-- a read that gives a number gives that of n bytes at p, which are in the file, and the reader stands behind them
pub got : (f : List ℕ) (p n : ℕ) {v : ℕ} {next : Reader} → Some (v, next) ≡ number_at f p n → Got f p n v next
got f p n {v} {next} e =
    let t = picked (leb (p + n) (length f)) (λ e. let z : ◌≡◌ {A = ℕ} 0 1 = cc in omega arith) (sym e) in
    let is = t.1 in
    let there : ℕ × Reader = (be_at f p n, record { pos = p + n }) in
    let pair : there ≡ (v, next) = cc in
    record { inside = leb-true (p + n) (length f) t.0; value = sym (ap (λ (x : ℕ × Reader). x.0) pair); behind = sym (ap (λ (x : ℕ × Reader). x.1.pos) pair) }

-- where none was, the bytes pass the end
pub not_got : (f : List ℕ) (p n : ℕ) → None ≡ number_at f p n → length f < p + n
not_got f p n e = leb-false (p + n) (length f) (not_picked (leb (p + n) (length f)) (λ e. let z : ◌≡◌ {A = ℕ} 0 1 = cc in omega arith) (sym e)).0

-- a place within the file is reached, and one past its end is not
pub reached : (f : List ℕ) {p q : ℕ} → p ≡ q → p ≤ length f → Some (record { pos = p }) ≡ moved_to f q
reached f {p} e h = rw (← e, le-leb p (length f) h)

-- of a place past the end the answer says so
pub beyond : (f : List ℕ) (p : ℕ) → length f < p → None ≡ moved_to f p
beyond f p h = rw (lt-leb p (length f) h)

-- what a caller learns of a reader that moved
pub went : (f : List ℕ) (p : ℕ) {r : Reader} → Some r ≡ moved_to f p → (p ≤ length f) × (r.pos ≡ p)
went f p e =
    let t = picked (leb p (length f)) (λ e. let z : ◌≡◌ {A = ℕ} 0 1 = cc in omega arith) (sym e) in
    let is = t.1 in
    (leb-true p (length f) t.0, cc)

-- where it did not, the place lies past the end
pub stayed : (f : List ℕ) (p : ℕ) → None ≡ moved_to f p → length f < p
stayed f p e = leb-false p (length f) (not_picked (leb p (length f)) (λ e. let z : ◌≡◌ {A = ℕ} 0 1 = cc in omega arith) (sym e)).0
