-- Text stored part by part, and the digits of a number.
use Prim.Native.Nat.{ℕ, zero, suc, ◌+◌, ◌/◌, ◌%◌, ◌^◌, ◌<◌, ◌≤◌}
use mathlib.Core.Path.{◌≡◌, refl, sym, subst, ◌∙◌}
use mathlib.Core.List.{List, [], ◌∷◌, ◌++◌, append_assoc, append-nil}
use native.Mathlib.Nat.{add-zero}
use native.Mathlib.Numerals.{add-one}
use native.Mathlib.Omega.{arith}
use lib.ListN.{length, get_or, take, drop, length-append}
use lib.Seq.{drop-drop, take-suc}
use lib.Dec.{lit<}
use borrow.Author.Tests.{lt-ltb, le-ltb}
use borrow.Rule.Slice.PartMut.{put_mid}
use Rattle.std.specs.Fmt.{decimal}
use Rattle.std.proofs.lemmas.Fmt.{decimal_by_steps, length-decimal-le}
use Rattle.std.proofs.lemmas.List.Edits.{sets, sets-eq}
use Rattle.format.specs.Bytes.{flat}
use Rattle.format.specs.Listing.{digits}
use Rattle.format.proofs.Loops.{flat_append}
use Rattle.format.proofs.Stores.{sets_append}
use Rattle.text_lines.specs.declared.Text.{Text}
use Rattle.text_lines.specs.Stored.{Puts, PutsIn}

-- ---- text part by part

-- no text leaves all as it is
pub puts_none : (t : Text) → PutsIn 0 t [] t
puts_none t = record { text = record { place = sym (add-zero t.len); bytes = refl; size = refl; same = refl }; short = omega arith }

-- one text behind another
pub puts_then : {a b c : Text} {s t : List ℕ} → Puts a s b → Puts b t c → Puts a (s ++ t) c
puts_then {a} {b} {c} {s} {t} x y = record {
  place = simp length-append (omega (arith, x.place, y.place));
  bytes = y.bytes ∙ rw (x.bytes, x.place) (sym (sets_append a.out.now a.len s t));
  size = y.size ∙ x.size;
  same = y.same ∙ x.same;
}

-- two texts in the room of both
pub in_then : {a b c : Text} {m n : ℕ} {s t : List ℕ} → PutsIn m a s b → PutsIn n b t c → PutsIn (m + n) a (s ++ t) c
in_then x y = record { text = puts_then x.text y.text; short = omega (arith, x.short, y.short) }

-- the same text in other words
pub in_as : {a b : Text} {m : ℕ} {s t : List ℕ} → s ≡ t → PutsIn m a s b → PutsIn m a t b
in_as {a} {b} {m} q x = subst (λ (l : List ℕ). PutsIn m a l b) q x

-- in a room of as many bytes
pub in_room : {a b : Text} {m n : ℕ} {s : List ℕ} → m ≤ n → PutsIn m a s b → PutsIn n a s b
in_room h x = record { text = x.text; short = omega (arith, x.short) }

-- a word copied behind the text
pub copied : (d : List ℕ) (at n : ℕ) (s t : List ℕ) → at + length s ≤ length d → n ≡ length s → t ≡ s → put_mid at n d t ≡ sets d at s
copied d at n s t h e same =
    rw (same, e, drop-drop (length s) at d) (sym (sets-eq s d at h ∙ append_assoc (take at d) s (drop (at + length s) d)))

-- the text of one more
pub flat_more : {A : Type 0} (f : A → List ℕ) (xs : List A) (i : ℕ) (z : A) → i < length xs → flat f (take i xs) ++ f (get_or xs i z) ≡ flat f (take (i + 1) xs)
flat_more f xs i z h = sym (rw (add-one i, take-suc xs i z h) (flat_append f (take i xs) (get_or xs i z ∷ []) ∙ rw (append-nil (f (get_or xs i z)))))

-- ---- digits

-- the digits are those of the format, where there is room for them
Same : ℕ → List ℕ → Type 0
Same n ds = (k : ℕ) → length ds ≤ k → ds ≡ digits k n

-- a number below ten is one digit
same_one : (n : ℕ) → n < 10 → Same n ((48 + n) ∷ [])
unfolding Same digits
same_one n h zero room = absurd (omega arith)
same_one n h (suc k) room = let e : n % 10 ≡ n = omega arith in rw (lt-ltb n 10 h, e)

-- a larger one has the last digit behind those of its tenth
same_more : (n : ℕ) (ds : List ℕ) → 10 ≤ n → Same (n / 10) ds → Same n (ds ++ ((48 + n % 10) ∷ []))
unfolding Same digits
same_more n ds h s zero room = absurd (omega (arith, simp length-append at room))
same_more n ds h s (suc k) room = rw (le-ltb n 10 h, s k (omega (arith, simp length-append at room)))

-- a number of 32 bits has at most ten
pub decimal_few : (n : ℕ) → n < 2 ^ 32 → length (decimal n) ≤ 10
decimal_few n h = length-decimal-le 10 n (lit< tt) (omega arith) (omega arith)

-- and they are its digits in the format
pub decimal_same : (n : ℕ) → n < 2 ^ 32 → decimal n ≡ digits 20 n
unfolding Same
decimal_same n h = decimal_by_steps Same same_one same_more n (omega arith) 20 (omega (arith, decimal_few n h))
