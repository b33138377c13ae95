-- A part of some bytes put in place of as many.
use Prim.Native.Nat.{ℕ, ◌+◌, ◌-◌, ◌≤◌}
use mathlib.Core.Path.{◌≡◌, sym, ap, ◌∙◌}
use mathlib.Core.List.{List, ◌++◌}
use native.Mathlib.Omega.{arith}
use borrow.Rule.Slice.PartMut.{put_mid}
use lib.ListN.{length, take, drop}
use lib.Seq.{sets}
use Rattle.std.proofs.lemmas.List.{drop-drop, append_assoc}
use Rattle.std.proofs.lemmas.List.Edits.{sets-eq}

-- as many elements put in the middle are those elements put one by one
pub put_as_sets : {A : Type 0} (l xs : List A) (at n : ℕ) → length xs ≡ n → at + n ≤ length l
    → put_mid at (at + n - at) l xs ≡ sets l at xs
put_as_sets l xs at n e h =
    let count : at + n - at ≡ length xs = omega (arith, e) in
    ap (λ (k : ℕ). take at l ++ (xs ++ drop k (drop at l))) count
    ∙ ap (λ (r : List _). take at l ++ (xs ++ r)) (drop-drop (length xs) at l)
    ∙ sym (append_assoc (take at l) xs (drop (at + length xs) l))
    ∙ sym (sets-eq xs l at (omega (arith, e, h)))
