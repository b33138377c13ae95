-- A stream's body as a part of the file.
use Prim.Native.Nat.{ℕ, ◌+◌, ◌/◌, ◌-◌, ◌≤◌}
use mathlib.Core.Path.{◌≡◌, refl, sym, ap, ◌∙◌}
use mathlib.Core.List.{List, [], ◌∷◌}
use mathlib.Core.Bool.{Bool, true, false, not}
use native.Mathlib.Nat.{add-zero}
use native.Mathlib.Omega.{arith}
use lib.ListN.{length, get_or, drop}
use lib.Seq.{get_or-drop}
use lib.Dec.{leb}
use Rattle.std.proofs.lemmas.List.{get_or-take, get_or_past}
use Rattle.std.proofs.lemmas.Bool.{leb-true, leb-false}
use Rattle.format.specs.Bytes.{both, pick, be_at, part}
use Rattle.format.specs.Programs.{is_video, lowered, coding_at, aspect_at, language_at, stream_at, next_stream}
use Rattle.format.proofs.Lists.{part_length}
use Rattle.format.proofs.Stores.{be_same}
use Rattle.format.proofs.Tests.{both_true}

-- a number that is picked counts where the test passes alone
pick_where : {A : Type 0} (b : Bool) (x y z : A) → (b ≡ true → x ≡ y) → pick b x z ≡ pick b y z
pick_where true x y z h = h refl
pick_where false x y z h = refl

module _ (f : List ℕ) (p n : ℕ) (inside : p + n ≤ length f) where
  -- a number that stands in the part stands in the file
  in_part : (k w : ℕ) → k + w ≤ n → be_at (part f p n) k w ≡ be_at f (p + k) w
  in_part k w h = be_same (part f p n) f k (p + k) w (λ i b. get_or-take n (drop p f) (k + i) 0 (omega arith) ∙ get_or-drop p f (k + i) 0 ∙ ap (λ (q : ℕ). get_or f q 0) (omega arith))

  -- byte k of the part, which is 0 where the part has none
  byte_is : (k : ℕ) → get_or (part f p n) k 0 ≡ pick (leb (k + 1) n) (be_at f (p + k) 1) 0
  unfolding be_at
  byte_is k = go (leb (k + 1) n) refl
    where
      one : be_at (part f p n) k 1 ≡ get_or (part f p n) k 0
      one = rw (add-zero k) (omega arith)

      go : (t : Bool) → leb (k + 1) n ≡ t → get_or (part f p n) k 0 ≡ pick t (be_at f (p + k) 1) 0
      go true e = sym one ∙ in_part k 1 (leb-true (k + 1) n e)
      go false e = get_or_past (part f p n) k 0 (rw (part_length f p n inside) (omega (arith, leb-false (k + 1) n e)))

  -- the aspect and the language that the part tells
  aspect_is : (video : Bool) → aspect_at video (part f p n) 0 (length (part f p n)) ≡ aspect_at video f p n
  aspect_is video = rw (part_length f p n inside) (pick_where (both video (leb 3 n)) _ _ 0 (λ t. ap (λ (v : ℕ). v / 16) (in_part 2 1 (leb-true 3 n (both_true t).1))))

  language_is : (video : Bool) → language_at video (part f p n) 0 (length (part f p n)) ≡ language_at video f p n
  language_is video = rw (part_length f p n inside) (pick_where (both (not video) (leb 5 n)) _ _ 0 (λ t. ap lowered (in_part 2 3 (leb-true 5 n (both_true t).1))))

-- a stream's PID and what its body tells are the cells of its row
pub stream_is : (f : List ℕ) (p : ℕ) {pid size coding format ratio tag : ℕ} {video : Bool} → next_stream f p ≤ length f → pid ≡ be_at f p 2 → size ≡ be_at f (p + 2) 1
    → (let body = part f (p + 3) (p + 3 + size - (p + 3)) in coding ≡ get_or body 0 0 → format ≡ get_or body 1 0 → video ≡ is_video coding
    → ratio ≡ aspect_at video body 0 (length body) → tag ≡ language_at video body 0 (length body) → pid ∷ coding ∷ format ∷ ratio ∷ tag ∷ [] ≡ stream_at f p)
stream_is f p {size = size} {coding = coding} h e s c x v a l =
    let n : p + 3 + size - (p + 3) ≡ size = omega arith in
    let inside : p + 3 + size ≤ length f = rw s h in
    let first : coding ≡ coding_at f (p + 3) size = rw (n, byte_is f (p + 3) size inside 0, add-zero (p + 3)) at c in
    rw (l, a, x, n, language_is f (p + 3) size inside, aspect_is f (p + 3) size inside, byte_is f (p + 3) size inside 1, v, first, s, e)
