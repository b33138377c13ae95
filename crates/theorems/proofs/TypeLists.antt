-- The kinds as lists, by one test that asks whether a number stands in a list.
use Prim.Native.Nat.{ℕ, zero, suc, ◌+◌, ◌≤◌, ◌<◌}
use mathlib.Core.Path.{◌≡◌, refl, sym, subst, ◌∙◌}
use mathlib.Core.List.Memᴰ
use mathlib.Core.List.{List, [], ◌∷◌, Memᴰ}
use mathlib.Core.Bool.{Bool, true, false}
use native.Mathlib.Omega.{arith}
use lib.Dec.{leb, eqb}
use borrow.Author.Tests.{eqb-true, eqb-false, eq-eqb, leb-true}
use Rattle.format.specs.Bytes.{both, either}
use Rattle.format.specs.Programs.{is_video}
use Rattle.format.specs.Questions.{is_audio, is_video_map}
use Rattle.format.proofs.Lists.{All, none, more}
use Rattle.format.proofs.Lookups.{not_both}
use Rattle.format.proofs.Tests.{both_true}
use Rattle.theorems.specs.TypeLists.{video_types, audio_types, video_map_types, PassedBy, TypeLists}

-- whether x stands in a list
abbrev one_of : List ℕ → ℕ → Bool
one_of [] x = false
one_of (a ∷ rest) x = either (eqb x a) (one_of rest x)

-- one that does passes
member_passes : (x : ℕ) {xs : List ℕ} → Memᴰ x xs → one_of xs x ≡ true
member_passes x (Memᴰ.head {x = a} e) = rw (eq-eqb x a e)
member_passes x (Memᴰ.tail {x = a} m) = go (eqb x a) (member_passes x m)
  where
    go : {c : Bool} (b : Bool) → c ≡ true → either b c ≡ true
    go true h = refl
    go false h = h

-- one that passes does
passes_member : (x : ℕ) (xs : List ℕ) → one_of xs x ≡ true → Memᴰ x xs
passes_member x [] h = absurd (not_both h refl)
passes_member x (a ∷ rest) h = go (eqb x a) refl h (passes_member x rest)
  where
    go : (b : Bool) → eqb x a ≡ b → either b (one_of rest x) ≡ true → (one_of rest x ≡ true → Memᴰ x rest) → Memᴰ x (a ∷ rest)
    go true e t m = Memᴰ.head (eqb-true x a e)
    go false e t m = Memᴰ.tail (m t)

-- what all of a list have, each member has
each_of : (P : ℕ → Type 0) {x : ℕ} {xs : List ℕ} → All P xs → Memᴰ x xs → P x
each_of P none m = elim m [ ]
each_of P (more h hs) (Memᴰ.head e) = subst P (sym e) h
each_of P (more h hs) (Memᴰ.tail m) = each_of P hs m

-- a test that tells the same as standing in a list
passed_by : (test : ℕ → Bool) (members : List ℕ) → ((x : ℕ) → test x ≡ one_of members x) → PassedBy test members
passed_by test members same = record {
  each = λ x m. same x ∙ member_passes x m;
  no_other = λ x h. passes_member x members (sym (same x) ∙ h);
}

-- ---- the tests

-- nothing behind the last
last : (b : Bool) → either b false ≡ b
last true = refl
last false = refl

-- video
video_same : (x : ℕ) → is_video x ≡ one_of video_types x
unfolding is_video
video_same x = rw (last (eqb x 0xEA))

-- video maps
map_same : (x : ℕ) → is_video_map x ≡ one_of video_map_types x
map_same x = rw (last (eqb x 8))

-- the numbers from a, n of them
abbrev from : ℕ → ℕ → List ℕ
from a zero = []
from a (suc n) = a ∷ from (suc a) n

-- a number between is one of them
between : (x a n : ℕ) → a ≤ x → x < a + n → Memᴰ x (from a n)
between x a zero h l = absurd (omega arith)
between x a (suc n) h l = go (eqb x a) refl (between x (suc a) n)
  where
    go : (b : Bool) → eqb x a ≡ b → (suc a ≤ x → x < suc a + n → Memᴰ x (from (suc a) n)) → Memᴰ x (a ∷ from (suc a) n)
    go true e m = Memᴰ.head (eqb-true x a e)
    go false e m = let other = eqb-false x a e in Memᴰ.tail (m (omega arith) (omega arith))

-- audio: seven numbers in a row, and two more
audio_member : (x : ℕ) → is_audio x ≡ true → Memᴰ x audio_types
unfolding is_audio
audio_member x h = go (both (leb 0x80 x) (leb x 0x86)) refl h
  where
    go : (b : Bool) → both (leb 0x80 x) (leb x 0x86) ≡ b → either b (either (eqb x 0xA1) (eqb x 0xA2)) ≡ true → Memᴰ x audio_types
    go true e t =
        let p = both_true e in
        let low = leb-true 0x80 x p.0 in
        let high = leb-true x 0x86 p.1 in
        Memᴰ.append_left (0xA1 ∷ 0xA2 ∷ []) (between x 0x80 7 low (omega arith))
    go false e t = Memᴰ.append_right (from 0x80 7) (passes_member x (0xA1 ∷ 0xA2 ∷ []) (rw (last (eqb x 0xA2)) t))

-- each of the nine passes
nine_pass : All (λ y. is_audio y ≡ true) audio_types
unfolding is_audio
nine_pass = more refl (more refl (more refl (more refl (more refl (more refl (more refl (more refl (more refl none))))))))

-- the statements together
pub type_lists : TypeLists
type_lists = record {
  video = passed_by is_video video_types video_same;
  audio = record { each = λ x m. each_of (λ y. is_audio y ≡ true) nine_pass m; no_other = audio_member };
  video_map = passed_by is_video_map video_map_types map_same;
}
