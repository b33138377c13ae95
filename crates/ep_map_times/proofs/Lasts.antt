-- The first time of some entries and the last, and the questions that ask for them.
use Prim.Native.Nat.{ℕ, suc}
use mathlib.Core.Path.{◌≡◌, refl, sym, ap, ◌∙◌}
use mathlib.Core.List.{List, [], ◌∷◌}
use native.Mathlib.Omega.{arith}
use lib.ListN.{length, get_or}
use Rattle.format.specs.ClipRecord.{Row, entry_time}
use Rattle.format.specs.Ticks.{Ticks90, less90}
use Rattle.format.specs.Questions.{none, ticks90, last_of, span_of, first_time, last_time, indexed_span_90k, first_pts, last_pts, answer}
use Rattle.format.specs.Tables.{Table, clip_in}
use Rattle.ep_map_queries.proofs.Answers.{AsksMap}

-- the last of rows behind a row
last_is : (e : Row) (es : List Row) → last_of (entry_time e) es ≡ entry_time (get_or (e ∷ es) (length es) [])
last_is e [] = refl
last_is e (f ∷ es) = last_is f es

-- without a last time there are no entries, and nothing is spanned
pub no_span : (es : List Row) → none ≡ last_time es → record { ticks = 0 } ≡ span_of es
unfolding span_of
no_span [] e = refl
no_span (x ∷ es) e = cc

module _ (es : List Row) (k : ℕ) (all : suc k ≡ length es) {last : Ticks90} (l : last ≡ entry_time (get_or es k [])) where
  -- the last row has the last time
  pub end_is : ticks90 last ≡ last_time es
  end_is = go es all l
    where
      go : (es : List Row) → suc k ≡ length es → last ≡ entry_time (get_or es k []) → ticks90 last ≡ last_time es
      go [] e l = absurd (omega arith)
      go (x ∷ xs) e l =
          let m : k ≡ length xs = omega arith in
          ap (λ (t : Ticks90). ticks90 t) (rw m at l ∙ sym (last_is x xs))

-- the last time less the first is the span
pub span_is : (es : List Row) {last start r : Ticks90} → ticks90 last ≡ last_time es → start ≡ entry_time (get_or es 0 []) → r ≡ less90 last start → r ≡ span_of es
unfolding span_of
span_is [] l s r = cc
span_is (e ∷ es) {last} l s r = let is : last ≡ last_of (entry_time e) es = cc in rw (r, is, s)

-- the questions about one map
module _ (maps entries : Table) (m : ℕ) where
  -- the first time is asked of the entries of map m
  pub first_asks : AsksMap (first_pts m) maps entries m (λ es. first_time es)
  unfolding answer clip_in
  first_asks = record { two = refl; asks = refl }

  -- so is the last
  pub last_asks : AsksMap (last_pts m) maps entries m (λ es. last_time es)
  unfolding answer clip_in
  last_asks = record { two = refl; asks = refl }

  -- and the span
  pub span_asks : AsksMap (indexed_span_90k m) maps entries m (λ es. ticks90 (span_of es))
  unfolding answer clip_in
  span_asks = record { two = refl; asks = refl }
