-- The cases of a sample in turn: what is counted, with what is left, is the whole.
use Prim.Native.Nat.{ℕ, zero, suc, ◌+◌, ◌-◌, ◌<◌, ◌≤◌}
use mathlib.Core.Path.{◌≡◌, refl, ap, ◌∙◌}
use mathlib.Core.List.{List, [], ◌∷◌}
use mathlib.Core.Bool.{Bool, true, false}
use native.Mathlib.Nat.{sub-zero}
use native.Mathlib.Omega.{arith}
use lib.ListN.{length, drop, length-drop}
use borrow.Author.Tests.{le-leb, lt-leb}
use Rattle.std.specs.Int.{from_bool}
use Rattle.format.specs.Bytes.{total}
use Rattle.format.specs.Refusals.{flag}
use Rattle.format.proofs.Loops.{one_left}
use Rattle.replay_cases.specs.Sample.{file_length, answer_length, case_length, case_same, cases_from, cases_of, tally_of}

-- a flag counts at most one
flag_small : (b : Bool) → flag b ≤ 1
flag_small true = omega arith
flag_small false = omega arith

-- the library's number of a flag is this one
pub flag_is : (b : Bool) → from_bool b ≡ flag b
flag_is true = refl
flag_is false = refl

-- a case that is cut short is none
no_cases : (k : ℕ) (s : List ℕ) → length s < case_length s → cases_from k s ≡ []
unfolding cases_from
no_cases zero s h = refl
no_cases (suc k) s h = rw (lt-leb (case_length s) (length s) h)

-- a whole case comes first
one_case : (k : ℕ) (s : List ℕ) → case_length s ≤ length s
    → cases_from (suc k) s ≡ case_same s 8 (file_length s) (answer_length s) ∷ cases_from k (drop (case_length s) s)
unfolding cases_from
one_case k s h = rw (le-leb (case_length s) (length s) h)

module _ (s : List ℕ) where
  -- after so many cases, with this left
  pub record Counted (cases same : ℕ) (rest : List ℕ) : Type 0 where
    pub few : cases + length rest ≤ length s
    pub less : same ≤ cases
    pub all : cases + length (cases_from (length s - cases) rest) ≡ length (cases_of s)
    pub alike : same + total flag (cases_from (length s - cases) rest) ≡ total flag (cases_of s)

  -- before the first case
  pub none_counted : Counted 0 0 s
  none_counted = record {
    few = omega arith;
    less = omega arith;
    all = rw (sub-zero (length s)) (omega arith);
    alike = rw (sub-zero (length s)) (omega arith);
  }

  -- a case that is cut short ends them
  pub ended : {cases same : ℕ} {rest : List ℕ} → length rest < case_length rest → Counted cases same rest → record { cases = cases; same = same } ≡ tally_of (cases_of s)
  ended {cases} {same} {rest} h c =
      let none = no_cases (length s - cases) rest h in
      let e1 : cases ≡ length (cases_of s) = omega (arith, rw none at c.all) in
      let e2 : same ≡ total flag (cases_of s) = omega (arith, rw none at c.alike) in
      λ i. record { cases = e1 i; same = e2 i }

  -- a case is counted
  pub one_counted : {cases same same' : ℕ} {rest rest' : List ℕ} {b : Bool} → case_length rest ≤ length rest → b ≡ case_same rest 8 (file_length rest) (answer_length rest)
      → same' ≡ same + flag b → rest' ≡ drop (case_length rest) rest → Counted cases same rest → Counted (cases + 1) same' rest'
  one_counted {cases} {same} {same'} {rest} {rest'} {b} h b-is e rest-is c =
      let few = c.few in
      let less = c.less in
      let later = cases_from (length s - (cases + 1)) rest' in
      let turn : length s - cases ≡ suc (length s - (cases + 1)) = one_left (length s) cases (omega arith) in
      let first : cases_from (length s - cases) rest ≡ b ∷ later = rw (turn, b-is, rest-is) (one_case (length s - (cases + 1)) rest h) in
      let size : length rest' ≡ length rest - case_length rest = ap length rest-is ∙ length-drop (case_length rest) rest in
      record {
        few = omega arith;
        less = omega (arith, flag_small b);
        all = omega (arith, rw first at c.all);
        alike = omega (arith, rw first at c.alike);
      }
