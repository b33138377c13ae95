-- What the contracts of `read` and `write` claim, in the words of the promise.
use Prim.Native.Nat.{ℕ}
use mathlib.Core.Path.{◌≡◌}
use mathlib.Core.List.{List}
use Rattle.format.specs.Refusals.{read_answer, tables_after, write_answer, output_after}
use Rattle.clip_information.specs.Read.{read_answer_of, nine_tables_of}
use Rattle.clip_information.proofs.read.read.Reads as read
use Rattle.encode.specs.Writing.{write_answer_of}
use Rattle.encode.proofs.write.write.Reads as write
use Rattle.query_theorems.specs.Calls.{Call}
use Rattle.rewriting_theorems.specs.Rewriting.{file_of, tables_given, tables_left, given_to, output_given, output_left}

-- nine tables that are equal one by one are equal
nine_same : {a a' b b' c c' d d' e e' f f' g g' h h' i i' : List ℕ}
    → a ≡ a' → b ≡ b' → c ≡ c' → d ≡ d' → e ≡ e' → f ≡ f' → g ≡ g' → h ≡ h' → i ≡ i'
    → nine_tables_of a b c d e f g h i ≡ nine_tables_of a' b' c' d' e' f' g' h' i'
nine_same p q r s t u v w z = rw (p, q, r, s, t, u, v, w, z)

module _ (x : Call read.Post) where
  -- the answer of reading
  pub read_answer_lem : read_answer_of x.result ≡ read_answer (file_of x) (tables_given x)
  read_answer_lem = x.allowed.0

  -- and the nine tables behind it
  pub tables_left_lem : tables_left x ≡ tables_after (file_of x) (tables_given x)
  unfolding tables_after
  tables_left_lem =
      let e = x.allowed.1 in
      rw (← read_answer_lem)
      (nine_same e.0 e.1.0 e.1.1.0 e.1.1.1.0 e.1.1.1.1.0 e.1.1.1.1.1.0 e.1.1.1.1.1.1.0 e.1.1.1.1.1.1.1.0 e.1.1.1.1.1.1.1.1)

module _ (w : Call write.Post) where
  -- the answer of writing
  pub write_answer_lem : write_answer_of w.result ≡ write_answer (given_to w) (output_given w)
  write_answer_lem = w.allowed.0

  -- and the output behind it
  pub output_left_lem : output_left w ≡ output_after (given_to w) (output_given w)
  unfolding output_after
  output_left_lem = rw (← write_answer_lem) w.allowed.1
