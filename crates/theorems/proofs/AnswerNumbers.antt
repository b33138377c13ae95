-- The numbers of answers, by computation.
use mathlib.Core.Path.{◌≡◌, refl}
use mathlib.Core.Bool.{true, false}
use lib.Ieee.{to_bits, div, of_int}
use Rattle.format.specs.Questions.{transfer_secs}
use Rattle.format.specs.Refusals.{Stated, flag}
use Rattle.theorems.specs.AnswerNumbers.{AnswerNumbers}

-- whether there is a list
flag_is : (s : Stated) → (s.has_list ≡ true → flag s.has_list ≡ 1) × (s.has_list ≡ false → flag s.has_list ≡ 0)
flag_is s = (λ e. rw e, λ e. rw e)

-- all of them
pub answer_numbers_lem : AnswerNumbers
unfolding transfer_secs to_bits div of_int
answer_numbers_lem = record {
  refused = λ n. refl;
  nothing = (refl, refl);
  value = λ v. (refl, refl, refl);
  two_seconds = refl;
  nearest = refl;
  no_rate_lem = refl;
  not_read = λ n. refl;
  short_table = λ k n. refl;
  read = λ s. (refl, refl);
  scalars = λ s. refl;
  marks = λ s. refl;
  rows = λ s. refl;
  list = flag_is;
  not_written = λ n. refl;
  short_output = λ n. refl;
  written = λ n. refl;
}
