-- Each case has its numbers.
use mathlib.Core.Path.{sym, ap}
use lib.Ieee.{of_bits, to_bits}
use Rattle.format.specs.Questions.{answer_numbers}
use Rattle.clip_info_queries.specs.Durations.{transfer_of}
use Rattle.clpi_answers.proofs.seconds.seconds_of.Goals as goal

pub returns-in-Seconds : goal.returns-in-Seconds
returns-in-Seconds c = sym (ap (λ x. answer_numbers (transfer_of x)) c.in-Seconds.is)

pub returns-in-NoRate : goal.returns-in-NoRate
unfolding to_bits of_bits
returns-in-NoRate c = sym (ap (λ x. answer_numbers (transfer_of x)) c.in-NoRate.is)
