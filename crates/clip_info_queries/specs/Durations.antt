-- The code's choice of seconds or no rate as the answer of the definitions.
use Rattle.format.specs.Questions.{Answer, seconds, no_rate}
use Rattle.clip_info_queries.specs.declared.Duration.{Duration}

-- the code's answer as that of the definition
abbrev pub transfer_of : Duration → Answer
transfer_of (Duration.Seconds q) = seconds q
transfer_of Duration.NoRate = no_rate
