-- The numbers with which C is answered: the refusal first, then what the answer has, in its place.
use Rattle.std.specs.Prelude.{ℕ, ◌≡◌, [], ◌∷◌, true, false, length, get_or, replicate}
use Rattle.format.specs.Bytes.{part}
use Rattle.format.specs.Questions.{Answer, transfer_secs, answer_numbers}
use Rattle.format.specs.Refusals.{Stated, ReadAnswer, read_numbers, WriteAnswer, write_numbers}

-- the refusal, then zeros, unless it is 21 or 23; 0 where nothing is refused
pub record AnswerNumbers : Type 0 where
  -- a question: the refusal, whether there is a value, the value
  pub refused : (n : ℕ) → answer_numbers (Answer.refused n) ≡ n ∷ replicate 2 0
  pub nothing : (answer_numbers Answer.none ≡ replicate 3 0) × (answer_numbers Answer.no_rate ≡ replicate 3 0)
  pub value : (v : ℕ) → (answer_numbers (Answer.number v) ≡ 0 ∷ 1 ∷ v ∷ [])
      × (answer_numbers (Answer.ticks45 (record { ticks = v })) ≡ 0 ∷ 1 ∷ v ∷ []) × (answer_numbers (Answer.ticks90 (record { ticks = v })) ≡ 0 ∷ 1 ∷ v ∷ [])
  -- seconds as the bits of an f64: 1,000 packets at 96,000 bytes a second take 2, one packet at 47 takes the f64 that is nearest to 192 / 47
  pub two_seconds : answer_numbers (transfer_secs 96000 1000) ≡ 0 ∷ 1 ∷ 0x4000000000000000 ∷ []
  pub nearest : answer_numbers (transfer_secs 47 1) ≡ 0 ∷ 1 ∷ 0x4010572620AE4C41 ∷ []
  pub no_rate_lem : answer_numbers (transfer_secs 0 1) ≡ replicate 3 0
  -- reading: 22 numbers
  pub not_read : (n : ℕ) → read_numbers (ReadAnswer.refused n) ≡ n ∷ replicate 21 0
  pub short_table : (k n : ℕ) → read_numbers (ReadAnswer.too_short k n) ≡ 21 ∷ k ∷ n ∷ replicate 19 0
  pub read : (s : Stated) → (length (read_numbers (ReadAnswer.accepted s)) ≡ 22) × (part (read_numbers (ReadAnswer.accepted s)) 0 3 ≡ replicate 3 0)
  -- behind three zeros the scalars, the mark count, the rows of tables 1 to 9, and whether there is a list
  pub scalars : (s : Stated) → part (read_numbers (ReadAnswer.accepted s)) 3 8
      ≡ s.scalars.letters ∷ s.scalars.version ∷ s.scalars.stream_type ∷ s.scalars.application_type ∷ s.scalars.rate ∷ s.scalars.packets ∷ s.scalars.validity_flags ∷ s.scalars.format_id ∷ []
  pub marks : (s : Stated) → get_or (read_numbers (ReadAnswer.accepted s)) 11 0 ≡ s.marks
  pub rows : (s : Stated) → part (read_numbers (ReadAnswer.accepted s)) 12 9
      ≡ s.rows.atcs ∷ s.rows.stcs ∷ s.rows.programs ∷ s.rows.streams ∷ s.rows.maps ∷ s.rows.entries ∷ s.rows.extensions ∷ s.rows.list_programs ∷ s.rows.list_streams ∷ []
  pub list : (s : Stated) → (s.has_list ≡ true → get_or (read_numbers (ReadAnswer.accepted s)) 21 0 ≡ 1) × (s.has_list ≡ false → get_or (read_numbers (ReadAnswer.accepted s)) 21 0 ≡ 0)
  -- writing: the refusal, the bytes needed, the bytes written
  pub not_written : (n : ℕ) → write_numbers (WriteAnswer.refused n) ≡ n ∷ replicate 2 0
  pub short_output : (n : ℕ) → write_numbers (WriteAnswer.too_short n) ≡ 23 ∷ n ∷ 0 ∷ []
  pub written : (n : ℕ) → write_numbers (WriteAnswer.written n) ≡ 0 ∷ 0 ∷ n ∷ []
