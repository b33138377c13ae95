-- Packets, bytes and seconds: what each test answers.
use Prim.Native.Nat.{ℕ, ◌*◌, ◌/◌, ◌^◌, ◌<◌}
use mathlib.Core.Path.{◌≡◌, refl}
use mathlib.Core.Bool.{Bool, true, false}
use lib.Dec.{leb, ltb}
use lib.IntN.{pos}
use lib.Ieee.{binary64, of_int, div}
use borrow.Author.Tests.{eq-eqb, ne_eqb}
use Rattle.std.specs.Bool.{then_some}
use Rattle.std.proofs.Common.{Option, Ok}
use Rattle.format.specs.Bytes.{pick}
use Rattle.format.specs.Questions.{clip_byte_len, none, number, seconds, no_rate, spn_to_byte, byte_to_spn, transfer_duration_secs, byte_of, spn_of, transfer_secs, IsTransfer, answer, ask}
use Rattle.format.specs.Tables.{clip_in}
use Rattle.format.proofs.Rounding.{transfer_near}
use Rattle.queries.specs.Answers.{found_of}
use Rattle.queries.specs.Asked.{only_counts, only_scalars}

-- a number where a test passes, else none
told : (b : Bool) (n : ℕ) → found_of (Ok (then_some b n)) ≡ pick b (number n) none
told true n = refl
told false n = refl

module _ (packets : ℕ) where
  -- a packet number up to and including the count has a byte, 192 for each packet before it
  pub byte_told : (spn : ℕ) {byte : Option ℕ} → byte ≡ then_some (leb spn packets) (spn * 192) → found_of (Ok byte) ≡ ask (spn_to_byte spn) (only_scalars (only_counts 0 packets))
  unfolding ask answer clip_in byte_of
  byte_told spn is = rw is (told (leb spn packets) (spn * 192))

  -- a byte whose quotient by 192 is below the count is in the packet of that number
  pub spn_told : (byte : ℕ) {spn : Option ℕ} → spn ≡ then_some (ltb (byte / 192) packets) (byte / 192) → found_of (Ok spn) ≡ ask (byte_to_spn byte) (only_scalars (only_counts 0 packets))
  unfolding ask answer clip_in spn_of
  spn_told byte is = rw is (told (ltb (byte / 192) packets) (byte / 192))

module _ (rate packets : ℕ) where
  -- without a rate there are no seconds
  pub no_rate_lem : rate ≡ 0 → no_rate ≡ ask transfer_duration_secs (only_scalars (only_counts rate packets))
  unfolding ask answer clip_in transfer_secs
  no_rate_lem e = rw (eq-eqb rate 0 e)

  -- the quotient, and that it is near
  pub seconds_are : (rate ≡ 0 → ⊥) → seconds (div binary64 (of_int binary64 (pos (packets * 192))) (of_int binary64 (pos rate))) ≡ ask transfer_duration_secs (only_scalars (only_counts rate packets))
  unfolding ask answer clip_in transfer_secs
  seconds_are h = rw (ne_eqb rate 0 h)

  -- from a rate and a count of 32 bits the seconds are as near as the definition asks
  pub near : (rate ≡ 0 → ⊥) → rate < 2 ^ 32 → packets < 2 ^ 32 → IsTransfer rate packets (seconds (div binary64 (of_int binary64 (pos (packets * 192))) (of_int binary64 (pos rate))))
  unfolding transfer_secs
  near h r p = rw (ne_eqb rate 0 h) at (transfer_near rate packets r p)

-- ---- the clip's length

-- 192 bytes for each packet
pub len_is : (packets : ℕ) → number (packets * 192) ≡ ask clip_byte_len (only_scalars (only_counts 0 packets))
unfolding ask answer clip_in
len_is packets = refl
