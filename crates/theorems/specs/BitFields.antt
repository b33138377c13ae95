-- The bit-field facts, for every width and every place together.
use Rattle.std.specs.Prelude.{ℕ, ◌+◌, ◌*◌, ◌-◌, ◌/◌, ◌%◌, ◌^◌, ◌<◌, max, ◌≡◌, List}
use Rattle.std.specs.Int.Bits.{bit_and, bit_or}
use Rattle.format.specs.Bytes.{width_of, unpacked, packed}
use Rattle.format.specs.EntryPoints.{join_time}
use Rattle.format.proofs.Fields.{Fit}

-- fields of a number taken out and put in by shifts, and lists of fields packed and unpacked
pub record BitFields : Type 0 where
  -- shift and mask are div and mod
  pub take_out : (x place width : ℕ) → bit_and (x / 2 ^ place) (2 ^ width - 1) ≡ x / 2 ^ place % 2 ^ width
  -- shift and OR of fields that share no bit are the sum
  pub put_in : (v place x : ℕ) → x < 2 ^ place → bit_or (v * 2 ^ place) x ≡ v * 2 ^ place + x
  -- over any list of widths: taking apart what was built gives the fields
  pub built : (widths values : List ℕ) → Fit widths values → unpacked widths (packed widths values) ≡ values
  -- and building what was taken apart gives the number back
  pub taken_apart : (widths : List ℕ) (x : ℕ) → x < 2 ^ width_of widths → packed widths (unpacked widths x) ≡ x

-- the entry time is no instance of these: the coarse and the fine time share bit 19, which either may set
pub record SharedBit : Type 0 where
  pub joined : (coarse fine : ℕ) → fine < 2 ^ 11
      → join_time coarse fine ≡ (coarse % 8192 / 2 * 2 + max (coarse % 2) (fine / 1024)) * 524288 + fine % 1024 * 512
  -- so every multiple of 512 below 2^32 is taken apart and joined again without loss
  pub back : (t : ℕ) → t < 2 ^ 32 → t % 512 ≡ 0 → join_time (t / 524288) (t / 512 % 2048) ≡ t
