-- The bit-field facts, from the laws of the fields.
use mathlib.Core.Path.{◌∙◌}
use native.Mathlib.Nat.{mod-eq_of_lt}
use Rattle.format.proofs.Fields.{shift_mask, shift_or, unpack, pack, time_is, time_back}
use Rattle.theorems.specs.BitFields.{BitFields, SharedBit}

-- packing what was unpacked keeps as many low bits as the widths add up to, which is all of a number that fits
pub bit_fields : BitFields
bit_fields = record {
  take_out = shift_mask;
  put_in = shift_or;
  built = λ widths values f. unpack f;
  taken_apart = λ widths x h. pack widths x ∙ mod-eq_of_lt h;
}

-- the joined time and its way back are laws of the fields too
pub shared_bit : SharedBit
shared_bit = record { joined = time_is; back = time_back }
