-- Reading read by read, from the laws of reads.
use Prim.Native.Nat.{ℕ}
use mathlib.Core.List.{List}
use Rattle.format.proofs.ReadByRead.{refusal_read_lem, extensions_read_lem, list_read}
use Rattle.theorems.specs.ReadByRead.{ReadByRead}

-- of any list of bytes, accepted or not
pub read_by_read : (f : List ℕ) → ReadByRead f
read_by_read f = record { refusal = refusal_read_lem f; extensions = extensions_read_lem f; list = list_read f }
