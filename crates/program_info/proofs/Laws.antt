-- Programs with their streams: the place behind one.
use Prim.Native.Nat.{ℕ, ◌+◌, ◌<◌}
use mathlib.Core.Path.{◌≡◌}
use mathlib.Core.List.{List}
use native.Mathlib.Omega.{arith}
use lib.ListN.{length}
use Rattle.format.specs.Programs.{next_program}
use Rattle.format.proofs.Places.{program_head}
use Rattle.std.specs.Prelude.{None}
use Rattle.common.specs.Reader.{moved_to}
use Rattle.common.proofs.Laws.{beyond}

-- ---- the place behind a stream and behind a program

module _ (f : List ℕ) (p : ℕ) where
  -- the eight bytes of the program pass the end
  pub program_cut : length f < p + 8 → None ≡ moved_to f (next_program f p)
  program_cut h = beyond f (next_program f p) (omega (arith, program_head f p))
