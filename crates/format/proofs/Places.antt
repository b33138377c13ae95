-- Where items stand: none is behind the next one, and its head stands before that one.
use Prim.Native.Nat.{ℕ, ◌+◌, ◌≤◌}
use mathlib.Core.List.{List}
use native.Mathlib.Omega.{arith}
use Rattle.format.specs.Bytes.{be_at}
use Rattle.format.specs.ClipRecord.{next_stc, next_atc}
use Rattle.format.specs.Programs.{next_stream, next_program}
use Rattle.format.proofs.Loops.{end_ge}

-- an STC is not behind the next one
pub up_stc : (p : ℕ) → p ≤ next_stc p
up_stc p = omega arith

module _ (f : List ℕ) (p : ℕ) where
  -- the six bytes of an ATC stand before the next one
  pub atc_head : p + 6 ≤ next_atc f p
  atc_head = end_ge next_stc up_stc (p + 6) (be_at f (p + 4) 1)

  -- so does the ATC
  pub up_atc : p ≤ next_atc f p
  up_atc = omega (arith, atc_head)

  -- a stream is not behind the next one
  pub up_stream : p ≤ next_stream f p
  up_stream = omega arith

module _ (f : List ℕ) (p : ℕ) where
  -- the eight bytes of a program stand before the next one
  pub program_head : p + 8 ≤ next_program f p
  program_head = end_ge (next_stream f) (up_stream f) (p + 8) (be_at f (p + 6) 1)

  -- so does the program
  pub up_program : p ≤ next_program f p
  up_program = omega (arith, program_head)
