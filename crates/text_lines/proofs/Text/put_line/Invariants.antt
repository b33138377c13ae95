-- The word, and the numbers so far.
use Prim.Native.Nat.{◌*◌}
use lib.ListN.{take}
use Rattle.format.specs.Bytes.{flat}
use Rattle.format.specs.Listing.{spaced}
use Rattle.text_lines.specs.Stored.{PutsIn}
use Rattle.text_lines.proofs.Text.put_line.Given as goal

abbrev pub invariant-loop-n : goal.invariant-loop-n
invariant-loop-n l = PutsIn (11 * l.n-index) l.initial.self (flat spaced (take l.n-index l.numbers)) l.self
