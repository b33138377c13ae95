-- The lines of the entries so far.
use Prim.Native.Nat.{◌*◌}
use Rattle.format.specs.Bytes.{flat}
use Rattle.format.specs.Listing.{ep_line}
use Rattle.text_lines.specs.Stored.{PutsIn}
use Rattle.listing.specs.Text.{entries_from}
use Rattle.listing.proofs.put_entries.Given as goal

abbrev pub invariant-loop-k : goal.invariant-loop-k
invariant-loop-k l = PutsIn (25 * l.k) l.initial.text (flat ep_line (entries_from l.entries l.row l.k)) l.text
