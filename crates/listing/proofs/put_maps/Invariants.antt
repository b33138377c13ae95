-- The lines of the maps so far, with those of their own entries.
use Prim.Native.Nat.{◌+◌, ◌*◌}
use mathlib.Core.Path.{◌≡◌}
use Rattle.format.specs.Bytes.{total}
use Rattle.format.specs.ClipRecord.{entry_count}
use Rattle.format.specs.Listing.{map_lines}
use Rattle.text_lines.specs.Stored.{PutsIn}
use Rattle.listing.specs.Text.{maps_from, entries_from}
use Rattle.listing.proofs.put_maps.Given as goal

abbrev pub invariant-loop-i : goal.invariant-loop-i
invariant-loop-i l =
    let maps = l.maps.bytes.now in
    (l.k ≡ total entry_count (maps_from maps 0 l.i))
    × PutsIn (37 * l.i + 25 * l.k) l.initial.text (map_lines (maps_from maps 0 l.i) (entries_from l.entries.bytes.now 0 l.entries.count)) l.text
