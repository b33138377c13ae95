-- The ends of a row of records, the span between them, and what is told of an entry that was found.
use Rattle.std.specs.Prelude.{ℕ, ◌-◌, List, Bool, Option, None, Some, eqb, length, get_or}
use Rattle.format.specs.Bytes.{pick}
use Rattle.format.specs.ClipRecord.{Row, packet, entry_time}
use Rattle.format.specs.Questions.{Answer, refused, none, number, ticks45, ticks90, seconds, no_rate}
use Rattle.format.specs.Ticks.{Ticks90, less90}
use Rattle.ep_entry_steps.specs.declared.EpEntry.{EpEntry}
use Rattle.ep_entry_steps.specs.Records.{no_entry}

-- the last of so many rows
abbrev pub last_row : ℕ → ℕ
last_row rows = rows - 1

-- the first record and the last, or none
abbrev pub ends_of : List EpEntry → Option (EpEntry × EpEntry)
ends_of es = pick (eqb (length es) 0) None (Some (get_or es 0 no_entry, get_or es (last_row (length es)) no_entry))

-- the last time less the first, not below 0
abbrev pub span_between : Row → Row → Ticks90
span_between first last = less90 (entry_time last) (entry_time first)

-- the packet of an entry that was found, or its row
abbrev pub row_or_packet : Bool → Row → Answer → Answer
row_or_packet isPacket e (number k) = number (pick isPacket (packet e) k)
row_or_packet isPacket e none = none
row_or_packet isPacket e (refused n) = refused n
row_or_packet isPacket e (ticks45 t) = ticks45 t
row_or_packet isPacket e (ticks90 t) = ticks90 t
row_or_packet isPacket e (seconds q) = seconds q
row_or_packet isPacket e no_rate = no_rate
