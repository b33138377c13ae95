-- A record of an entry as a row of table 6.
use Rattle.std.specs.Prelude.{ℕ, List, map, Bool, true, false}
use Rattle.format.specs.ClipRecord.{Row, entry_row}
use Rattle.ep_entry_steps.specs.declared.EpEntry.{EpEntry}

-- 1 for an angle change point, else 0
abbrev pub bit : Bool → ℕ
bit true = 1
bit false = 0

-- angle, I-end, time, packet, type
abbrev pub as_row : EpEntry → Row
as_row e = entry_row (bit e.is_angle_change_point) e.i_end_position_offset e.pts_ep_start e.spn_ep_start e.ep_stream_type

-- records as rows, in the same order
abbrev pub as_rows : List EpEntry → List Row
as_rows entries = map as_row entries

-- what stands past the end
abbrev pub no_entry : EpEntry
no_entry = record {
  is_angle_change_point = false;
  i_end_position_offset = 0;
  pts_ep_start = 0;
  spn_ep_start = 0;
  ep_stream_type = 0;
}
