-- Each of the three forms has its own length.
use mathlib.Core.Path.{sym}
use Rattle.row_values.proofs.Lengths.{video_length, short_length, tagged_length}
use Rattle.row_values.proofs.stream_length.Goals as goal

pub returns-then-is_video : goal.returns-then-is_video
returns-then-is_video c = sym (video_length c.args.row c.is_video.ensures c.if-is_video.true)

pub returns-then-row-eq0 : goal.returns-then-row-eq0
returns-then-row-eq0 c = sym (short_length c.args.row c.is_video.ensures c.if-is_video.false c.if-row-eq0.true)

pub returns-else-row-eq0 : goal.returns-else-row-eq0
returns-else-row-eq0 c = sym (tagged_length c.args.row c.is_video.ensures c.if-is_video.false c.if-row-eq0.false)
