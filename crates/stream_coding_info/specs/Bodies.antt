-- The row of a stream by value.
use Rattle.std.specs.Prelude.{[], ◌∷◌}
use Rattle.format.specs.ClipRecord.{Row}
use Rattle.stream_coding_info.specs.declared.StreamCodingInfo.{StreamCodingInfo}

-- the cells of a stream's row
abbrev pub info_row : StreamCodingInfo → Row
info_row s = s.pid ∷ s.stream_coding_type ∷ s.format_info_byte ∷ s.aspect_ratio_nibble ∷ s.language_code ∷ []
