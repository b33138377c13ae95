-- The scalars of a clip file.
use Rattle.std.specs.Prelude.{ℕ, List}
use Rattle.format.specs.ClipRecord.{Scalars, scalars_of}
use Rattle.clip_sections.specs.declared.info.ClipInfo.{ClipInfo}

-- the record's scalars as the code holds them
abbrev pub info_of : Scalars → ClipInfo
info_of s = record {
  letters = s.letters;
  version = s.version;
  clip_stream_type = s.stream_type;
  application_type = s.application_type;
  ts_recording_rate = s.rate;
  number_of_source_packets = s.packets;
  validity_flags = s.validity_flags;
  format_id = s.format_id;
}

-- those of a file
abbrev pub clip_info_of : List ℕ → ClipInfo
clip_info_of f = info_of (scalars_of f)
