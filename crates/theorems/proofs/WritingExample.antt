-- The file with sequences and programs, by computation.
use mathlib.Core.Path.{refl}
use Rattle.format.specs.Bytes.{be_at, bytes_of}
use Rattle.format.specs.ClipRecord.{letters_right, scalars_of, clip_info_in, atcs_from, stcs_from, sequences_end, marks_from, marks_in}
use Rattle.format.specs.Programs.{is_video, lower, lowered, programs_from, streams_from, programs_end}
use Rattle.format.specs.EntryPoints.{has_maps, map_count, maps_from, entries_from, cpi_in, maps_refusal}
use Rattle.format.specs.Reading.{clip_of, record_of}
use Rattle.format.specs.Rewriting.{sequences_bytes, programs_bytes, cpi_bytes, head_bytes, encode}
use Rattle.format.specs.Listing.{digits, line, map_lines, record_lines}
use Rattle.format.specs.Refusals.{refusal_of, counts_add, cells_fit, runs_fit, write_refusal}
use Rattle.theorems.specs.WritingExample.{small_clip, small_file, small_text, Small}

-- record and file have no unknowns
pub small : Small
unfolding small_clip small_file small_text digits line map_lines record_lines be_at bytes_of letters_right scalars_of clip_info_in atcs_from stcs_from sequences_end marks_from marks_in is_video lower lowered programs_from streams_from programs_end has_maps map_count maps_from entries_from cpi_in maps_refusal clip_of record_of sequences_bytes programs_bytes cpi_bytes head_bytes encode refusal_of counts_add cells_fit runs_fit write_refusal
small = record { bytes = refl; not_refused = refl; written = refl; accepted = refl; reads = refl; text = refl }
