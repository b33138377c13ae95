-- The listing example, by computation.
use mathlib.Core.Path.{refl}
use Rattle.format.specs.Bytes.{be_at, bytes_of}
use Rattle.format.specs.ClipRecord.{letters_right, scalars_of, clip_info_in, atcs_from, stcs_from, sequences_end, marks_from, marks_in}
use Rattle.format.specs.Programs.{programs_from, streams_from, programs_end}
use Rattle.format.specs.EntryPoints.{join_time, join_packet, has_maps, map_count, maps_from, entries_from, cpi_in, maps_refusal}
use Rattle.format.specs.Reading.{clip_of, record_of}
use Rattle.format.specs.Rewriting.{coarse_after, runs, sequences_bytes, programs_bytes, body_bytes, cpi_bytes, head_bytes, encode}
use Rattle.format.specs.Listing.{digits, line, map_lines, record_lines}
use Rattle.format.specs.Refusals.{refusal_of, counts_add, cells_fit, runs_fit, write_refusal}
use Rattle.theorems.specs.ListingExample.{listed_clip, listed_file, listed_text, Listed}

-- record and file have no unknowns, so both sides of each equation compute to the same
pub listed : Listed
unfolding listed_clip listed_file listed_text digits line map_lines record_lines be_at bytes_of letters_right scalars_of clip_info_in atcs_from stcs_from sequences_end marks_from marks_in programs_from streams_from programs_end join_time join_packet has_maps map_count maps_from entries_from cpi_in maps_refusal clip_of record_of coarse_after runs sequences_bytes programs_bytes body_bytes cpi_bytes head_bytes encode refusal_of counts_add cells_fit runs_fit write_refusal
listed = record { bytes = refl; not_refused = refl; written = refl; accepted = refl; reads = refl; marks = refl; text = refl }
