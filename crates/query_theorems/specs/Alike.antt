-- Demand 3's fourth part for the calls, of what their own contracts claim: any two calls, one on tables that hold the old record's rows and one on tables
-- that hold the new one's, answer alike, with nothing and refusals the same. The calls are named one by one, and `Post` is what the call's `ensures` claims,
-- so a call whose contract left an answer open would leave its field without a proof.
-- `extension_queries::entry` is not among them: it asks about the extensions, and rewriting does not keep those.
use Rattle.std.specs.Prelude.{ℕ, List}
use Rattle.format.specs.ClipRecord.{Clip}
use Rattle.format.specs.Reading.{record_of}
use Rattle.theorems.specs.Rewriting.{rewritten}
use Rattle.sequence_queries.proofs.first_stc_sequence.Reads as first_stc_sequence
use Rattle.sequence_queries.proofs.duration_45k.Reads as duration_45k
use Rattle.sequence_queries.proofs.duration_90k.Reads as duration_90k
use Rattle.sequence_queries.proofs.presentation_span_90k.Reads as presentation_span_90k
use Rattle.sequence_queries.proofs.minutes_remaining.Reads as minutes_remaining
use Rattle.atc_queries.proofs.stcs_of_atc.Reads as stcs_of_atc
use Rattle.atc_queries.proofs.stc_sequence_by_id.Reads as stc_sequence_by_id
use Rattle.atc_queries.proofs.stc_sequence_for_spn.Reads as stc_sequence_for_spn
use Rattle.program_queries.proofs.program_by_pmt_pid.Reads as program_by_pmt_pid
use Rattle.program_queries.proofs.streams_of_program.Reads as streams_of_program
use Rattle.program_queries.proofs.stream_by_pid.Reads as stream_by_pid
use Rattle.program_queries.proofs.primary_video_pid.Reads as primary_video_pid
use Rattle.program_queries.proofs.next_video_stream.Reads as next_video_stream
use Rattle.program_queries.proofs.next_audio_stream.Reads as next_audio_stream
use Rattle.clip_info_queries.proofs.clip_byte_len.Reads as clip_byte_len
use Rattle.clip_info_queries.proofs.spn_to_byte.Reads as spn_to_byte
use Rattle.clip_info_queries.proofs.byte_to_spn.Reads as byte_to_spn
use Rattle.clip_info_queries.proofs.transfer_duration_secs.Reads as transfer_duration_secs
use Rattle.ep_map_queries.proofs.entries.seek.Reads as seek
use Rattle.ep_map_queries.proofs.own.entries_of_map.Reads as entries_of_map
use Rattle.ep_map_queries.proofs.entries.entry_point_at_or_before.Reads as entry_point_at_or_before
use Rattle.ep_map_queries.proofs.entries.entry_point_after.Reads as entry_point_after
use Rattle.ep_map_queries.proofs.entries.seek_spn.Reads as seek_spn
use Rattle.ep_map_queries.proofs.entries.next_seek_spn.Reads as next_seek_spn
use Rattle.ep_map_times.proofs.first_pts.Reads as first_pts
use Rattle.ep_map_times.proofs.last_pts.Reads as last_pts
use Rattle.ep_map_times.proofs.indexed_span_90k.Reads as indexed_span_90k
use Rattle.cpi_queries.proofs.ep_map_by_kind.Reads as ep_map_by_kind
use Rattle.cpi_queries.proofs.next_video_ep_map.Reads as next_video_ep_map
use Rattle.cpi_queries.proofs.primary_video_ep_map.Reads as primary_video_ep_map
use Rattle.cpi_queries.proofs.primary_seek_spn.Reads as primary_seek_spn
use Rattle.cpi_queries.proofs.primary_next_seek_spn.Reads as primary_next_seek_spn
use Rattle.query_theorems.specs.Calls.{FromTable, FromTables, FromNumber, FromNumbers}

-- c is the old file's record without its extensions, d the new one's. A field is a call, by its name
pub record CallsAlike (c d : Clip) : Type 0 where
  -- the STCs, lent alone
  pub first_stc_sequence : FromTable first_stc_sequence.Post c.stcs d.stcs
  pub duration_45k : FromTable duration_45k.Post c.stcs d.stcs
  pub duration_90k : FromTable duration_90k.Post c.stcs d.stcs
  pub presentation_span_90k : FromTable presentation_span_90k.Post c.stcs d.stcs
  pub minutes_remaining : FromTable minutes_remaining.Post c.stcs d.stcs
  -- the ATCs with their STCs
  pub stcs_of_atc : FromTables stcs_of_atc.Post c.atcs d.atcs c.stcs d.stcs
  pub stc_sequence_by_id : FromTables stc_sequence_by_id.Post c.atcs d.atcs c.stcs d.stcs
  pub stc_sequence_for_spn : FromTables stc_sequence_for_spn.Post c.atcs d.atcs c.stcs d.stcs
  -- the programs, and with their streams
  pub program_by_pmt_pid : FromTable program_by_pmt_pid.Post c.programs d.programs
  pub streams_of_program : FromTables streams_of_program.Post c.programs d.programs c.streams d.streams
  -- the streams, lent alone
  pub stream_by_pid : FromTable stream_by_pid.Post c.streams d.streams
  pub primary_video_pid : FromTable primary_video_pid.Post c.streams d.streams
  pub next_video_stream : FromTable next_video_stream.Post c.streams d.streams
  pub next_audio_stream : FromTable next_audio_stream.Post c.streams d.streams
  -- the packet count, and the rate with it
  pub clip_byte_len : FromNumber clip_byte_len.Post c.scalars.packets d.scalars.packets
  pub spn_to_byte : FromNumber spn_to_byte.Post c.scalars.packets d.scalars.packets
  pub byte_to_spn : FromNumber byte_to_spn.Post c.scalars.packets d.scalars.packets
  pub transfer_duration_secs : FromNumbers transfer_duration_secs.Post c.scalars.rate d.scalars.rate c.scalars.packets d.scalars.packets
  -- the maps with their entries, by the number of a map. `seek` stands before the names of which it is a part: behind them it could not be bound
  pub seek : FromTables seek.Post c.maps d.maps c.entries d.entries
  pub entries_of_map : FromTables entries_of_map.Post c.maps d.maps c.entries d.entries
  pub entry_point_at_or_before : FromTables entry_point_at_or_before.Post c.maps d.maps c.entries d.entries
  pub entry_point_after : FromTables entry_point_after.Post c.maps d.maps c.entries d.entries
  pub seek_spn : FromTables seek_spn.Post c.maps d.maps c.entries d.entries
  pub next_seek_spn : FromTables next_seek_spn.Post c.maps d.maps c.entries d.entries
  pub first_pts : FromTables first_pts.Post c.maps d.maps c.entries d.entries
  pub last_pts : FromTables last_pts.Post c.maps d.maps c.entries d.entries
  pub indexed_span_90k : FromTables indexed_span_90k.Post c.maps d.maps c.entries d.entries
  -- the maps, lent alone
  pub ep_map_by_kind : FromTable ep_map_by_kind.Post c.maps d.maps
  pub next_video_ep_map : FromTable next_video_ep_map.Post c.maps d.maps
  pub primary_video_ep_map : FromTable primary_video_ep_map.Post c.maps d.maps
  -- the maps with their entries, by the primary map
  pub primary_seek_spn : FromTables primary_seek_spn.Post c.maps d.maps c.entries d.entries
  pub primary_next_seek_spn : FromTables primary_next_seek_spn.Post c.maps d.maps c.entries d.entries

-- the two records of a file and of its rewriting
abbrev pub Alike : List ℕ → Type 0
Alike f = CallsAlike (record_of f).clip (record_of (rewritten f)).clip
