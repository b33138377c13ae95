-- Every question that C can ask, of two sets of tables: the calls are named one by one, and `Post` is what the call's `ensures` claims.
-- `clpi_extension_entry` and `clpi_extension_data` are not among them: they ask about the extensions, and rewriting does not keep those.
use Rattle.std.specs.Prelude.{ℕ, ◌≡◌}
use Rattle.format.specs.Tables.{Table, ClipTables}
use Rattle.clpi_answers.specs.Numbers.{seconds_numbers}
use Rattle.clpi_answers.specs.declared.seconds.ClpiSeconds.{ClpiSeconds}
use Rattle.query_theorems.specs.Calls.{Call, WithParts, table_of_parts, behind_parts, FromNumber}
use Rattle.clpi.proofs.sequences.clpi_first_stc_sequence.Reads as clpi_first_stc_sequence
use Rattle.clpi.proofs.sequences.clpi_duration_45k.Reads as clpi_duration_45k
use Rattle.clpi.proofs.sequences.clpi_duration_90k.Reads as clpi_duration_90k
use Rattle.clpi.proofs.sequences.clpi_presentation_span_90k.Reads as clpi_presentation_span_90k
use Rattle.clpi.proofs.sequences.clpi_minutes_remaining.Reads as clpi_minutes_remaining
use Rattle.clpi.proofs.sequences.clpi_stcs_of_atc.Reads as clpi_stcs_of_atc
use Rattle.clpi.proofs.sequences.clpi_stc_sequence_by_id.Reads as clpi_stc_sequence_by_id
use Rattle.clpi.proofs.sequences.clpi_stc_sequence_for_spn.Reads as clpi_stc_sequence_for_spn
use Rattle.clpi.proofs.programs.clpi_program_by_pmt_pid.Reads as clpi_program_by_pmt_pid
use Rattle.clpi.proofs.programs.clpi_streams_of_program.Reads as clpi_streams_of_program
use Rattle.clpi.proofs.programs.clpi_stream_by_pid.Reads as clpi_stream_by_pid
use Rattle.clpi.proofs.programs.clpi_primary_video_pid.Reads as clpi_primary_video_pid
use Rattle.clpi.proofs.programs.clpi_next_video_stream.Reads as clpi_next_video_stream
use Rattle.clpi.proofs.programs.clpi_next_audio_stream.Reads as clpi_next_audio_stream
use Rattle.clpi.proofs.clips.clpi_clip_byte_len.Reads as clpi_clip_byte_len
use Rattle.clpi.proofs.clips.clpi_spn_to_byte.Reads as clpi_spn_to_byte
use Rattle.clpi.proofs.clips.clpi_byte_to_spn.Reads as clpi_byte_to_spn
use Rattle.clpi.proofs.clips.clpi_transfer_duration_secs.Reads as clpi_transfer_duration_secs
use Rattle.clpi.proofs.maps.clpi_entries_of_map.Reads as clpi_entries_of_map
use Rattle.clpi.proofs.maps.clpi_entry_point_at_or_before.Reads as clpi_entry_point_at_or_before
use Rattle.clpi.proofs.maps.clpi_entry_point_after.Reads as clpi_entry_point_after
use Rattle.clpi.proofs.maps.clpi_seek_spn.Reads as clpi_seek_spn
use Rattle.clpi.proofs.maps.clpi_next_seek_spn.Reads as clpi_next_seek_spn
use Rattle.clpi.proofs.maps.clpi_first_pts.Reads as clpi_first_pts
use Rattle.clpi.proofs.maps.clpi_last_pts.Reads as clpi_last_pts
use Rattle.clpi.proofs.maps.clpi_indexed_span_90k.Reads as clpi_indexed_span_90k
use Rattle.clpi.proofs.maps.clpi_ep_map_by_kind.Reads as clpi_ep_map_by_kind
use Rattle.clpi.proofs.maps.clpi_next_video_ep_map.Reads as clpi_next_video_ep_map
use Rattle.clpi.proofs.maps.clpi_primary_video_ep_map.Reads as clpi_primary_video_ep_map
use Rattle.clpi.proofs.maps.clpi_primary_seek_spn.Reads as clpi_primary_seek_spn
use Rattle.clpi.proofs.maps.clpi_primary_next_seek_spn.Reads as clpi_primary_next_seek_spn

-- a call on the table s and a call on the table t: if the other arguments are equal, so are the results
abbrev pub OnTable : {L Others R : Type 0} {E : L → Type 0} (Post : (κs : L) → WithParts Others → R → E κs → Type 0) (s t : Table) → Type 0
OnTable Post s t =
    (x y : Call Post) → table_of_parts x.arguments ≡ s → table_of_parts y.arguments ≡ t
    → behind_parts x.arguments ≡ behind_parts y.arguments → x.result ≡ y.result

-- the same with two tables
abbrev pub OnTables : {L Others R : Type 0} {E : L → Type 0} (Post : (κs : L) → WithParts (WithParts Others) → R → E κs → Type 0)
    (s₁ t₁ s₂ t₂ : Table) → Type 0
OnTables Post s₁ t₁ s₂ t₂ =
    (x y : Call Post) → table_of_parts x.arguments ≡ s₁ → table_of_parts y.arguments ≡ t₁
    → table_of_parts (behind_parts x.arguments) ≡ s₂ → table_of_parts (behind_parts y.arguments) ≡ t₂
    → behind_parts (behind_parts x.arguments) ≡ behind_parts (behind_parts y.arguments) → x.result ≡ y.result

-- two calls on a rate and a packet count: if these are equal, so are the numbers of the results, with the seconds by their bits
abbrev pub SameSeconds : {L : Type 0} {E : L → Type 0} (Post : (κs : L) → ℕ × (ℕ × Unit {0}) → ClpiSeconds → E κs → Type 0) (rate₁ rate₂ packets₁ packets₂ : ℕ) → Type 0
SameSeconds Post rate₁ rate₂ packets₁ packets₂ =
    (x y : Call Post) → x.arguments.0 ≡ rate₁ → y.arguments.0 ≡ rate₂ → x.arguments.1.0 ≡ packets₁ → y.arguments.1.0 ≡ packets₂
    → seconds_numbers x.result ≡ seconds_numbers y.result

-- every question answers alike from the tables s and the tables t. A field is a call, by its name
pub record ExportedAlike (s t : ClipTables) : Type 0 where
  -- the STCs, alone
  pub clpi_first_stc_sequence : OnTable clpi_first_stc_sequence.Post s.stcs t.stcs
  pub clpi_duration_45k : OnTable clpi_duration_45k.Post s.stcs t.stcs
  pub clpi_duration_90k : OnTable clpi_duration_90k.Post s.stcs t.stcs
  pub clpi_presentation_span_90k : OnTable clpi_presentation_span_90k.Post s.stcs t.stcs
  pub clpi_minutes_remaining : OnTable clpi_minutes_remaining.Post s.stcs t.stcs
  -- the ATCs with their STCs
  pub clpi_stcs_of_atc : OnTables clpi_stcs_of_atc.Post s.atcs t.atcs s.stcs t.stcs
  pub clpi_stc_sequence_by_id : OnTables clpi_stc_sequence_by_id.Post s.atcs t.atcs s.stcs t.stcs
  pub clpi_stc_sequence_for_spn : OnTables clpi_stc_sequence_for_spn.Post s.atcs t.atcs s.stcs t.stcs
  -- the programs, and with their streams
  pub clpi_program_by_pmt_pid : OnTable clpi_program_by_pmt_pid.Post s.programs t.programs
  pub clpi_streams_of_program : OnTables clpi_streams_of_program.Post s.programs t.programs s.streams t.streams
  -- the streams, alone
  pub clpi_stream_by_pid : OnTable clpi_stream_by_pid.Post s.streams t.streams
  pub clpi_primary_video_pid : OnTable clpi_primary_video_pid.Post s.streams t.streams
  pub clpi_next_video_stream : OnTable clpi_next_video_stream.Post s.streams t.streams
  pub clpi_next_audio_stream : OnTable clpi_next_audio_stream.Post s.streams t.streams
  -- the packet count, and the rate with it
  pub clpi_clip_byte_len : FromNumber clpi_clip_byte_len.Post s.scalars.packets t.scalars.packets
  pub clpi_spn_to_byte : FromNumber clpi_spn_to_byte.Post s.scalars.packets t.scalars.packets
  pub clpi_byte_to_spn : FromNumber clpi_byte_to_spn.Post s.scalars.packets t.scalars.packets
  pub clpi_transfer_duration_secs : SameSeconds clpi_transfer_duration_secs.Post s.scalars.rate t.scalars.rate s.scalars.packets t.scalars.packets
  -- the maps with their entries, by the number of a map
  pub clpi_entries_of_map : OnTables clpi_entries_of_map.Post s.maps t.maps s.entries t.entries
  pub clpi_entry_point_at_or_before : OnTables clpi_entry_point_at_or_before.Post s.maps t.maps s.entries t.entries
  pub clpi_entry_point_after : OnTables clpi_entry_point_after.Post s.maps t.maps s.entries t.entries
  pub clpi_seek_spn : OnTables clpi_seek_spn.Post s.maps t.maps s.entries t.entries
  pub clpi_next_seek_spn : OnTables clpi_next_seek_spn.Post s.maps t.maps s.entries t.entries
  pub clpi_first_pts : OnTables clpi_first_pts.Post s.maps t.maps s.entries t.entries
  pub clpi_last_pts : OnTables clpi_last_pts.Post s.maps t.maps s.entries t.entries
  pub clpi_indexed_span_90k : OnTables clpi_indexed_span_90k.Post s.maps t.maps s.entries t.entries
  -- the maps, alone
  pub clpi_ep_map_by_kind : OnTable clpi_ep_map_by_kind.Post s.maps t.maps
  pub clpi_next_video_ep_map : OnTable clpi_next_video_ep_map.Post s.maps t.maps
  pub clpi_primary_video_ep_map : OnTable clpi_primary_video_ep_map.Post s.maps t.maps
  -- the maps with their entries, by the primary map
  pub clpi_primary_seek_spn : OnTables clpi_primary_seek_spn.Post s.maps t.maps s.entries t.entries
  pub clpi_primary_next_seek_spn : OnTables clpi_primary_next_seek_spn.Post s.maps t.maps s.entries t.entries
