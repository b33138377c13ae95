-- Every question, asked of tables that were filled before: the calls are named one by one, and `Post` is what the call's `ensures` claims.
-- `CallsAlike` says it of any tables that hold a record's rows; this says it of two given sets of tables, so that no row need be spoken of.
-- As there, `extension_queries::entry` is not among them: it asks about the extensions, and rewriting does not keep those.
use Rattle.std.specs.Prelude.{◌≡◌}
use Rattle.format.specs.Tables.{Table, ClipTables}
use Rattle.sequence_queries.proofs.first_stc_sequence.Reads as first_stc_sequence
use Rattle.sequence_queries.proofs.duration_45k.Reads as duration_45k
use Rattle.sequence_queries.proofs.duration_90k.Reads as duration_90k
use Rattle.sequence_queries.proofs.presentation_span_90k.Reads as presentation_span_90k
use Rattle.sequence_queries.proofs.minutes_remaining.Reads as minutes_remaining
use Rattle.atc_queries.proofs.stcs_of_atc.Reads as stcs_of_atc
use Rattle.atc_queries.proofs.stc_sequence_by_id.Reads as stc_sequence_by_id
use Rattle.atc_queries.proofs.stc_sequence_for_spn.Reads as stc_sequence_for_spn
use Rattle.program_queries.proofs.program_by_pmt_pid.Reads as program_by_pmt_pid
use Rattle.program_queries.proofs.streams_of_program.Reads as streams_of_program
use Rattle.program_queries.proofs.stream_by_pid.Reads as stream_by_pid
use Rattle.program_queries.proofs.primary_video_pid.Reads as primary_video_pid
use Rattle.program_queries.proofs.next_video_stream.Reads as next_video_stream
use Rattle.program_queries.proofs.next_audio_stream.Reads as next_audio_stream
use Rattle.clip_info_queries.proofs.clip_byte_len.Reads as clip_byte_len
use Rattle.clip_info_queries.proofs.spn_to_byte.Reads as spn_to_byte
use Rattle.clip_info_queries.proofs.byte_to_spn.Reads as byte_to_spn
use Rattle.clip_info_queries.proofs.transfer_duration_secs.Reads as transfer_duration_secs
use Rattle.ep_map_queries.proofs.entries.seek.Reads as seek
use Rattle.ep_map_queries.proofs.own.entries_of_map.Reads as entries_of_map
use Rattle.ep_map_queries.proofs.entries.entry_point_at_or_before.Reads as entry_point_at_or_before
use Rattle.ep_map_queries.proofs.entries.entry_point_after.Reads as entry_point_after
use Rattle.ep_map_queries.proofs.entries.seek_spn.Reads as seek_spn
use Rattle.ep_map_queries.proofs.entries.next_seek_spn.Reads as next_seek_spn
use Rattle.ep_map_times.proofs.first_pts.Reads as first_pts
use Rattle.ep_map_times.proofs.last_pts.Reads as last_pts
use Rattle.ep_map_times.proofs.indexed_span_90k.Reads as indexed_span_90k
use Rattle.cpi_queries.proofs.ep_map_by_kind.Reads as ep_map_by_kind
use Rattle.cpi_queries.proofs.next_video_ep_map.Reads as next_video_ep_map
use Rattle.cpi_queries.proofs.primary_video_ep_map.Reads as primary_video_ep_map
use Rattle.cpi_queries.proofs.primary_seek_spn.Reads as primary_seek_spn
use Rattle.cpi_queries.proofs.primary_next_seek_spn.Reads as primary_next_seek_spn
use Rattle.query_theorems.specs.Calls.{Call, WithTable, table_of, behind, FromNumber, FromNumbers}

-- a call on the table s and a call on the table t: if the other arguments are equal, so are the results
abbrev pub OnTable : {L Others R : Type 0} {E : L → Type 0} (Post : (κs : L) → WithTable Others → R → E κs → Type 0) (s t : Table) → Type 0
OnTable Post s t =
    (x y : Call Post) → table_of x.arguments ≡ s → table_of y.arguments ≡ t
    → behind x.arguments ≡ behind y.arguments → x.result ≡ y.result

-- the same with two tables
abbrev pub OnTables : {L Others R : Type 0} {E : L → Type 0} (Post : (κs : L) → WithTable (WithTable Others) → R → E κs → Type 0)
    (s₁ t₁ s₂ t₂ : Table) → Type 0
OnTables Post s₁ t₁ s₂ t₂ =
    (x y : Call Post) → table_of x.arguments ≡ s₁ → table_of y.arguments ≡ t₁
    → table_of (behind x.arguments) ≡ s₂ → table_of (behind y.arguments) ≡ t₂
    → behind (behind x.arguments) ≡ behind (behind y.arguments) → x.result ≡ y.result

-- every question answers alike from the tables s and the tables t. A field is a call, by its name
pub record AskedAlike (s t : ClipTables) : Type 0 where
  -- the STCs, alone
  pub first_stc_sequence : OnTable first_stc_sequence.Post s.stcs t.stcs
  pub duration_45k : OnTable duration_45k.Post s.stcs t.stcs
  pub duration_90k : OnTable duration_90k.Post s.stcs t.stcs
  pub presentation_span_90k : OnTable presentation_span_90k.Post s.stcs t.stcs
  pub minutes_remaining : OnTable minutes_remaining.Post s.stcs t.stcs
  -- the ATCs with their STCs
  pub stcs_of_atc : OnTables stcs_of_atc.Post s.atcs t.atcs s.stcs t.stcs
  pub stc_sequence_by_id : OnTables stc_sequence_by_id.Post s.atcs t.atcs s.stcs t.stcs
  pub stc_sequence_for_spn : OnTables stc_sequence_for_spn.Post s.atcs t.atcs s.stcs t.stcs
  -- the programs, and with their streams
  pub program_by_pmt_pid : OnTable program_by_pmt_pid.Post s.programs t.programs
  pub streams_of_program : OnTables streams_of_program.Post s.programs t.programs s.streams t.streams
  -- the streams, alone
  pub stream_by_pid : OnTable stream_by_pid.Post s.streams t.streams
  pub primary_video_pid : OnTable primary_video_pid.Post s.streams t.streams
  pub next_video_stream : OnTable next_video_stream.Post s.streams t.streams
  pub next_audio_stream : OnTable next_audio_stream.Post s.streams t.streams
  -- the packet count, and the rate with it
  pub clip_byte_len : FromNumber clip_byte_len.Post s.scalars.packets t.scalars.packets
  pub spn_to_byte : FromNumber spn_to_byte.Post s.scalars.packets t.scalars.packets
  pub byte_to_spn : FromNumber byte_to_spn.Post s.scalars.packets t.scalars.packets
  pub transfer_duration_secs : FromNumbers transfer_duration_secs.Post s.scalars.rate t.scalars.rate s.scalars.packets t.scalars.packets
  -- the maps with their entries, by the number of a map. `seek` stands before the names of which it is a part: behind them it could not be bound
  pub seek : OnTables seek.Post s.maps t.maps s.entries t.entries
  pub entries_of_map : OnTables entries_of_map.Post s.maps t.maps s.entries t.entries
  pub entry_point_at_or_before : OnTables entry_point_at_or_before.Post s.maps t.maps s.entries t.entries
  pub entry_point_after : OnTables entry_point_after.Post s.maps t.maps s.entries t.entries
  pub seek_spn : OnTables seek_spn.Post s.maps t.maps s.entries t.entries
  pub next_seek_spn : OnTables next_seek_spn.Post s.maps t.maps s.entries t.entries
  pub first_pts : OnTables first_pts.Post s.maps t.maps s.entries t.entries
  pub last_pts : OnTables last_pts.Post s.maps t.maps s.entries t.entries
  pub indexed_span_90k : OnTables indexed_span_90k.Post s.maps t.maps s.entries t.entries
  -- the maps, alone
  pub ep_map_by_kind : OnTable ep_map_by_kind.Post s.maps t.maps
  pub next_video_ep_map : OnTable next_video_ep_map.Post s.maps t.maps
  pub primary_video_ep_map : OnTable primary_video_ep_map.Post s.maps t.maps
  -- the maps with their entries, by the primary map
  pub primary_seek_spn : OnTables primary_seek_spn.Post s.maps t.maps s.entries t.entries
  pub primary_next_seek_spn : OnTables primary_next_seek_spn.Post s.maps t.maps s.entries t.entries
