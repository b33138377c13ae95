-- Each call answers alike from the old file and the new: by what its own contract claims of it, and by what the definitions answer.
use Prim.Native.Nat.{ℕ}
use mathlib.Core.Path.{◌≡◌, refl}
use mathlib.Core.List.{List, [], ◌∷◌}
use Rattle.format.specs.Questions.{parts_of, ask}
use Rattle.format.specs.Questions as of
use Rattle.ticks.specs.Times.{as90}
use Rattle.queries.specs.Asked.{only_counts, only_scalars}
use Rattle.ticks.specs.Times.{as_pts}
use Rattle.ep_map_queries.specs.InMap.{seek_question}
use Rattle.nearest.specs.declared.Side.{Side}
use Rattle.theorems.specs.Rewriting.{Rewritable}
use Rattle.query_theorems.specs.Alike.{Alike}
use Rattle.query_theorems.proofs.Readings.{found, optional, time45, time90, duration, bytes, own}
use Rattle.query_theorems.proofs.Calls.{from_table, from_tables, from_number, from_numbers}
use Rattle.query_theorems.proofs.Held.{rate, packets, of_stcs, of_programs, of_streams, of_maps_lem, of_entries, of_atcs_lem, own_stcs, own_streams, own_entries}

-- either way, a seek looks at the maps and the entries
seek_parts : (side : Side) (m at : ℕ) → parts_of (seek_question side m at) ≡ of.maps ∷ of.entries ∷ []
seek_parts Side.After m at = refl
seek_parts Side.AtOrBefore m at = refl

module _ (f : List ℕ) (h : Rewritable f) where
  -- of each call: how its result is read, the law of its question with the other arguments `o`, and what its contract claims
  pub calls_alike : Alike f
  calls_alike = record {
    first_stc_sequence = from_table found (λ o. of_stcs f h of.first_stc_sequence refl) (λ x. x.allowed);
    duration_45k = from_table time45 (λ o. of_stcs f h (of.duration45k o.0) refl) (λ x. x.allowed);
    duration_90k = from_table time90 (λ o. of_stcs f h (of.duration90k o.0) refl) (λ x. x.allowed);
    presentation_span_90k = from_table time90 (λ o. of_stcs f h of.presentation_span_90k refl) (λ x. x.allowed);
    minutes_remaining = from_table found (λ o. of_stcs f h (of.minutes_remaining o.0 (as90 o.1.0)) refl) (λ x. x.allowed);
    stcs_of_atc = from_tables own (λ o. own_stcs f h o.0) (λ x. x.allowed);
    stc_sequence_by_id = from_tables found (λ o. of_atcs_lem f h (of.stc_sequence_by_id o.0) refl) (λ x. x.allowed);
    stc_sequence_for_spn = from_tables found (λ o. of_atcs_lem f h (of.stc_sequence_for_spn o.0 o.1.0) refl) (λ x. x.allowed);
    program_by_pmt_pid = from_table found (λ o. of_programs f h (of.program_by_pmt_pid o.0) refl) (λ x. x.allowed);
    streams_of_program = from_tables own (λ o. own_streams f h o.0) (λ x. x.allowed);
    stream_by_pid = from_table found (λ o. of_streams f h (of.stream_by_pid o.0) refl) (λ x. x.allowed);
    primary_video_pid = from_table found (λ o. of_streams f h of.primary_video_pid refl) (λ x. x.allowed);
    next_video_stream = from_table found (λ o. of_streams f h (of.next_video_stream o.0) refl) (λ x. x.allowed);
    next_audio_stream = from_table found (λ o. of_streams f h (of.next_audio_stream o.0) refl) (λ x. x.allowed);
    clip_byte_len = from_number bytes (λ o p. ask of.clip_byte_len (only_scalars (only_counts 0 p))) (packets f h) (λ x. x.allowed);
    spn_to_byte = from_number optional (λ o p. ask (of.spn_to_byte o.0) (only_scalars (only_counts 0 p))) (packets f h) (λ x. x.allowed);
    byte_to_spn = from_number optional (λ o p. ask (of.byte_to_spn o.0) (only_scalars (only_counts 0 p))) (packets f h) (λ x. x.allowed);
    transfer_duration_secs = from_numbers duration (λ o r p. ask of.transfer_duration_secs (only_scalars (only_counts r p))) (rate f h) (packets f h) (λ x. x.allowed.0);
    seek = from_tables found (λ o. of_entries f h (seek_question o.1.0 o.0 o.1.1.0.0) (seek_parts o.1.0 o.0 o.1.1.0.0)) (λ x. x.allowed);
    entries_of_map = from_tables own (λ o. own_entries f h o.0) (λ x. x.allowed);
    entry_point_at_or_before = from_tables found (λ o. of_entries f h (of.entry_point_at_or_before o.0 (as_pts o.1.0)) refl) (λ x. x.allowed);
    entry_point_after = from_tables found (λ o. of_entries f h (of.entry_point_after o.0 (as_pts o.1.0)) refl) (λ x. x.allowed);
    seek_spn = from_tables found (λ o. of_entries f h (of.seek_spn o.0 (as_pts o.1.0)) refl) (λ x. x.allowed);
    next_seek_spn = from_tables found (λ o. of_entries f h (of.next_seek_spn o.0 (as_pts o.1.0)) refl) (λ x. x.allowed);
    first_pts = from_tables time90 (λ o. of_entries f h (of.first_pts o.0) refl) (λ x. x.allowed);
    last_pts = from_tables time90 (λ o. of_entries f h (of.last_pts o.0) refl) (λ x. x.allowed);
    indexed_span_90k = from_tables time90 (λ o. of_entries f h (of.indexed_span_90k o.0) refl) (λ x. x.allowed);
    ep_map_by_kind = from_table found (λ o. of_maps_lem f h (of.ep_map_by_kind o.0) refl) (λ x. x.allowed);
    next_video_ep_map = from_table found (λ o. of_maps_lem f h (of.next_video_ep_map o.0) refl) (λ x. x.allowed);
    primary_video_ep_map = from_table found (λ o. of_maps_lem f h of.primary_video_ep_map refl) (λ x. x.allowed);
    primary_seek_spn = from_tables found (λ o. of_entries f h (of.primary_seek_spn (as_pts o.0)) refl) (λ x. x.allowed);
    primary_next_seek_spn = from_tables found (λ o. of_entries f h (of.primary_next_seek_spn (as_pts o.0)) refl) (λ x. x.allowed);
  }
