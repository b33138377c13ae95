-- Every question answers alike from tables that hold the old file's rows and tables that hold the new one's.
use Prim.Native.Nat.{ℕ}
use mathlib.Core.Path.{◌≡◌, ap, subst, sym, ◌∙◌}
use mathlib.Core.List.{List}
use Rattle.format.specs.ClipRecord.{Row, Scalars, Clip}
use Rattle.format.specs.Tables.{Table, ClipTables, HoldsRows, HoldsClip}
use Rattle.query_theorems.specs.Calls.{WithTable, FromTable, FromTables, FromNumber, FromNumbers}
use Rattle.query_theorems.specs.Alike.{CallsAlike}
use Rattle.rewriting_theorems.specs.Asked.{OnTable, OnTables, AskedAlike}

-- a table that holds the rows, under another name
held : {s t : Table} {rows : List Row} → s ≡ t → HoldsRows t rows → HoldsRows s rows
held {rows = rows} e h = subst (λ (u : Table). HoldsRows u rows) (sym e) h

module _ {L Others R : Type 0} {E : L → Type 0} where
  -- one table
  pub on_table : {Post : (κs : L) → WithTable Others → R → E κs → Type 0} {old new : List Row} {s t : Table}
      → FromTable Post old new → HoldsRows s old → HoldsRows t new → OnTable Post s t
  on_table alike hs ht x y is-s is-t others = alike x y (held is-s hs) (held is-t ht) others

  -- two tables
  pub on_tables : {Post : (κs : L) → WithTable (WithTable Others) → R → E κs → Type 0} {old₁ new₁ old₂ new₂ : List Row} {s₁ t₁ s₂ t₂ : Table}
      → FromTables Post old₁ new₁ old₂ new₂ → HoldsRows s₁ old₁ → HoldsRows t₁ new₁ → HoldsRows s₂ old₂ → HoldsRows t₂ new₂ → OnTables Post s₁ t₁ s₂ t₂
  on_tables alike hs₁ ht₁ hs₂ ht₂ x y is-s₁ is-t₁ is-s₂ is-t₂ others =
      alike x y (held is-s₁ hs₁) (held is-t₁ ht₁) (held is-s₂ hs₂) (held is-t₂ ht₂) others

  -- one number
  on_number : {Post : (κs : L) → ℕ × Others → R → E κs → Type 0} {old new m n : ℕ} → FromNumber Post old new → m ≡ old → n ≡ new → FromNumber Post m n
  on_number alike em en x y is_m is-n others = alike x y (is_m ∙ em) (is-n ∙ en) others

  -- two numbers
  on_numbers : {Post : (κs : L) → ℕ × (ℕ × Others) → R → E κs → Type 0} {old₁ new₁ old₂ new₂ m₁ n₁ m₂ n₂ : ℕ}
      → FromNumbers Post old₁ new₁ old₂ new₂ → m₁ ≡ old₁ → n₁ ≡ new₁ → m₂ ≡ old₂ → n₂ ≡ new₂ → FromNumbers Post m₁ n₁ m₂ n₂
  on_numbers alike em₁ en₁ em₂ en₂ x y is-m₁ is-n₁ is-m₂ is-n₂ others = alike x y (is-m₁ ∙ em₁) (is-n₁ ∙ en₁) (is-m₂ ∙ em₂) (is-n₂ ∙ en₂) others

-- all of them: by what any tables answer, and by what these hold
pub asked_alike : {c d : Clip} {s t : ClipTables} → CallsAlike c d → HoldsClip s c → HoldsClip t d → AskedAlike s t
asked_alike a hs ht =
    let rate-s = ap (λ (n : Scalars). n.rate) hs.scalars in
    let rate-t = ap (λ (n : Scalars). n.rate) ht.scalars in
    let packets-s = ap (λ (n : Scalars). n.packets) hs.scalars in
    let packets-t = ap (λ (n : Scalars). n.packets) ht.scalars in
    record {
      first_stc_sequence = on_table a.first_stc_sequence hs.stcs ht.stcs;
      duration_45k = on_table a.duration_45k hs.stcs ht.stcs;
      duration_90k = on_table a.duration_90k hs.stcs ht.stcs;
      presentation_span_90k = on_table a.presentation_span_90k hs.stcs ht.stcs;
      minutes_remaining = on_table a.minutes_remaining hs.stcs ht.stcs;
      stcs_of_atc = on_tables a.stcs_of_atc hs.atcs ht.atcs hs.stcs ht.stcs;
      stc_sequence_by_id = on_tables a.stc_sequence_by_id hs.atcs ht.atcs hs.stcs ht.stcs;
      stc_sequence_for_spn = on_tables a.stc_sequence_for_spn hs.atcs ht.atcs hs.stcs ht.stcs;
      program_by_pmt_pid = on_table a.program_by_pmt_pid hs.programs ht.programs;
      streams_of_program = on_tables a.streams_of_program hs.programs ht.programs hs.streams ht.streams;
      stream_by_pid = on_table a.stream_by_pid hs.streams ht.streams;
      primary_video_pid = on_table a.primary_video_pid hs.streams ht.streams;
      next_video_stream = on_table a.next_video_stream hs.streams ht.streams;
      next_audio_stream = on_table a.next_audio_stream hs.streams ht.streams;
      clip_byte_len = on_number a.clip_byte_len packets-s packets-t;
      spn_to_byte = on_number a.spn_to_byte packets-s packets-t;
      byte_to_spn = on_number a.byte_to_spn packets-s packets-t;
      transfer_duration_secs = on_numbers a.transfer_duration_secs rate-s rate-t packets-s packets-t;
      seek = on_tables a.seek hs.maps ht.maps hs.entries ht.entries;
      entries_of_map = on_tables a.entries_of_map hs.maps ht.maps hs.entries ht.entries;
      entry_point_at_or_before = on_tables a.entry_point_at_or_before hs.maps ht.maps hs.entries ht.entries;
      entry_point_after = on_tables a.entry_point_after hs.maps ht.maps hs.entries ht.entries;
      seek_spn = on_tables a.seek_spn hs.maps ht.maps hs.entries ht.entries;
      next_seek_spn = on_tables a.next_seek_spn hs.maps ht.maps hs.entries ht.entries;
      first_pts = on_tables a.first_pts hs.maps ht.maps hs.entries ht.entries;
      last_pts = on_tables a.last_pts hs.maps ht.maps hs.entries ht.entries;
      indexed_span_90k = on_tables a.indexed_span_90k hs.maps ht.maps hs.entries ht.entries;
      ep_map_by_kind = on_table a.ep_map_by_kind hs.maps ht.maps;
      next_video_ep_map = on_table a.next_video_ep_map hs.maps ht.maps;
      primary_video_ep_map = on_table a.primary_video_ep_map hs.maps ht.maps;
      primary_seek_spn = on_tables a.primary_seek_spn hs.maps ht.maps hs.entries ht.entries;
      primary_next_seek_spn = on_tables a.primary_next_seek_spn hs.maps ht.maps hs.entries ht.entries;
    }
