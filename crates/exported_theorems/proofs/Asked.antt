-- Every question of C answers alike: each result has the numbers of an answer, equal answers have equal numbers, and a result is its numbers.
use Prim.Native.Nat.{ℕ}
use mathlib.Core.Path.{◌≡◌, refl, sym, ap, subst, ◌∙◌}
use mathlib.Core.List.{List, [], ◌∷◌}
use lib.ListN.{get_or}
use Rattle.format.specs.ClipRecord.{Row, Scalars}
use Rattle.format.specs.Reading.{record_of}
use Rattle.format.specs.Tables.{Table, ClipTables, HoldsRows, HoldsClip}
use Rattle.format.specs.Questions.{Question, Answer, answer_numbers, parts_of, ask}
use Rattle.format.specs.Questions as of
use Rattle.queries.specs.Asked.{only_counts, only_scalars, only_stcs, only_programs, only_streams, only_maps, maps_and_entries, atcs_and_stcs}
use Rattle.table_rows.specs.OwnRows.{Owned, owned_numbers}
use Rattle.clpi_answers.specs.Numbers.{found_numbers, rows_numbers}
use Rattle.clpi_answers.specs.declared.ClpiAnswer.{ClpiAnswer}
use Rattle.query_theorems.specs.Calls.{Call, WithParts, table_of_parts, behind_parts}
use Rattle.query_theorems.proofs.Readings.{Reading, bytes}
use Rattle.query_theorems.proofs.Calls.{told, from_number}
use Rattle.query_theorems.proofs.Held.{rate, packets, of_stcs, of_programs, of_streams, of_maps_lem, of_entries, of_atcs_lem, own_stcs, own_streams, own_entries}
use Rattle.theorems.specs.Rewriting.{Rewritable, rewritten}
use Rattle.exported_theorems.specs.Asked.{OnTable, OnTables, ExportedAlike}

-- an answer and rows are their numbers
found : Reading found_numbers
found = record { back = λ ns. record { refusal = get_or ns 0 0; found = get_or ns 1 0; value = get_or ns 2 0 }; returns = λ a. refl }

-- so are the rows of a header row
rows : Reading rows_numbers
rows = record { back = λ ns. record { refusal = get_or ns 0 0; first = get_or ns 1 0; count = get_or ns 2 0 }; returns = λ a. refl }

-- equal answers have equal numbers
numbered : {a b : Answer} → a ≡ b → answer_numbers a ≡ answer_numbers b
numbered e = ap (λ (z : Answer). answer_numbers z) e

-- so have equal rows
own_numbered : {a b : Owned} → a ≡ b → owned_numbers a ≡ owned_numbers b
own_numbered e = ap (λ (z : Owned). owned_numbers z) e

-- a table that holds the rows, under another name
held : {s t : Table} {rows : List Row} → s ≡ t → HoldsRows t rows → HoldsRows s rows
held {rows = rows} e h = subst (λ (u : Table). HoldsRows u rows) (sym e) h

module _ {L Others R B : Type 0} {E : L → Type 0} {read : R → B} (r : Reading read) where
  -- one table
  on_table : {Post : (κs : L) → WithParts Others → R → E κs → Type 0} {old new : List Row} {s t : Table} {answer : Others → Table → B}
      → ((o : Others) (u v : Table) → HoldsRows u old → HoldsRows v new → answer o u ≡ answer o v)
      → ((x : Call Post) → read x.result ≡ answer (behind_parts x.arguments) (table_of_parts x.arguments))
      → HoldsRows s old → HoldsRows t new → OnTable Post s t
  on_table {answer = answer} alike promise hs ht x y is-s is-t others =
      told r (promise x)
      (ap (λ (o : Others). answer o (table_of_parts x.arguments)) others ∙ alike (behind_parts y.arguments) _ _ (held is-s hs) (held is-t ht))
      (promise y)

  -- two tables
  on_tables : {Post : (κs : L) → WithParts (WithParts Others) → R → E κs → Type 0} {old₁ new₁ old₂ new₂ : List Row} {s₁ t₁ s₂ t₂ : Table}
      {answer : Others → Table → Table → B}
      → ((o : Others) (u₁ v₁ u₂ v₂ : Table) → HoldsRows u₁ old₁ → HoldsRows v₁ new₁ → HoldsRows u₂ old₂ → HoldsRows v₂ new₂ → answer o u₁ u₂ ≡ answer o v₁ v₂)
      → ((x : Call Post) → read x.result ≡ answer (behind_parts (behind_parts x.arguments)) (table_of_parts x.arguments) (table_of_parts (behind_parts x.arguments)))
      → HoldsRows s₁ old₁ → HoldsRows t₁ new₁ → HoldsRows s₂ old₂ → HoldsRows t₂ new₂ → OnTables Post s₁ t₁ s₂ t₂
  on_tables {answer = answer} alike promise hs₁ ht₁ hs₂ ht₂ x y is-s₁ is-t₁ is-s₂ is-t₂ others =
      told r (promise x)
      (ap (λ (o : Others). answer o (table_of_parts x.arguments) (table_of_parts (behind_parts x.arguments))) others
      ∙ alike (behind_parts (behind_parts y.arguments)) _ _ _ _ (held is-s₁ hs₁) (held is-t₁ ht₁) (held is-s₂ hs₂) (held is-t₂ ht₂))
      (promise y)

module _ (f : List ℕ) (h : Rewritable f) {s t : ClipTables} (hs : HoldsClip s (record_of f).clip) (ht : HoldsClip t (record_of (rewritten f)).clip) where
  module _ {L Others : Type 0} {E : L → Type 0} where
    -- a question about the STCs, with the other arguments o
    stcs_alike : {Post : (κs : L) → WithParts Others → ClpiAnswer → E κs → Type 0} (q : Others → Question) → ((o : Others) → parts_of (q o) ≡ of.stcs ∷ [])
        → ((x : Call Post) → found_numbers x.result ≡ answer_numbers (ask (q (behind_parts x.arguments)) (only_stcs (table_of_parts x.arguments))))
        → OnTable Post s.stcs t.stcs
    stcs_alike q one promise = on_table found (λ o u v a b. numbered (of_stcs f h (q o) (one o) u v a b)) promise hs.stcs ht.stcs

    -- about the programs
    programs_alike : {Post : (κs : L) → WithParts Others → ClpiAnswer → E κs → Type 0} (q : Others → Question) → ((o : Others) → parts_of (q o) ≡ of.programs ∷ [])
        → ((x : Call Post) → found_numbers x.result ≡ answer_numbers (ask (q (behind_parts x.arguments)) (only_programs (table_of_parts x.arguments))))
        → OnTable Post s.programs t.programs
    programs_alike q one promise = on_table found (λ o u v a b. numbered (of_programs f h (q o) (one o) u v a b)) promise hs.programs ht.programs

    -- about the streams
    streams_alike : {Post : (κs : L) → WithParts Others → ClpiAnswer → E κs → Type 0} (q : Others → Question) → ((o : Others) → parts_of (q o) ≡ of.streams ∷ [])
        → ((x : Call Post) → found_numbers x.result ≡ answer_numbers (ask (q (behind_parts x.arguments)) (only_streams (table_of_parts x.arguments))))
        → OnTable Post s.streams t.streams
    streams_alike q one promise = on_table found (λ o u v a b. numbered (of_streams f h (q o) (one o) u v a b)) promise hs.streams ht.streams

    -- about the maps
    maps_alike : {Post : (κs : L) → WithParts Others → ClpiAnswer → E κs → Type 0} (q : Others → Question) → ((o : Others) → parts_of (q o) ≡ of.maps ∷ [])
        → ((x : Call Post) → found_numbers x.result ≡ answer_numbers (ask (q (behind_parts x.arguments)) (only_maps (table_of_parts x.arguments))))
        → OnTable Post s.maps t.maps
    maps_alike q one promise = on_table found (λ o u v a b. numbered (of_maps_lem f h (q o) (one o) u v a b)) promise hs.maps ht.maps

    -- about the ATCs and their STCs
    atcs_alike : {Post : (κs : L) → WithParts (WithParts Others) → ClpiAnswer → E κs → Type 0} (q : Others → Question) → ((o : Others) → parts_of (q o) ≡ of.atcs ∷ of.stcs ∷ [])
        → ((x : Call Post) → found_numbers x.result ≡ answer_numbers (ask (q (behind_parts (behind_parts x.arguments))) (atcs_and_stcs (table_of_parts x.arguments) (table_of_parts (behind_parts x.arguments)))))
        → OnTables Post s.atcs t.atcs s.stcs t.stcs
    atcs_alike q two promise =
        on_tables found (λ o s₁ t₁ s₂ t₂ a b c d. numbered (of_atcs_lem f h (q o) (two o) s₁ t₁ s₂ t₂ a b c d)) promise hs.atcs ht.atcs hs.stcs ht.stcs

    -- about the maps and their entries
    entries_alike : {Post : (κs : L) → WithParts (WithParts Others) → ClpiAnswer → E κs → Type 0} (q : Others → Question) → ((o : Others) → parts_of (q o) ≡ of.maps ∷ of.entries ∷ [])
        → ((x : Call Post) → found_numbers x.result ≡ answer_numbers (ask (q (behind_parts (behind_parts x.arguments))) (maps_and_entries (table_of_parts x.arguments) (table_of_parts (behind_parts x.arguments)))))
        → OnTables Post s.maps t.maps s.entries t.entries
    entries_alike q two promise =
        on_tables found (λ o s₁ t₁ s₂ t₂ a b c d. numbered (of_entries f h (q o) (two o) s₁ t₁ s₂ t₂ a b c d)) promise hs.maps ht.maps hs.entries ht.entries

  -- the two numbers are the record's
  same_rate : s.scalars.rate ≡ t.scalars.rate
  same_rate = ap (λ (n : Scalars). n.rate) hs.scalars ∙ rate f h ∙ sym (ap (λ (n : Scalars). n.rate) ht.scalars)

  -- the packet count likewise
  same_packets : s.scalars.packets ≡ t.scalars.packets
  same_packets = ap (λ (n : Scalars). n.packets) hs.scalars ∙ packets f h ∙ sym (ap (λ (n : Scalars). n.packets) ht.scalars)

  -- the numbers of the transfer duration, at a rate and a packet count
  abbrev transfer : ℕ → ℕ → List ℕ
  transfer r p = answer_numbers (ask of.transfer_duration_secs (only_scalars (only_counts r p)))

  -- every question
  pub asked_alike : ExportedAlike s t
  asked_alike = record {
    clpi_first_stc_sequence = stcs_alike (λ o. of.first_stc_sequence) (λ o. refl) (λ x. x.allowed);
    clpi_duration_45k = stcs_alike (λ o. of.duration45k o.0) (λ o. refl) (λ x. x.allowed);
    clpi_duration_90k = stcs_alike (λ o. of.duration90k o.0) (λ o. refl) (λ x. x.allowed);
    clpi_presentation_span_90k = stcs_alike (λ o. of.presentation_span_90k) (λ o. refl) (λ x. x.allowed);
    clpi_minutes_remaining = stcs_alike (λ o. of.minutes_remaining o.0 (record { ticks = o.1.0 })) (λ o. refl) (λ x. x.allowed);
    clpi_stcs_of_atc = on_tables rows (λ o s₁ t₁ s₂ t₂ a b c d. own_numbered (own_stcs f h o.0 s₁ t₁ s₂ t₂ a b c d)) (λ x. x.allowed) hs.atcs ht.atcs hs.stcs ht.stcs;
    clpi_stc_sequence_by_id = atcs_alike (λ o. of.stc_sequence_by_id o.0) (λ o. refl) (λ x. x.allowed);
    clpi_stc_sequence_for_spn = atcs_alike (λ o. of.stc_sequence_for_spn o.0 o.1.0) (λ o. refl) (λ x. x.allowed);
    clpi_program_by_pmt_pid = programs_alike (λ o. of.program_by_pmt_pid o.0) (λ o. refl) (λ x. x.allowed);
    clpi_streams_of_program = on_tables rows (λ o s₁ t₁ s₂ t₂ a b c d. own_numbered (own_streams f h o.0 s₁ t₁ s₂ t₂ a b c d)) (λ x. x.allowed) hs.programs ht.programs hs.streams ht.streams;
    clpi_stream_by_pid = streams_alike (λ o. of.stream_by_pid o.0) (λ o. refl) (λ x. x.allowed);
    clpi_primary_video_pid = streams_alike (λ o. of.primary_video_pid) (λ o. refl) (λ x. x.allowed);
    clpi_next_video_stream = streams_alike (λ o. of.next_video_stream o.0) (λ o. refl) (λ x. x.allowed);
    clpi_next_audio_stream = streams_alike (λ o. of.next_audio_stream o.0) (λ o. refl) (λ x. x.allowed);
    clpi_clip_byte_len = from_number bytes (λ o p. ask of.clip_byte_len (only_scalars (only_counts 0 p))) same_packets (λ x. x.allowed);
    clpi_spn_to_byte = from_number found (λ o p. answer_numbers (ask (of.spn_to_byte o.0) (only_scalars (only_counts 0 p)))) same_packets (λ x. x.allowed);
    clpi_byte_to_spn = from_number found (λ o p. answer_numbers (ask (of.byte_to_spn o.0) (only_scalars (only_counts 0 p)))) same_packets (λ x. x.allowed);
    clpi_transfer_duration_secs = λ x y rx ry px py.
        x.allowed
        ∙ ap (λ (r : ℕ). transfer r x.arguments.1.0) (rx ∙ same_rate ∙ sym ry)
        ∙ ap (transfer y.arguments.0) (px ∙ same_packets ∙ sym py)
        ∙ sym y.allowed;
    clpi_entries_of_map = on_tables rows (λ o s₁ t₁ s₂ t₂ a b c d. own_numbered (own_entries f h o.0 s₁ t₁ s₂ t₂ a b c d)) (λ x. x.allowed) hs.maps ht.maps hs.entries ht.entries;
    clpi_entry_point_at_or_before = entries_alike (λ o. of.entry_point_at_or_before o.0 (record { ticks = o.1.0 })) (λ o. refl) (λ x. x.allowed);
    clpi_entry_point_after = entries_alike (λ o. of.entry_point_after o.0 (record { ticks = o.1.0 })) (λ o. refl) (λ x. x.allowed);
    clpi_seek_spn = entries_alike (λ o. of.seek_spn o.0 (record { ticks = o.1.0 })) (λ o. refl) (λ x. x.allowed);
    clpi_next_seek_spn = entries_alike (λ o. of.next_seek_spn o.0 (record { ticks = o.1.0 })) (λ o. refl) (λ x. x.allowed);
    clpi_first_pts = entries_alike (λ o. of.first_pts o.0) (λ o. refl) (λ x. x.allowed);
    clpi_last_pts = entries_alike (λ o. of.last_pts o.0) (λ o. refl) (λ x. x.allowed);
    clpi_indexed_span_90k = entries_alike (λ o. of.indexed_span_90k o.0) (λ o. refl) (λ x. x.allowed);
    clpi_ep_map_by_kind = maps_alike (λ o. of.ep_map_by_kind o.0) (λ o. refl) (λ x. x.allowed);
    clpi_next_video_ep_map = maps_alike (λ o. of.next_video_ep_map o.0) (λ o. refl) (λ x. x.allowed);
    clpi_primary_video_ep_map = maps_alike (λ o. of.primary_video_ep_map) (λ o. refl) (λ x. x.allowed);
    clpi_primary_seek_spn = entries_alike (λ o. of.primary_seek_spn (record { ticks = o.0 })) (λ o. refl) (λ x. x.allowed);
    clpi_primary_next_seek_spn = entries_alike (λ o. of.primary_next_seek_spn (record { ticks = o.0 })) (λ o. refl) (λ x. x.allowed);
  }
