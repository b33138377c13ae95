-- Questions and writing look at the stated rows alone: what lent tables hold is their record.
use Prim.Native.Nat.{ℕ, ◌<◌, ◌≤◌}
use mathlib.Core.Path.{◌≡◌, refl}
use mathlib.Core.List.{List, [], ◌∷◌, ◌++◌}
use mathlib.Core.Bool.{true}
use lib.ListN.{length, drop}
use lib.Dec.{lit<, lit≤}
use borrow.Author.Tests.{le-leb}
use Rattle.format.specs.ClipRecord.{Row, Clip, entry_cells}
use Rattle.format.specs.Questions.{Part, scalars, atcs, stcs, programs, streams, maps, entries, parts_of, part_stated, HoldsPart, Question, entry_point_at_or_before, entry_point_after, primary_video_ep_map, spn_to_byte, byte_to_spn, stc_sequence_by_id, stc_sequence_for_spn, stream_by_pid, primary_video_pid, duration45k, duration90k, presentation_span_90k, indexed_span_90k, transfer_duration_secs, minutes_remaining, seek_spn, next_seek_spn, primary_seek_spn, primary_next_seek_spn, first_pts, last_pts, ep_map_by_kind, next_video_ep_map, clip_byte_len, first_stc_sequence, program_by_pmt_pid, next_video_stream, next_audio_stream, answer, ask}
use Rattle.format.specs.Refusals.{accepted, tables_of, stated_of, tables_answer, all_stated}
use Rattle.format.specs.Tables.{table_bytes, row_room, overwritten, atc_cells, stc_cells, program_cells, stream_cells, map_cells, Table, is_stated, rows_of, ClipTables, clip_in, Nine, HoldsRows, HoldsClip, Room}
use Rattle.format.proofs.Fields.{Fit}
use Rattle.format.proofs.Lists.{All, all_every, all_append, all_map, none, more}
use Rattle.format.proofs.Tables.{Cells, fit_cells, table_back, table_room}
use Rattle.format.proofs.Tests.{true_both}
use Rattle.format.proofs.Good.{Maps, GoodClip}
use Rattle.format.proofs.Write.{maps_fit}

-- the rows of a record have as many cells as their tables say, each of 32 bits
pub record Shaped (c : Clip) : Type 0 where
  pub atcs : All (Cells atc_cells) c.atcs
  pub stcs : All (Cells stc_cells) c.stcs
  pub programs : All (Cells program_cells) c.programs
  pub streams : All (Cells stream_cells) c.streams
  pub maps : All (Cells map_cells) c.maps
  pub entries : All (Cells entry_cells) c.entries

-- ---- a good record's rows have that shape

-- three widths of at most 32 bits each, as one list
three : (a b c : ℕ) → a ≤ 32 → b ≤ 32 → c ≤ 32 → All (λ w. w ≤ 32) (a ∷ b ∷ c ∷ [])
three a b c ha hb hc = more ha (more hb (more hc none))

-- rows that fit fields of at most 32 bits have a cell of 32 bits for each field
rows_shaped : (ws : List ℕ) → All (λ w. w ≤ 32) ws → {rows : List Row} → All (Fit ws) rows → All (Cells (length ws)) rows
rows_shaped ws h rs = all_map (λ row f. fit_cells h f) rs

-- the entries of good maps have six cells of 32 bits each
entries_shaped : {most : ℕ} {ms es : List Row} → Maps most ms es → All (Cells entry_cells) es
entries_shaped Maps.none = none
entries_shaped (Maps.more g size good few later) =
    all_append
    (all_map (λ e h. fit_cells (more (lit≤ tt) (more (lit≤ tt) (more (lit≤ tt) (more (lit≤ tt) (more (lit≤ tt) (more (lit≤ tt) none)))))) h.cells) good)
    (entries_shaped later)

-- so with the rows of all six tables
pub shaped : (most : ℕ) (c : Clip) → GoodClip most c → Shaped c
shaped most c g = record {
  atcs = rows_shaped (32 ∷ 8 ∷ 8 ∷ []) (three 32 8 8 (lit≤ tt) (lit≤ tt) (lit≤ tt)) g.atcs_good;
  stcs = rows_shaped (16 ∷ 32 ∷ 32 ∷ 32 ∷ []) (more (lit≤ tt) (three 32 32 32 (lit≤ tt) (lit≤ tt) (lit≤ tt))) g.stcs_good;
  programs = rows_shaped (32 ∷ 16 ∷ 8 ∷ []) (three 32 16 8 (lit≤ tt) (lit≤ tt) (lit≤ tt)) g.programs_good;
  streams = all_map (λ s h. fit_cells (more (lit≤ tt) (more (lit≤ tt) (three 8 4 24 (lit≤ tt) (lit≤ tt) (lit≤ tt)))) h.cells) g.streams_good;
  maps = rows_shaped (16 ∷ 4 ∷ 18 ∷ []) (three 16 4 18 (lit≤ tt) (lit≤ tt) (lit≤ tt)) (maps_fit g.maps_good);
  entries = entries_shaped g.maps_good;
}

-- ---- a table that holds rows

module _ (cells : ℕ) (t : Table) {rows : List Row} (good : All (Cells cells) rows) (h : HoldsRows t rows) where
  -- its stated rows are these rows, whatever stands beyond them
  pub rows_held : rows_of cells t ≡ rows
  rows_held = rw (h.stated, h.bytes) (table_back cells good h.beyond)

  -- no more rows are stated than it has room for, where a row has a cell at all
  pub is_stated_lem : 0 < cells → is_stated cells t ≡ true
  is_stated_lem pos = rw (h.stated, h.bytes) (le-leb (length rows) (row_room cells (table_bytes rows ++ h.beyond)) (table_room cells pos good h.beyond))

-- ---- all six

module _ (l : ClipTables) (c : Clip) (s : Shaped c) (h : HoldsClip l c) where
  -- the stated rows of tables that hold a record are that record
  pub clip_held : clip_in l ≡ c
  unfolding clip_in
  clip_held =
      let a = rows_held atc_cells l.atcs s.atcs h.atcs in
      let b = rows_held stc_cells l.stcs s.stcs h.stcs in
      let d = rows_held program_cells l.programs s.programs h.programs in
      let e = rows_held stream_cells l.streams s.streams h.streams in
      let m = rows_held map_cells l.maps s.maps h.maps in
      let n = rows_held entry_cells l.entries s.entries h.entries in
      let z = h.scalars in
      λ i. record { scalars = z i; atcs = a i; stcs = b i; programs = d i; streams = e i; maps = m i; entries = n i }

  -- in each of the six, no more rows are stated than lent
  atcs_stated : is_stated atc_cells l.atcs ≡ true
  atcs_stated = is_stated_lem atc_cells l.atcs s.atcs h.atcs (lit< tt)

  stcs_stated : is_stated stc_cells l.stcs ≡ true
  stcs_stated = is_stated_lem stc_cells l.stcs s.stcs h.stcs (lit< tt)

  programs_stated : is_stated program_cells l.programs ≡ true
  programs_stated = is_stated_lem program_cells l.programs s.programs h.programs (lit< tt)

  streams_stated : is_stated stream_cells l.streams ≡ true
  streams_stated = is_stated_lem stream_cells l.streams s.streams h.streams (lit< tt)

  maps_stated : is_stated map_cells l.maps ≡ true
  maps_stated = is_stated_lem map_cells l.maps s.maps h.maps (lit< tt)

  entries_stated : is_stated entry_cells l.entries ≡ true
  entries_stated = is_stated_lem entry_cells l.entries s.entries h.entries (lit< tt)

  -- so all six pass the test that else gives 22
  pub all_stated_lem : all_stated l ≡ true
  unfolding all_stated
  all_stated_lem =
      true_both atcs_stated (true_both stcs_stated (true_both programs_stated (true_both streams_stated (true_both maps_stated entries_stated))))

-- ---- a question looks at its own parts alone, and of these at the stated rows

module _ (l : ClipTables) (c : Clip) (s : Shaped c) where
  -- a part that holds its rows is stated in full
  part_stated_lem : (p : Part) → HoldsPart l c p → part_stated l p ≡ true
  part_stated_lem scalars h = refl
  part_stated_lem atcs h = is_stated_lem atc_cells l.atcs s.atcs h (lit< tt)
  part_stated_lem stcs h = is_stated_lem stc_cells l.stcs s.stcs h (lit< tt)
  part_stated_lem programs h = is_stated_lem program_cells l.programs s.programs h (lit< tt)
  part_stated_lem streams h = is_stated_lem stream_cells l.streams s.streams h (lit< tt)
  part_stated_lem maps h = is_stated_lem map_cells l.maps s.maps h (lit< tt)
  part_stated_lem entries h = is_stated_lem entry_cells l.entries s.entries h (lit< tt)

  -- the stated rows of a part that holds its rows are those of the record, table by table
  stcs_held : HoldsPart l c stcs → rows_of stc_cells l.stcs ≡ c.stcs
  stcs_held h = rows_held stc_cells l.stcs s.stcs h

  programs_held : HoldsPart l c programs → rows_of program_cells l.programs ≡ c.programs
  programs_held h = rows_held program_cells l.programs s.programs h

  streams_held : HoldsPart l c streams → rows_of stream_cells l.streams ≡ c.streams
  streams_held h = rows_held stream_cells l.streams s.streams h

  atcs_held : HoldsPart l c atcs → rows_of atc_cells l.atcs ≡ c.atcs
  atcs_held h = rows_held atc_cells l.atcs s.atcs h

  maps_held : HoldsPart l c maps → rows_of map_cells l.maps ≡ c.maps
  maps_held h = rows_held map_cells l.maps s.maps h

  entries_held : HoldsPart l c entries → rows_of entry_cells l.entries ≡ c.entries
  entries_held h = rows_held entry_cells l.entries s.entries h

  -- the answer on what the tables hold is the answer on the record
  same_answer : (q : Question) → All (HoldsPart l c) (parts_of q) → answer q (clip_in l) ≡ answer q c
  unfolding answer clip_in
  same_answer (entry_point_at_or_before m at) (more hm (more he none)) = rw (maps_held hm, entries_held he)
  same_answer (entry_point_after m at) (more hm (more he none)) = rw (maps_held hm, entries_held he)
  same_answer primary_video_ep_map (more hm none) = rw (maps_held hm)
  same_answer (spn_to_byte spn) (more h none) = rw h
  same_answer (byte_to_spn byte) (more h none) = rw h
  same_answer (stc_sequence_by_id id) (more ha (more hs none)) = rw (atcs_held ha, stcs_held hs)
  same_answer (stc_sequence_for_spn atc spn) (more ha (more hs none)) = rw (atcs_held ha, stcs_held hs)
  same_answer (stream_by_pid pid) (more h none) = rw (streams_held h)
  same_answer primary_video_pid (more h none) = rw (streams_held h)
  same_answer (duration45k stc) (more h none) = rw (stcs_held h)
  same_answer (duration90k stc) (more h none) = rw (stcs_held h)
  same_answer presentation_span_90k (more h none) = rw (stcs_held h)
  same_answer (indexed_span_90k m) (more hm (more he none)) = rw (maps_held hm, entries_held he)
  same_answer transfer_duration_secs (more h none) = rw h
  same_answer (minutes_remaining stc at) (more h none) = rw (stcs_held h)
  same_answer (seek_spn m at) (more hm (more he none)) = rw (maps_held hm, entries_held he)
  same_answer (next_seek_spn m at) (more hm (more he none)) = rw (maps_held hm, entries_held he)
  same_answer (primary_seek_spn at) (more hm (more he none)) = rw (maps_held hm, entries_held he)
  same_answer (primary_next_seek_spn at) (more hm (more he none)) = rw (maps_held hm, entries_held he)
  same_answer (first_pts m) (more hm (more he none)) = rw (maps_held hm, entries_held he)
  same_answer (last_pts m) (more hm (more he none)) = rw (maps_held hm, entries_held he)
  same_answer (ep_map_by_kind kind) (more hm none) = rw (maps_held hm)
  same_answer (next_video_ep_map from) (more hm none) = rw (maps_held hm)
  same_answer clip_byte_len (more h none) = rw h
  same_answer first_stc_sequence (more h none) = rw (stcs_held h)
  same_answer (program_by_pmt_pid pid) (more h none) = rw (programs_held h)
  same_answer (next_video_stream from) (more h none) = rw (streams_held h)
  same_answer (next_audio_stream from) (more h none) = rw (streams_held h)

  -- tables that hold the record in the parts that a question looks at answer as the record does
  pub asked : (q : Question) → All (HoldsPart l c) (parts_of q) → ask q l ≡ answer q c
  unfolding ask
  asked q h = rw (all_every (part_stated l) (all_map part_stated_lem h)) (same_answer q h)

-- ---- reading into tables with room

-- with room for its rows in each table none gives 21, and the answer is what the file states
pub no_short : (f : List ℕ) (tables : Nine (List ℕ)) → Room (tables_of f) tables → tables_answer f tables ≡ accepted (stated_of f)
unfolding tables_answer
no_short f tables r =
    rw (
      le-leb _ _ r.atcs,
      le-leb _ _ r.stcs,
      le-leb _ _ r.programs,
      le-leb _ _ r.streams,
      le-leb _ _ r.maps,
      le-leb _ _ r.entries,
      le-leb _ _ r.extensions,
      le-leb _ _ r.list_programs,
      le-leb _ _ r.list_streams,
    )

-- a table that was filled holds its rows, and beyond them what stood there
pub filled_holds : (rows : List Row) (t : List ℕ) → HoldsRows (record { bytes = overwritten (table_bytes rows) t; rows = length rows }) rows
filled_holds rows t = record { stated = refl; beyond = drop (length (table_bytes rows)) t; bytes = refl }
