-- Questions on a map and on an ATC: by the rows that belong to a row, once for both.
use Prim.Native.Nat.{ℕ, zero, suc, ◌+◌, ◌-◌, ◌%◌, ◌≤◌, ◌<◌}
use mathlib.Core.Path.{◌≡◌, refl, sym, ap, ◌∙◌}
use mathlib.Core.List.{List, [], ◌∷◌, ◌++◌, map}
use mathlib.Core.Bool.{Bool, true, false}
use native.Mathlib.Nat.{zero-add}
use native.Mathlib.Omega.{arith}
use lib.ListN.{length, get_or, take, drop, length-map, length-append}
use lib.Seq.{take-append_seam, drop-append-add, split_at, length-take-le}
use lib.Dec.{leb, ltb, eqb}
use borrow.Author.Tests.{eqb-true, ne_eqb, eq-eqb, leb-true, le-leb, lt-leb, lt-ltb, le-ltb, ltb-true}
use Rattle.format.specs.Bytes.{both, pick, total}
use Rattle.format.specs.Ticks.{Ticks90}
use Rattle.format.specs.ClipRecord.{Row, Clip, stc_packet, atc_stc_count, entry_count, map_type_of, time, packet, entry_time}
use Rattle.format.specs.Questions.{Answer, refused, none, number, ticks90, nothing, last_where, of_row, last_of, span_of, first_time, last_time, entry_point_at_or_before, entry_point_after, seek_spn, next_seek_spn, first_pts, last_pts, indexed_span_90k, primary_video_ep_map, primary_map, primary_seek_spn, primary_next_seek_spn, ep_map_by_kind, stc_sequence_by_id, stc_sequence_for_spn, stc_by_id, stc_by_spn, kinds, at_or_before, after, first_row, own_rows, of_map, of_primary_map, of_atcs, of_atc, seek, next_seek, answer}
use Rattle.format.proofs.Fields.{time_cells}
use Rattle.format.proofs.Lists.{All, none as end, more}
use Rattle.format.proofs.Rounding.{transfer_near}
use Rattle.format.proofs.Tests.{true_both}
use Rattle.format.proofs.Lookups.{first_from, NoneOrRow, no_row, a_row, before_rows, after_rows}
use Rattle.theorems.specs.Figure.{Stc, stc_row, IsLess}
use Rattle.theorems.specs.Choices.{cell, FirstOrNone}
use Rattle.theorems.specs.Owners.{own_joined, Entry, entry_as_row, Map, map_row, entries_as_rows, WithMaps, PacketTold, nothing_told, told, Ends, about_map, OfMap, Atc, atc_row, stc_rows_of, WithAtcs, stc_count, HasIt, Owners}
use Rattle.theorems.proofs.Figure.{less_is, is_there}
use Rattle.theorems.proofs.Choices.{first_or_none}

-- ---- rows that belong to a row

module _ {G : Type 0} (head : G → Row) (own : G → List Row) (count : Row → ℕ) (counted : (g : G) → count (head g) ≡ length (own g)) where
  -- the counts add up
  adds_up : (gs : List G) → total count (map head gs) ≡ length (own_joined own gs)
  adds_up [] = refl
  adds_up (g ∷ gs) = rw (counted g, adds_up gs) (sym (length-append (own g) (own_joined own gs)))

  -- the rows before those of one are those of the ones before it
  first_is : (before : List G) (g : G) (behind : List G) → first_row count (map head (before ++ (g ∷ behind))) (length before) ≡ length (own_joined own before)
  first_is [] g behind = refl
  first_is (b ∷ before) g behind = rw (counted b, first_is before g behind) (sym (length-append (own b) (own_joined own before)))

  -- its own rows
  own_is : (before : List G) (g : G) (behind : List G)
      → own_rows count (map head (before ++ (g ∷ behind))) (own_joined own (before ++ (g ∷ behind))) (length before) ≡ own g
  own_is [] g behind = rw (counted g) (take-append_seam (own g) (own_joined own behind))
  own_is (b ∷ before) g behind =
      let rest = own_joined own (before ++ (g ∷ behind)) in
      let n = first_row count (map head (before ++ (g ∷ behind))) (length before) in
      rw (counted b, drop-append-add (own b) rest n) (own_is before g behind)

  -- and it is a row
  is_row : (before : List G) (g : G) (behind : List G) → ltb (length before) (length (map head (before ++ (g ∷ behind)))) ≡ true
  is_row before g behind = lt-ltb (length before) (length (map head (before ++ (g ∷ behind)))) (is_there head before g behind)

-- ---- maps

-- the count of a map is that of its entries
map_counted : (m : Map) → entry_count (map_row m) ≡ length (entries_as_rows m)
map_counted m = sym (length-map m.entries entry_as_row)

-- the count of an ATC likewise
atc_counted : (a : Atc) → atc_stc_count (atc_row a) ≡ length (stc_rows_of a)
atc_counted a = sym (length-map a.stcs stc_row)

-- the counts of all maps
maps_add : (maps : List Map) → eqb (total entry_count (map map_row maps)) (length (own_joined entries_as_rows maps)) ≡ true
maps_add maps = eq-eqb (total entry_count (map map_row maps)) (length (own_joined entries_as_rows maps)) (adds_up map_row entries_as_rows entry_count map_counted maps)

module _ (before : List Map) (m : Map) (behind : List Map) (c : WithMaps (before ++ (m ∷ behind))) where
  -- a question about the map is put to its own entries
  of_map_is : (question : List Row → Answer) → of_map c.clip.maps c.clip.entries (length before) question ≡ question (entries_as_rows m)
  unfolding of_map
  of_map_is question =
      rw (
        c.maps_are,
        c.entries_are,
        maps_add (before ++ (m ∷ behind)),
        is_row map_row entries_as_rows entry_count map_counted before m behind,
        own_is map_row entries_as_rows entry_count map_counted before m behind,
      )

  -- so is one about the primary map
  of_primary_is : answer primary_video_ep_map c.clip ≡ number (length before) → (question : List Row → Answer)
      → of_primary_map c.clip.maps c.clip.entries question ≡ question (entries_as_rows m)
  unfolding answer of_primary_map
  of_primary_is e question =
      rw (
        e,
        c.maps_are,
        c.entries_are,
        maps_add (before ++ (m ∷ behind)),
        own_is map_row entries_as_rows entry_count map_counted before m behind,
      )

-- the times of entries
times_are : (es : List Entry) → map time (map entry_as_row es) ≡ map (λ (e : Entry). e.time) es
times_are [] = refl
times_are (e ∷ es) = rw (time_cells e.time, times_are es)

-- an entry of zeros
abbrev no_entry : Entry
no_entry = record { angle = 0; i_end = 0; time = 0; packet = 0; type = 0 }

-- the packet in a row, and that of the entry
packet_at : (es : List Entry) (k : ℕ) → packet (get_or (map entry_as_row es) k []) ≡ (get_or es k no_entry).packet
packet_at [] k = refl
packet_at (e ∷ es) zero = refl
packet_at (e ∷ es) (suc k) = packet_at es k

-- a row that is named tells its packet
packet_told : (es : List Entry) {a : Answer} → NoneOrRow (length es) a → PacketTold es a (of_row packet (map entry_as_row es) a)
packet_told es no_row = nothing_told
packet_told es (a_row k h) =
    let n : length (take k es) ≡ k = length-take-le k es (omega arith) in
    let t = told (take k es) (get_or es k no_entry) (drop (suc k) es) (split_at es k no_entry h) in
    rw (packet_at es k) (rw n at t)

-- the time of the last entry
abbrev last_ticks : List Entry → ℕ
last_ticks [] = 0
last_ticks (e ∷ es) = (last_of (entry_time (entry_as_row e)) (map entry_as_row es)).ticks

-- is that of the one with which the entries end
last_ticks_lem : (before : List Entry) (l : Entry) → last_ticks (before ++ (l ∷ [])) ≡ l.time
last_ticks_lem [] l = time_cells l.time
last_ticks_lem (b ∷ []) l = time_cells l.time
last_ticks_lem (b ∷ x ∷ before) l = last_ticks_lem (x ∷ before) l

module _ (before : List Map) (m : Map) (behind : List Map) (c : WithMaps (before ++ (m ∷ behind))) where
  -- the lookups
  at_or_before_is : (at : Ticks90) → answer (entry_point_at_or_before (length before) at) c.clip ≡ at_or_before (map (λ (e : Entry). e.time) m.entries) at.ticks
  unfolding answer
  at_or_before_is at = of_map_is before m behind c (λ es. at_or_before (map time es) at.ticks) ∙ rw (times_are m.entries)

  -- the same behind a time
  after_is : (at : Ticks90) → answer (entry_point_after (length before) at) c.clip ≡ after (map (λ (e : Entry). e.time) m.entries) at.ticks
  unfolding answer
  after_is at = of_map_is before m behind c (λ es. after (map time es) at.ticks) ∙ rw (times_are m.entries)

  -- as many times as entries
  rows_of : (a : Answer) → NoneOrRow (length (map (λ (e : Entry). e.time) m.entries)) a → NoneOrRow (length m.entries) a
  rows_of a r = rw (length-map m.entries (λ (e : Entry). e.time)) at r

  -- what the seeks answer of the rows
  seek_answer : (at : Ticks90) → answer (seek_spn (length before) at) c.clip ≡ of_row packet (entries_as_rows m) (at_or_before (map (λ (e : Entry). e.time) m.entries) at.ticks)
  unfolding answer
  seek_answer at = of_map_is before m behind c (λ es. seek es at.ticks) ∙ rw (times_are m.entries)

  -- behind a time likewise
  next_answer : (at : Ticks90) → answer (next_seek_spn (length before) at) c.clip ≡ of_row packet (entries_as_rows m) (after (map (λ (e : Entry). e.time) m.entries) at.ticks)
  unfolding answer
  next_answer at = of_map_is before m behind c (λ es. next_seek es at.ticks) ∙ rw (times_are m.entries)

  -- so the packets are those of the rows that are named
  seek_is : (at : Ticks90) → PacketTold m.entries (answer (entry_point_at_or_before (length before) at) c.clip) (answer (seek_spn (length before) at) c.clip)
  seek_is at =
      let times = map (λ (e : Entry). e.time) m.entries in
      rw (at_or_before_is at, seek_answer at) (packet_told m.entries (rows_of (at_or_before times at.ticks) (before_rows times at.ticks)))

  -- behind a time likewise
  next_is : (at : Ticks90) → PacketTold m.entries (answer (entry_point_after (length before) at) c.clip) (answer (next_seek_spn (length before) at) c.clip)
  next_is at =
      let times = map (λ (e : Entry). e.time) m.entries in
      rw (after_is at, next_answer at) (packet_told m.entries (rows_of (after times at.ticks) (after_rows times at.ticks)))

  -- the first time
  first_answer : answer (first_pts (length before)) c.clip ≡ first_time (entries_as_rows m)
  unfolding answer
  first_answer = of_map_is before m behind c first_time

  -- the last
  last_answer : answer (last_pts (length before)) c.clip ≡ last_time (entries_as_rows m)
  unfolding answer
  last_answer = of_map_is before m behind c last_time

  -- the span
  span_answer_lem : answer (indexed_span_90k (length before)) c.clip ≡ ticks90 (span_of (entries_as_rows m))
  unfolding answer
  span_answer_lem = of_map_is before m behind c (λ es. ticks90 (span_of es))

  -- the first and the last entry
  module _ (e l : Entry) (ends : Ends m.entries e l) where
    -- the last time of the rows is that of the last entry
    last_time_lem : last_ticks m.entries ≡ l.time
    last_time_lem = ap last_ticks ends.ends ∙ last_ticks_lem ends.before l

    -- the same by how they begin
    last_begun : (last_of (entry_time (entry_as_row e)) (map entry_as_row ends.behind)).ticks ≡ l.time
    last_begun = sym (ap last_ticks ends.begins) ∙ last_time_lem

    -- the three answers
    first_told : answer (first_pts (length before)) c.clip ≡ ticks90 (record { ticks = e.time })
    first_told = first_answer ∙ rw (ends.begins, time_cells e.time)

    -- the last time
    last_told : answer (last_pts (length before)) c.clip ≡ ticks90 (record { ticks = l.time })
    last_told = last_answer ∙ rw ends.begins (ap (λ (n : ℕ). ticks90 (record { ticks = n })) last_begun)

    -- the span
    span_told : (t : ℕ) × (answer (indexed_span_90k (length before)) c.clip ≡ ticks90 (record { ticks = t })) × IsLess l.time e.time t
    unfolding span_of
    span_told =
        let told = ap (λ (n : ℕ). ticks90 (record { ticks = n - (entry_time (entry_as_row e)).ticks })) last_begun in
        (l.time - e.time, span_answer_lem ∙ rw ends.begins (told ∙ rw (time_cells e.time)), less_is l.time e.time)

  -- without entries
  no_first_told : m.entries ≡ [] → answer (first_pts (length before)) c.clip ≡ none
  no_first_told z = first_answer ∙ rw z

  -- nor a last
  no_last_told : m.entries ≡ [] → answer (last_pts (length before)) c.clip ≡ none
  no_last_told z = last_answer ∙ rw z

  -- nor a span
  no_span_told : m.entries ≡ [] → answer (indexed_span_90k (length before)) c.clip ≡ ticks90 (record { ticks = 0 })
  unfolding span_of
  no_span_told z = span_answer_lem ∙ rw z

  -- by the primary map
  primary_told : answer primary_video_ep_map c.clip ≡ number (length before) → (at : Ticks90)
      → (answer (primary_seek_spn at) c.clip ≡ answer (seek_spn (length before) at) c.clip) × (answer (primary_next_seek_spn at) c.clip ≡ answer (next_seek_spn (length before) at) c.clip)
  unfolding answer
  primary_told e at = (
    of_primary_is before m behind c e (λ es. seek es at.ticks) ∙ sym (of_map_is before m behind c (λ es. seek es at.ticks)),
    of_primary_is before m behind c e (λ es. next_seek es at.ticks) ∙ sym (of_map_is before m behind c (λ es. next_seek es at.ticks)),
  )

  -- all of it
  map_told : OfMap before m c.clip
  map_told = record {
    at_or_before_lem = at_or_before_is;
    after = after_is;
    seek = seek_is;
    next_seek_lem = next_is;
    first = first_told;
    last = last_told;
    span = span_told;
    no_first = no_first_told;
    no_last = no_last_told;
    no_span = no_span_told;
    primary = primary_told;
  }

-- ---- ATCs

-- the counts of all ATCs
atcs_add : (atcs : List Atc) → eqb (total atc_stc_count (map atc_row atcs)) (length (own_joined stc_rows_of atcs)) ≡ true
atcs_add atcs = eq-eqb (total atc_stc_count (map atc_row atcs)) (length (own_joined stc_rows_of atcs)) (adds_up atc_row stc_rows_of atc_stc_count atc_counted atcs)

-- an ATC that has the id passes the test
has_passes : (id : ℕ) (a : Atc) → HasIt id a → both (leb a.offset id) (ltb (id - a.offset) (length a.stcs)) ≡ true
has_passes id a h =
    let low = h.0 in
    let high = h.1 in
    true_both (le-leb a.offset id low) (lt-ltb (id - a.offset) (length a.stcs) (omega arith))

-- one that has it not fails
has_not : (id : ℕ) (a : Atc) → (HasIt id a → ⊥) → both (leb a.offset id) (ltb (id - a.offset) (length a.stcs)) ≡ false
has_not id a h = go (leb a.offset id) refl (ltb (id - a.offset) (length a.stcs)) refl
  where
    go : (b : Bool) → leb a.offset id ≡ b → (d : Bool) → ltb (id - a.offset) (length a.stcs) ≡ d → both b d ≡ false
    go true e true g =
        let low = leb-true a.offset id e in
        let high = ltb-true (id - a.offset) (length a.stcs) g in
        absurd (h (low, omega arith))
    go true e false g = refl
    go false e d g = refl

-- the search by id, where k STCs stand before
by_id_is : (id k : ℕ) {before : List Atc} (a : Atc) (behind : List Atc) → All (λ b. HasIt id b → ⊥) before → HasIt id a
    → stc_by_id (map atc_row (before ++ (a ∷ behind))) id k ≡ number (k + (stc_count before + (id - a.offset)))
unfolding stc_by_id
by_id_is id k a behind end h = let e : k + (id - a.offset) ≡ k + (0 + (id - a.offset)) = omega arith in rw (has_passes id a h) (ap number e)
by_id_is id k a behind (more {x = b} {xs = bs} n ns) h =
    let r = by_id_is id (k + length b.stcs) a behind ns h in
    let l = length-append (stc_rows_of b) (own_joined stc_rows_of bs) in
    let j = length-map b.stcs stc_row in
    let e : k + length b.stcs + (stc_count bs + (id - a.offset)) ≡ k + (stc_count (b ∷ bs) + (id - a.offset)) = omega arith in
    rw (has_not id b n) (r ∙ ap number e)

-- and where none has it
no_id_is : (id k : ℕ) {atcs : List Atc} → All (λ b. HasIt id b → ⊥) atcs → stc_by_id (map atc_row atcs) id k ≡ none
unfolding stc_by_id
no_id_is id k end = refl
no_id_is id k (more {x = b} n ns) = rw (has_not id b n) (no_id_is id (k + length b.stcs) ns)

-- the search by packet: those behind change nothing
none_behind : (spn k : ℕ) (sofar : Answer) {stcs : List Stc} → All (λ t. spn < t.packet) stcs → last_where (λ y. leb y spn) k (map stc_packet (map stc_row stcs)) sofar ≡ sofar
none_behind spn k sofar end = refl
none_behind spn k sofar (more {x = s} h hs) = rw (last_where, lt-leb s.packet spn h) (none_behind spn (suc k) sofar hs)

-- the last that is at most the packet
last_there : (spn k : ℕ) (sofar : Answer) (stcs : List Stc) (s : Stc) (behind : List Stc) → s.packet ≤ spn → All (λ t. spn < t.packet) behind
    → last_where (λ y. leb y spn) k (map stc_packet (map stc_row (stcs ++ (s ∷ behind)))) sofar ≡ number (k + length stcs)
last_there spn k sofar [] s behind h hs =
    let e : k ≡ k + 0 = omega arith in
    rw (last_where, le-leb s.packet spn h) (none_behind spn (suc k) (number k) hs ∙ ap number e)
last_there spn k sofar (x ∷ stcs) s behind h hs =
    let e : suc k + length stcs ≡ k + suc (length stcs) = omega arith in
    last_there spn (suc k) (pick (leb x.packet spn) (number k) sofar) stcs s behind h hs ∙ ap number e

module _ (before : List Atc) (a : Atc) (behind : List Atc) (c : WithAtcs (before ++ (a ∷ behind))) where
  -- a question about the ATC is put to its own STCs
  of_atc_is : (question : List Row → ℕ → Answer) → of_atc c.clip.atcs c.clip.stcs (length before) question ≡ question (stc_rows_of a) (stc_count before)
  unfolding of_atc
  of_atc_is question =
      rw (
        c.atcs_are,
        c.stcs_are,
        atcs_add (before ++ (a ∷ behind)),
        is_row atc_row stc_rows_of atc_stc_count atc_counted before a behind,
        own_is atc_row stc_rows_of atc_stc_count atc_counted before a behind,
        first_is atc_row stc_rows_of atc_stc_count atc_counted before a behind,
      )

  -- by id
  id_told : (id : ℕ) → All (λ b. HasIt id b → ⊥) before → HasIt id a → answer (stc_sequence_by_id id) c.clip ≡ number (stc_count before + (id - a.offset))
  unfolding answer of_atcs
  id_told id others h = rw (c.atcs_are, c.stcs_are, atcs_add (before ++ (a ∷ behind))) (by_id_is id 0 a behind others h ∙ ap number (zero-add _))

  -- by packet
  packet_is : (stcs : List Stc) (s : Stc) (later : List Stc) → a.stcs ≡ stcs ++ (s ∷ later) → (spn : ℕ)
      → s.packet ≤ spn → All (λ t. spn < t.packet) later
      → answer (stc_sequence_for_spn (length before) spn) c.clip ≡ number (stc_count before + length stcs)
  unfolding answer stc_by_spn
  packet_is stcs s later e spn h hs =
      of_atc_is (λ rows first. stc_by_spn rows spn first) ∙ rw e (last_there spn (stc_count before) none stcs s later h hs)

  -- or none
  no_packet_is : (spn : ℕ) → All (λ t. spn < t.packet) a.stcs → answer (stc_sequence_for_spn (length before) spn) c.clip ≡ none
  unfolding answer stc_by_spn
  no_packet_is spn hs = of_atc_is (λ rows first. stc_by_spn rows spn first) ∙ none_behind spn (stc_count before) none hs

-- ---- 22

-- a map that is not there
not_a_map : (maps : List Map) (c : WithMaps maps) (k : ℕ) → length maps ≤ k → (question : List Row → Answer) → of_map c.clip.maps c.clip.entries k question ≡ refused 22
unfolding of_map
not_a_map maps c k h question =
    rw (c.maps_are, c.entries_are, maps_add maps, le-ltb k (length (map map_row maps)) (omega (arith, length-map maps map_row)))

-- counts of maps that do not add up
not_counted : (maps entries : List Row) (k : ℕ) → (total entry_count maps ≡ length entries → ⊥) → (question : List Row → Answer) → of_map maps entries k question ≡ refused 22
unfolding of_map
not_counted maps entries k h question = rw (ne_eqb (total entry_count maps) (length entries) h)

-- nor by the primary map
primary_not_counted : (maps entries : List Row) → (total entry_count maps ≡ length entries → ⊥) → (question : List Row → Answer) → of_primary_map maps entries question ≡ refused 22
unfolding of_primary_map
primary_not_counted maps entries h question = rw (ne_eqb (total entry_count maps) (length entries) h)

-- seven questions about map k, of which each is put to the entries
seven : (c : Clip) (k : ℕ) (at : Ticks90) → ((question : List Row → Answer) → of_map c.maps c.entries k question ≡ refused 22) → All (λ q. answer q c ≡ refused 22) (about_map k at)
unfolding answer
seven c k at no_rows =
    more (no_rows (λ es. at_or_before (map time es) at.ticks))
    (more (no_rows (λ es. after (map time es) at.ticks))
    (more (no_rows (λ es. seek es at.ticks))
    (more (no_rows (λ es. next_seek es at.ticks))
    (more (no_rows first_time)
    (more (no_rows last_time)
    (more (no_rows (λ es. ticks90 (span_of es))) end))))))

-- counts of maps
odd_maps_are : (c : Clip) (k : ℕ) (at : Ticks90) → (total (cell 2) c.maps ≡ length c.entries → ⊥)
    → All (λ q. answer q c ≡ refused 22) (primary_seek_spn at ∷ primary_next_seek_spn at ∷ about_map k at)
unfolding answer
odd_maps_are c k at h =
    more (primary_not_counted c.maps c.entries h (λ es. seek es at.ticks))
    (more (primary_not_counted c.maps c.entries h (λ es. next_seek es at.ticks))
    (seven c k at (not_counted c.maps c.entries k h)))

-- an ATC that is not there
no_atc_is : (atcs : List Atc) (c : WithAtcs atcs) (k spn : ℕ) → length atcs ≤ k → answer (stc_sequence_for_spn k spn) c.clip ≡ refused 22
unfolding answer of_atc
no_atc_is atcs c k spn h =
    rw (c.atcs_are, c.stcs_are, atcs_add atcs, le-ltb k (length (map atc_row atcs)) (omega (arith, length-map atcs atc_row)))

-- counts of ATCs
odd_atcs_are : (c : Clip) (k spn id : ℕ) → (total (cell 1) c.atcs ≡ length c.stcs → ⊥)
    → All (λ q. answer q c ≡ refused 22) (stc_sequence_by_id id ∷ stc_sequence_for_spn k spn ∷ [])
unfolding answer of_atc of_atcs
odd_atcs_are c k spn id h =
    let e = ne_eqb (total atc_stc_count c.atcs) (length c.stcs) h in
    more {x = stc_sequence_by_id id} (rw e) (more {x = stc_sequence_for_spn k spn} (rw e) end)

-- ---- the statements together

-- no id
no_id_told : (atcs : List Atc) (c : WithAtcs atcs) (id : ℕ) → All (λ b. HasIt id b → ⊥) atcs → answer (stc_sequence_by_id id) c.clip ≡ none
unfolding answer of_atcs
no_id_told atcs c id h = rw (c.atcs_are, c.stcs_are, atcs_add atcs) (no_id_is id 0 h)

-- no maps
no_maps_told : (c : WithMaps []) (at : Ticks90) → (answer (primary_seek_spn at) c.clip ≡ none) × (answer (primary_next_seek_spn at) c.clip ≡ none)
unfolding answer of_primary_map primary_map
no_maps_told c at = (rw (c.maps_are, c.entries_are), rw (c.maps_are, c.entries_are))

-- the first map of a type
by_kind_is : (c : Clip) (kind : ℕ) → FirstOrNone (length c.maps) (λ k. cell 1 (get_or c.maps k []) % 16 ≡ kind % 16) (λ k. k) (answer (ep_map_by_kind kind) c)
unfolding answer
by_kind_is c kind =
    first_or_none c.maps (λ (m : Row). map_type_of m % 16) refl (λ y. eqb y (kind % 16)) (λ k. cell 1 (get_or c.maps k []) % 16 ≡ kind % 16)
    (λ k. eqb-true (cell 1 (get_or c.maps k []) % 16) (kind % 16)) (λ k. eq-eqb (cell 1 (get_or c.maps k []) % 16) (kind % 16))
    (first_from (λ y. eqb y (kind % 16)) 0 (kinds c.maps))

-- all of it
pub owners : Owners
unfolding answer
owners = record {
  of_map = map_told;
  of_atc_lem = λ before a behind c. record { by_id = id_told before a behind c; by_packet = packet_is before a behind c; none_by_packet = no_packet_is before a behind c };
  no_id = no_id_told;
  no_maps = no_maps_told;
  no_map = λ maps c k at h. seven c.clip k at (not_a_map maps c k h);
  no_atc = no_atc_is;
  odd_maps = odd_maps_are;
  odd_atcs = odd_atcs_are;
  first_stc = λ c s later e. rw e;
  no_stc = λ c e. rw e;
  by_kind = by_kind_is;
  byte_length = λ c. refl;
  transfer = λ c R P. transfer_near c.scalars.rate c.scalars.packets R P;
}
