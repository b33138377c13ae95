-- "Questions and the front figure": the questions on a record, the lookups of document 01 with what 02 changes, and what each answers.
use Rattle.std.specs.Prelude.{ℕ, suc, ◌+◌, ◌*◌, ◌-◌, ◌/◌, ◌%◌, ◌^◌, ◌≤◌, max, min, ◌≡◌, List, [], ◌∷◌, map, Bool, true, false, get_or, take, drop, leb, ltb, eqb, pos, Float}
use Rattle.std.specs.Float.{nan, inf, fin, binary64}
use Rattle.std.specs.Float.Ieee.{up, down, of_int, div, of_bits, to_bits}
use Rattle.format.specs.Bytes.{both, either, pick, every, total}
use Rattle.format.specs.Ticks.{Ticks45, Ticks90, doubled, less45, less90, plus90, later90, minutes}
use Rattle.format.specs.ClipRecord.{Row, Clip, atc_stc_count, offset_id, stc_packet, stc_start, stc_end, pmt_pid, stream_pid, coding_type_of, map_pid, map_type_of, entry_count, time, packet, entry_time, entry_cells}
use Rattle.format.specs.Programs.{is_video}
use Rattle.format.specs.Tables.{ClipTables, is_stated, add_up, is_row, clip_in, HoldsRows, atc_cells, stc_cells, program_cells, stream_cells, map_cells}

-- every question with its arguments, and what it answers. Rows are counted from 0, entries within their map, STCs through all ATCs.
-- A caller's 90 kHz time has 32 bits for entry lookups and 64 elsewhere; the answers here hold for any number.
-- duration90k, and all from seek_spn on: questions that document 01 does not list, further methods of the Rust and, for the primary map, the next packet too
pub data Question : Type 0 where
  entry_point_at_or_before : (map : ℕ) (at : Ticks90) → Question  -- a row of the map's entries, or none
  entry_point_after : (map : ℕ) (at : Ticks90) → Question  -- a row of the map's entries, or none
  primary_video_ep_map : Question  -- a row of table 5, or none
  spn_to_byte : (spn : ℕ) → Question  -- a byte, or none
  byte_to_spn : (byte : ℕ) → Question  -- a packet, or none
  stc_sequence_by_id : (id : ℕ) → Question  -- a row of table 2, or none
  stc_sequence_for_spn : (atc spn : ℕ) → Question  -- a row of table 2, or none
  stream_by_pid : (pid : ℕ) → Question  -- a row of table 4, or none
  primary_video_pid : Question  -- a PID, or none
  duration45k : (stc : ℕ) → Question  -- 45 kHz ticks
  duration90k : (stc : ℕ) → Question  -- 90 kHz ticks
  presentation_span_90k : Question  -- 90 kHz ticks
  indexed_span_90k : (map : ℕ) → Question  -- 90 kHz ticks
  transfer_duration_secs : Question  -- seconds, or no rate
  minutes_remaining : (stc : ℕ) (at : Ticks90) → Question  -- minutes
  seek_spn : (map : ℕ) (at : Ticks90) → Question  -- the packet of the entry at or before, or none
  next_seek_spn : (map : ℕ) (at : Ticks90) → Question  -- the packet of the entry after, or none
  primary_seek_spn : (at : Ticks90) → Question  -- the same two in the primary map, or none
  primary_next_seek_spn : (at : Ticks90) → Question
  first_pts : (map : ℕ) → Question  -- 90 kHz ticks, or none
  last_pts : (map : ℕ) → Question  -- 90 kHz ticks, or none
  ep_map_by_kind : (kind : ℕ) → Question  -- a row of table 5, or none
  next_video_ep_map : (from : ℕ) → Question  -- a row of table 5, or none
  clip_byte_len : Question  -- bytes
  first_stc_sequence : Question  -- a row of table 2, or none
  program_by_pmt_pid : (pid : ℕ) → Question  -- a row of table 3, or none
  next_video_stream : (from : ℕ) → Question  -- a row of table 4, or none
  next_audio_stream : (from : ℕ) → Question  -- a row of table 4, or none

-- a refusal's number, none, a number (a row, packet, byte, PID or minutes), a time, or the choice of seconds or no rate
pub data Answer : Type 0 where
  refused : ℕ → Answer
  none : Answer
  number : ℕ → Answer
  ticks45 : Ticks45 → Answer
  ticks90 : Ticks90 → Answer
  seconds : Float → Answer
  no_rate : Answer

-- ---- searching a column of numbers, of which the first is in row k

-- the first row that passes
abbrev pub first_where : (ℕ → Bool) → ℕ → List ℕ → Answer
first_where test k [] = none
first_where test k (x ∷ xs) = pick (test x) (number k) (first_where test (suc k) xs)

-- the last row that passes
abbrev pub last_where : (ℕ → Bool) → ℕ → List ℕ → Answer → Answer
last_where test k [] sofar = sofar
last_where test k (x ∷ xs) sofar = last_where test (suc k) xs (pick (test x) (number k) sofar)

-- the row and number that are best so far
pub data Best : Type 0 where
  nothing : Best
  best : ℕ → ℕ → Best

-- row k with number x takes over only where x beats the best so far, so among equals the earliest row stays
abbrev pub better : (ℕ → ℕ → Bool) → ℕ → ℕ → Best → Best
better beats k x nothing = best k x
better beats k x (best j y) = pick (beats x y) (best k x) (best j y)

-- of the rows that pass, the best
abbrev pub best_of : (ℕ → Bool) → (ℕ → ℕ → Bool) → ℕ → List ℕ → Best → Best
best_of test beats k [] sofar = sofar
best_of test beats k (x ∷ xs) sofar = best_of test beats (suc k) xs (pick (test x) (better beats k x sofar) sofar)

-- the row of the best, or what is answered without one
abbrev pub row_or : Answer → Best → Answer
row_or otherwise nothing = otherwise
row_or otherwise (best k x) = number k

-- the first answer, or the second where it is none
abbrev pub or_else : Answer → Answer → Answer
or_else none later = later
or_else (refused n) later = refused n
or_else (number k) later = number k
or_else (ticks45 t) later = ticks45 t
or_else (ticks90 t) later = ticks90 t
or_else (seconds q) later = seconds q
or_else no_rate later = no_rate

-- the first row from row k on that passes
abbrev pub next_where : (ℕ → Bool) → ℕ → List ℕ → Answer
next_where test k xs = first_where test k (drop k xs)

-- a number of the row that was found
abbrev pub of_row : (Row → ℕ) → List Row → Answer → Answer
of_row column rows (number k) = number (column (get_or rows k []))
of_row column rows none = none
of_row column rows (refused n) = refused n
of_row column rows (ticks45 t) = ticks45 t
of_row column rows (ticks90 t) = ticks90 t
of_row column rows (seconds q) = seconds q
of_row column rows no_rate = no_rate

-- ---- rows that belong to a row of another table

-- the rows that stand before those of header row h
abbrev pub first_row : (Row → ℕ) → List Row → ℕ → ℕ
first_row count heads h = total count (take h heads)

-- the rows of header row h
abbrev pub own_rows : (Row → ℕ) → List Row → List Row → ℕ → List Row
own_rows count heads rows h = take (count (get_or heads h [])) (drop (first_row count heads h) rows)

-- 22 where a test fails
abbrev pub unless22 : Bool → Answer → Answer
unless22 true answer = answer
unless22 false answer = refused 22

-- ---- entry points of one map, by their times

-- greatest time not above t, among equals the earliest row; if all are later, row 0; empty map, none
unfoldable pub at_or_before : List ℕ → ℕ → Answer
at_or_before [] t = none
at_or_before (x ∷ xs) t = row_or (number 0) (best_of (λ y. leb y t) (λ y z. ltb z y) 0 (x ∷ xs) nothing)

-- least time above t, earliest among equals, or none
unfoldable pub after : List ℕ → ℕ → Answer
after times t = row_or none (best_of (λ y. ltb t y) (λ y z. ltb y z) 0 times nothing)

-- the last time less the first, not below 0; 0 without rows
abbrev pub last_of : Ticks90 → List Row → Ticks90
last_of t [] = t
last_of t (e ∷ es) = last_of (entry_time e) es

-- first and last are by row, also where the times do not ascend
unfoldable pub span_of : List Row → Ticks90
span_of [] = record { ticks = 0 }
span_of (e ∷ es) = less90 (last_of (entry_time e) es) (entry_time e)

-- the packet to read from for a time: of the entry at or before it, and of the one after
abbrev pub seek : List Row → ℕ → Answer
seek es t = of_row packet es (at_or_before (map time es) t)

abbrev pub next_seek : List Row → ℕ → Answer
next_seek es t = of_row packet es (after (map time es) t)

-- the first time and the last, or none
abbrev pub first_time : List Row → Answer
first_time [] = none
first_time (e ∷ es) = ticks90 (entry_time e)

abbrev pub last_time : List Row → Answer
last_time [] = none
last_time (e ∷ es) = ticks90 (last_of (entry_time e) es)

-- ---- the primary map, by the low four bits of the type: first of type 8, else first of 1, 5, 6, 8, else least PID, earliest among equals

-- the map types that are video
abbrev pub is_video_map : ℕ → Bool
is_video_map type = either (eqb type 1) (either (eqb type 5) (either (eqb type 6) (eqb type 8)))

-- the low four bits of each map's type
abbrev pub kinds : List Row → List ℕ
kinds maps = map (λ (m : Row). map_type_of m % 16) maps

-- a row of table 5; none without maps
unfoldable pub primary_map : List Row → Answer
primary_map maps =
    or_else (first_where (λ y. eqb y 8) 0 (kinds maps))
    (or_else (first_where is_video_map 0 (kinds maps))
    (row_or none (best_of (λ y. true) (λ y z. ltb y z) 0 (map map_pid maps) nothing)))

-- ---- packets and bytes: a packet has 192 bytes, 4 before its 188

-- 192; packet n starts at n times as many bytes
abbrev pub packet_bytes : ℕ
packet_bytes = 4 + 188

-- a packet number up to and including the count
unfoldable pub byte_of : ℕ → ℕ → Answer
byte_of packets spn = pick (leb spn packets) (number (spn * packet_bytes)) none

-- a quotient below the count
unfoldable pub spn_of : ℕ → ℕ → Answer
spn_of packets byte = pick (ltb (byte / packet_bytes) packets) (number (byte / packet_bytes)) none

-- ---- STCs

-- the first ATC in which id less offset id is not negative and is a row of it; k STCs stand before it
unfoldable pub stc_by_id : List Row → ℕ → ℕ → Answer
stc_by_id [] id k = none
stc_by_id (a ∷ later) id k =
    pick (both (leb (offset_id a) id) (ltb (id - offset_id a) (atc_stc_count a)))
    (number (k + (id - offset_id a))) (stc_by_id later id (k + atc_stc_count a))

-- in one ATC, whose STCs begin with row k: the last row whose packet is at most the one given
unfoldable pub stc_by_spn : List Row → ℕ → ℕ → Answer
stc_by_spn stcs spn k = last_where (λ y. leb y spn) k (map stc_packet stcs) none

-- end less start, not below 0
abbrev pub duration_of : Row → Ticks45
duration_of stc = less45 (stc_end stc) (stc_start stc)

-- the latest end; 0 without STCs
abbrev pub latest_end : List Row → Ticks45
latest_end [] = record { ticks = 0 }
latest_end (s ∷ later) = record { ticks = max (stc_end s).ticks (latest_end later).ticks }

-- the least of a start and of those that follow
abbrev pub least_start : Ticks45 → List Row → Ticks45
least_start t [] = t
least_start t (s ∷ later) = least_start (record { ticks = min t.ticks (stc_start s).ticks }) later

-- twice the latest end less twice the least start; 0 without rows
unfoldable pub presentation_span : List Row → Ticks90
presentation_span [] = record { ticks = 0 }
presentation_span (s ∷ later) = less90 (doubled (latest_end (s ∷ later))) (doubled (least_start (stc_start s) later))

-- what is left of an STC at a time: its end less the time, a time before its start taken as the start, not below 0
abbrev pub left_of : Row → Ticks90 → Ticks90
left_of stc at = less90 (doubled (stc_end stc)) (later90 at (doubled (stc_start stc)))

-- the durations of STCs, added up by the 90 kHz clock
abbrev pub durations_of : List Row → Ticks90
durations_of [] = record { ticks = 0 }
durations_of (s ∷ later) = plus90 (doubled (duration_of s)) (durations_of later)

-- minutes remaining: what is left of an STC at a time, plus the durations of all later ones, rounded down
unfoldable pub minutes_left : Row → List Row → Ticks90 → ℕ
minutes_left stc later at = minutes (plus90 (left_of stc at) (durations_of later))

-- ---- streams: the first in file order

-- the PID of the first video stream, or none
unfoldable pub video_pid : List Row → Answer
video_pid streams = of_row stream_pid streams (first_where is_video 0 (map coding_type_of streams))

-- the coding types that the Rust takes for audio: 0x80 to 0x86, 0xA1 and 0xA2
unfoldable pub is_audio : ℕ → Bool
is_audio coding = either (both (leb 0x80 coding) (leb coding 0x86)) (either (eqb coding 0xA1) (eqb coding 0xA2))

-- the first row, or none
abbrev pub any_row : List Row → Answer
any_row [] = none
any_row (r ∷ rows) = number 0

-- ---- transfer duration

-- no rate if the rate is 0, else the f64 quotient of the clip's bytes and the rate
unfoldable pub transfer_secs : ℕ → ℕ → Answer
transfer_secs rate packets =
    pick (eqb rate 0) no_rate (seconds (div binary64 (of_int binary64 (pos (packets * packet_bytes))) (of_int binary64 (pos rate))))

-- |a - b|
abbrev pub apart : ℕ → ℕ → ℕ
apart a b = (a - b) + (b - a)

-- 2^53 × |q × rate − bytes| is at most bytes. q is m × up e / down e with its sign, so both sides are taken times down e
abbrev pub Near : ℕ → ℕ → Float → Type 0
Near rate bytes nan = ⊥
Near rate bytes (inf s) = ⊥
Near rate bytes (fin true m e) = 2 ^ 53 * (m * up e * rate + bytes * down e) ≤ bytes * down e
Near rate bytes (fin false m e) = 2 ^ 53 * apart (m * up e * rate) (bytes * down e) ≤ bytes * down e

-- what holds of the answer: no rate exactly where the rate is 0, else seconds that are near, with q read exactly from its bits
abbrev pub IsTransfer : ℕ → ℕ → Answer → Type 0
IsTransfer rate packets (seconds q) = (rate ≡ 0 → ⊥) × Near rate (packets * packet_bytes) (of_bits binary64 (to_bits binary64 q))
IsTransfer rate packets no_rate = rate ≡ 0
IsTransfer rate packets (refused n) = ⊥
IsTransfer rate packets none = ⊥
IsTransfer rate packets (number n) = ⊥
IsTransfer rate packets (ticks45 t) = ⊥
IsTransfer rate packets (ticks90 t) = ⊥

-- ---- what each question looks at: its rows, and 22

-- the entries of map m, of a table of maps and a table of entries
unfoldable pub of_map : List Row → List Row → ℕ → (List Row → Answer) → Answer
of_map maps entries m question =
    unless22 (both (add_up entry_count maps entries) (is_row m maps)) (question (own_rows entry_count maps entries m))

-- a question on the map that was found
abbrev pub in_map : Answer → (ℕ → Answer) → Answer
in_map (number m) question = question m
in_map none question = none
in_map (refused n) question = refused n
in_map (ticks45 t) question = ticks45 t
in_map (ticks90 t) question = ticks90 t
in_map (seconds q) question = seconds q
in_map no_rate question = no_rate

-- the entries of the primary map; none without maps, if no entries are stated either
unfoldable pub of_primary_map : List Row → List Row → (List Row → Answer) → Answer
of_primary_map maps entries question =
    unless22 (add_up entry_count maps entries) (in_map (primary_map maps) (λ m. question (own_rows entry_count maps entries m)))

-- the STCs through all ATCs
unfoldable pub of_atcs : List Row → List Row → Answer → Answer
of_atcs atcs stcs question = unless22 (add_up atc_stc_count atcs stcs) question

-- the STCs of one ATC, and the row of table 2 with which they begin
unfoldable pub of_atc : List Row → List Row → ℕ → (List Row → ℕ → Answer) → Answer
of_atc atcs stcs a question =
    unless22 (both (add_up atc_stc_count atcs stcs) (is_row a atcs))
    (question (own_rows atc_stc_count atcs stcs a) (first_row atc_stc_count atcs a))

-- one STC
unfoldable pub of_stc : List Row → ℕ → (Row → Answer) → Answer
of_stc stcs k question = unless22 (is_row k stcs) (question (get_or stcs k []))

-- ---- the answer to each question on a record

-- 22 where a row number is outside its table or the counts do not add up, else what the rules above give
unfoldable pub answer : Question → Clip → Answer
answer (entry_point_at_or_before m at) c = of_map c.maps c.entries m (λ es. at_or_before (map time es) at.ticks)
answer (entry_point_after m at) c = of_map c.maps c.entries m (λ es. after (map time es) at.ticks)
answer primary_video_ep_map c = primary_map c.maps
answer (spn_to_byte spn) c = byte_of c.scalars.packets spn
answer (byte_to_spn byte) c = spn_of c.scalars.packets byte
answer (stc_sequence_by_id id) c = of_atcs c.atcs c.stcs (stc_by_id c.atcs id 0)
answer (stc_sequence_for_spn atc spn) c = of_atc c.atcs c.stcs atc (λ stcs first. stc_by_spn stcs spn first)
answer (stream_by_pid pid) c = first_where (λ y. eqb y pid) 0 (map stream_pid c.streams)
answer primary_video_pid c = video_pid c.streams
answer (duration45k stc) c = of_stc c.stcs stc (λ s. ticks45 (duration_of s))
answer (duration90k stc) c = of_stc c.stcs stc (λ s. ticks90 (doubled (duration_of s)))
answer presentation_span_90k c = ticks90 (presentation_span c.stcs)
answer (indexed_span_90k m) c = of_map c.maps c.entries m (λ es. ticks90 (span_of es))
answer transfer_duration_secs c = transfer_secs c.scalars.rate c.scalars.packets
answer (minutes_remaining stc at) c = of_stc c.stcs stc (λ s. number (minutes_left s (drop (suc stc) c.stcs) at))
answer (seek_spn m at) c = of_map c.maps c.entries m (λ es. seek es at.ticks)
answer (next_seek_spn m at) c = of_map c.maps c.entries m (λ es. next_seek es at.ticks)
answer (primary_seek_spn at) c = of_primary_map c.maps c.entries (λ es. seek es at.ticks)
answer (primary_next_seek_spn at) c = of_primary_map c.maps c.entries (λ es. next_seek es at.ticks)
answer (first_pts m) c = of_map c.maps c.entries m first_time
answer (last_pts m) c = of_map c.maps c.entries m last_time
answer (ep_map_by_kind kind) c = first_where (λ y. eqb y (kind % 16)) 0 (kinds c.maps)
answer (next_video_ep_map from) c = next_where is_video_map from (kinds c.maps)
answer clip_byte_len c = number (c.scalars.packets * packet_bytes)
answer first_stc_sequence c = any_row c.stcs
answer (program_by_pmt_pid pid) c = first_where (λ y. eqb y pid) 0 (map pmt_pid c.programs)
answer (next_video_stream from) c = next_where is_video from (map coding_type_of c.streams)
answer (next_audio_stream from) c = next_where is_audio from (map coding_type_of c.streams)

-- ---- the answer from lent tables

-- which of tables 1 to 6 a question is lent, and whether it is given scalars
pub data Part : Type 0 where
  scalars : Part
  atcs : Part
  stcs : Part
  programs : Part
  streams : Part
  maps : Part
  entries : Part

-- a question is lent only what its answer needs
abbrev pub parts_of : Question → List Part
parts_of (entry_point_at_or_before m at) = maps ∷ entries ∷ []
parts_of (entry_point_after m at) = maps ∷ entries ∷ []
parts_of primary_video_ep_map = maps ∷ []
parts_of (spn_to_byte spn) = scalars ∷ []
parts_of (byte_to_spn byte) = scalars ∷ []
parts_of (stc_sequence_by_id id) = atcs ∷ stcs ∷ []
parts_of (stc_sequence_for_spn atc spn) = atcs ∷ stcs ∷ []
parts_of (stream_by_pid pid) = streams ∷ []
parts_of primary_video_pid = streams ∷ []
parts_of (duration45k stc) = stcs ∷ []
parts_of (duration90k stc) = stcs ∷ []
parts_of presentation_span_90k = stcs ∷ []
parts_of (indexed_span_90k m) = maps ∷ entries ∷ []
parts_of transfer_duration_secs = scalars ∷ []
parts_of (minutes_remaining stc at) = stcs ∷ []
parts_of (seek_spn m at) = maps ∷ entries ∷ []
parts_of (next_seek_spn m at) = maps ∷ entries ∷ []
parts_of (primary_seek_spn at) = maps ∷ entries ∷ []
parts_of (primary_next_seek_spn at) = maps ∷ entries ∷ []
parts_of (first_pts m) = maps ∷ entries ∷ []
parts_of (last_pts m) = maps ∷ entries ∷ []
parts_of (ep_map_by_kind kind) = maps ∷ []
parts_of (next_video_ep_map from) = maps ∷ []
parts_of clip_byte_len = scalars ∷ []
parts_of first_stc_sequence = stcs ∷ []
parts_of (program_by_pmt_pid pid) = programs ∷ []
parts_of (next_video_stream from) = streams ∷ []
parts_of (next_audio_stream from) = streams ∷ []

-- in a part that is lent, not more rows are stated than lent, else 22
abbrev pub part_stated : ClipTables → Part → Bool
part_stated l scalars = true
part_stated l atcs = is_stated atc_cells l.atcs
part_stated l stcs = is_stated stc_cells l.stcs
part_stated l programs = is_stated program_cells l.programs
part_stated l streams = is_stated stream_cells l.streams
part_stated l maps = is_stated map_cells l.maps
part_stated l entries = is_stated entry_cells l.entries

-- 22 where a lent part states more rows than it has, else the answer on the record that the tables hold
unfoldable pub ask : Question → ClipTables → Answer
ask question l = unless22 (every (part_stated l) (parts_of question)) (answer question (clip_in l))

-- a part that holds what the record has there, with anything beyond its rows
abbrev pub HoldsPart : ClipTables → Clip → Part → Type 0
HoldsPart l c scalars = l.scalars ≡ c.scalars
HoldsPart l c atcs = HoldsRows l.atcs c.atcs
HoldsPart l c stcs = HoldsRows l.stcs c.stcs
HoldsPart l c programs = HoldsRows l.programs c.programs
HoldsPart l c streams = HoldsRows l.streams c.streams
HoldsPart l c maps = HoldsRows l.maps c.maps
HoldsPart l c entries = HoldsRows l.entries c.entries

-- ---- 01's numbers of an answer: the refusal, whether there is a value, the value. Other numbers are 0

-- a time is given as its ticks, seconds as the bits of the f64, and no rate has no value
abbrev pub answer_numbers : Answer → List ℕ
answer_numbers (refused n) = n ∷ 0 ∷ 0 ∷ []
answer_numbers none = 0 ∷ 0 ∷ 0 ∷ []
answer_numbers (number v) = 0 ∷ 1 ∷ v ∷ []
answer_numbers (ticks45 t) = 0 ∷ 1 ∷ t.ticks ∷ []
answer_numbers (ticks90 t) = 0 ∷ 1 ∷ t.ticks ∷ []
answer_numbers (seconds q) = 0 ∷ 1 ∷ to_bits binary64 q ∷ []
answer_numbers no_rate = 0 ∷ 0 ∷ 0 ∷ []
