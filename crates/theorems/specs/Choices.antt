-- The other lookups that choose a row: the primary map, an STC by id and by packet, a stream by PID, the primary video PID, a program by PMT PID, the next row of a kind.
use Rattle.std.specs.Prelude.{ℕ, ◌+◌, ◌-◌, ◌%◌, ◌≤◌, ◌<◌, ◌≡◌, List, [], map, Bool, true, false, length, get_or, take}
use Rattle.format.specs.Bytes.{total}
use Rattle.format.specs.ClipRecord.{Row, Clip}
use Rattle.format.specs.Programs.{is_video}
use Rattle.format.specs.Questions.{Answer, none, number, is_video_map, primary_map, stc_by_id, stc_by_spn, stream_by_pid, primary_video_pid, program_by_pmt_pid, next_video_stream, next_audio_stream, next_video_ep_map, is_audio, answer}
use Rattle.format.proofs.Lookups.{IsNext}

-- the cell in a column of a row, the columns counted from 0: table 1 has packet, STC count and offset id; table 2 PID, packet, start and end;
-- table 3 packet, PID and stream count; table 4 PID, coding type, format, aspect and language; table 5 PID, type and entry count
abbrev pub cell : ℕ → Row → ℕ
cell column row = get_or row column 0

-- ---- rows with a property, of n rows

-- no row has it
abbrev pub NoRow : ℕ → (ℕ → Type 0) → Type 0
NoRow n Has = (j : ℕ) → j < n → Has j → ⊥

-- row k has it, and no earlier row
pub record IsFirstRow (n : ℕ) (Has : ℕ → Type 0) (k : ℕ) : Type 0 where
  pub row : k < n
  pub has : Has k
  pub earliest : (j : ℕ) → j < k → Has j → ⊥

-- row k has it, and no later row
pub record IsLastRow (n : ℕ) (Has : ℕ → Type 0) (k : ℕ) : Type 0 where
  pub row : k < n
  pub has : Has k
  pub latest : (j : ℕ) → k < j → j < n → Has j → ⊥

-- none where no row has it; else what is told of the first row that has it, or of the last
pub data FirstOrNone (n : ℕ) (Has : ℕ → Type 0) (told : ℕ → ℕ) : Answer → Type 0 where
  no_row : NoRow n Has → FirstOrNone n Has told none
  a_row : (k : ℕ) → IsFirstRow n Has k → FirstOrNone n Has told (number (told k))

-- the same with the last row that has it
pub data LastOrNone (n : ℕ) (Has : ℕ → Type 0) (told : ℕ → ℕ) : Answer → Type 0 where
  no_row : NoRow n Has → LastOrNone n Has told none
  a_row : (k : ℕ) → IsLastRow n Has k → LastOrNone n Has told (number (told k))

-- none where no row from `from` on passes a test; else a row that is not before it and passes, and no row between does
pub data NextOrNone (test : ℕ → Bool) (from : ℕ) (column : List ℕ) : Answer → Type 0 where
  no_row : ((j : ℕ) → from ≤ j → j < length column → test (get_or column j 0) ≡ false) → NextOrNone test from column none
  a_row : (k : ℕ) → IsNext test from column k → NextOrNone test from column (number k)

-- ---- the primary map, by the low four bits of the type

-- the low four bits of the type of map k
abbrev pub kind_at : List Row → ℕ → ℕ
kind_at maps k = cell 1 (get_or maps k []) % 16

-- the PID of map k
abbrev pub pid_at : List Row → ℕ → ℕ
pid_at maps k = cell 0 (get_or maps k [])

-- map k is of type 8
abbrev pub Is8 : List Row → ℕ → Type 0
Is8 maps k = kind_at maps k ≡ 8

-- map k is of type 1, 5, 6 or 8
abbrev pub IsVideo : List Row → ℕ → Type 0
IsVideo maps k = is_video_map (kind_at maps k) ≡ true

-- no PID is less, and no earlier map has the same
pub record IsLeastPid (maps : List Row) (k : ℕ) : Type 0 where
  pub row : k < length maps
  pub least : (j : ℕ) → j < length maps → pid_at maps k ≤ pid_at maps j
  pub earliest : (j : ℕ) → j < k → pid_at maps j ≡ pid_at maps k → ⊥

-- the first of type 8; where there is none, the first of a video type; where there is none either, the least PID
pub data IsPrimary (maps : List Row) (k : ℕ) : Type 0 where
  of_type_8 : IsFirstRow (length maps) (Is8 maps) k → IsPrimary maps k
  of_video : NoRow (length maps) (Is8 maps) → IsFirstRow (length maps) (IsVideo maps) k → IsPrimary maps k
  of_least_pid : NoRow (length maps) (IsVideo maps) → IsLeastPid maps k → IsPrimary maps k

-- there is none without maps; else there is such a map, it is the only one, and it is answered
pub record PrimaryMap (maps : List Row) : Type 0 where
  pub without : maps ≡ [] → primary_map maps ≡ none
  pub answered : 0 < length maps → (k : ℕ) × (primary_map maps ≡ number k) × IsPrimary maps k
  pub only : (j k : ℕ) → IsPrimary maps j → IsPrimary maps k → j ≡ k

-- ---- STCs

-- the id less the offset id of ATC a is not negative and is a row of it
pub record HasId (atcs : List Row) (id a : ℕ) : Type 0 where
  pub not_negative : cell 2 (get_or atcs a []) ≤ id
  pub row : id - cell 2 (get_or atcs a []) < cell 1 (get_or atcs a [])

-- that row's place behind the STCs of the earlier ATCs
abbrev pub stc_of_id : List Row → ℕ → ℕ → ℕ
stc_of_id atcs id a = total (cell 1) (take a atcs) + (id - cell 2 (get_or atcs a []))

-- the packet of STC k is at most the one given
abbrev pub NotBehind : List Row → ℕ → ℕ → Type 0
NotBehind stcs spn k = cell 1 (get_or stcs k []) ≤ spn

-- ---- all of it

-- the statements together
pub record Choices : Type 0 where
  pub primary_map_lem : (maps : List Row) → PrimaryMap maps
  -- the first ATC that has the id
  pub stc_by_id_lem : (atcs : List Row) (id : ℕ) → FirstOrNone (length atcs) (HasId atcs id) (stc_of_id atcs id) (stc_by_id atcs id 0)
  -- the last row that is not behind the packet, of the STCs of an ATC, which begin with row `first`
  pub stc_by_packet : (stcs : List Row) (spn first : ℕ) → LastOrNone (length stcs) (NotBehind stcs spn) (λ k. first + k) (stc_by_spn stcs spn first)
  -- the first in file order
  pub stream_by_pid_lem : (c : Clip) (pid : ℕ) → FirstOrNone (length c.streams) (λ k. cell 0 (get_or c.streams k []) ≡ pid) (λ k. k) (answer (stream_by_pid pid) c)
  pub program_by_pid : (c : Clip) (pid : ℕ)
      → FirstOrNone (length c.programs) (λ k. cell 1 (get_or c.programs k []) ≡ pid) (λ k. k) (answer (program_by_pmt_pid pid) c)
  -- the PID of the first stream that is video
  pub primary_video_pid_lem : (c : Clip)
      → FirstOrNone (length c.streams) (λ k. is_video (cell 1 (get_or c.streams k [])) ≡ true) (λ k. cell 0 (get_or c.streams k [])) (answer primary_video_pid c)
  -- the next row of a kind
  pub next_video_stream_lem : (c : Clip) (from : ℕ) → NextOrNone is_video from (map (cell 1) c.streams) (answer (next_video_stream from) c)
  pub next_audio_stream_lem : (c : Clip) (from : ℕ) → NextOrNone is_audio from (map (cell 1) c.streams) (answer (next_audio_stream from) c)
  pub next_video_map : (c : Clip) (from : ℕ) → NextOrNone is_video_map from (map (λ (m : Row). cell 1 m % 16) c.maps) (answer (next_video_ep_map from) c)
