-- Questions on a map and on an ATC, told of a record as what it lists: maps, each with its own entries, and ATCs, each with its own STCs.
use Rattle.std.specs.Prelude.{ℕ, ◌+◌, ◌-◌, ◌*◌, ◌/◌, ◌%◌, ◌^◌, ◌≤◌, ◌<◌, ◌≡◌, List, [], ◌∷◌, ◌++◌, map, length, get_or}
use Rattle.format.specs.Bytes.{total}
use Rattle.format.specs.Ticks.{Ticks90}
use Rattle.format.specs.ClipRecord.{Row, Clip}
use Rattle.format.specs.Questions.{Question, Answer, refused, none, number, ticks90, entry_point_at_or_before, entry_point_after, seek_spn, next_seek_spn, first_pts, last_pts, indexed_span_90k, primary_video_ep_map, primary_seek_spn, primary_next_seek_spn, ep_map_by_kind, stc_sequence_by_id, stc_sequence_for_spn, first_stc_sequence, clip_byte_len, transfer_duration_secs, at_or_before, after, IsTransfer, answer}
use Rattle.format.proofs.Lists.{All}
use Rattle.theorems.specs.Figure.{Stc, stc_row, IsLess}
use Rattle.theorems.specs.Choices.{cell, FirstOrNone}

-- what each lists, own_joined
abbrev pub own_joined : {A B : Type 0} → (A → List B) → List A → List B
own_joined own [] = []
own_joined own (x ∷ xs) = own x ++ own_joined own xs

-- ---- maps with their entries

-- an entry as table 6 has it
pub record Entry : Type 0 where
  pub angle : ℕ
  pub i_end : ℕ
  pub time : ℕ
  pub packet : ℕ
  pub type : ℕ

-- its row: the time has two cells, its low 32 bits in the first
abbrev pub entry_as_row : Entry → Row
entry_as_row e = e.angle ∷ e.i_end ∷ e.time % 2 ^ 32 ∷ e.time / 2 ^ 32 ∷ e.packet ∷ e.type ∷ []

-- a map with its entries
pub record Map : Type 0 where
  pub pid : ℕ
  pub type : ℕ
  pub entries : List Entry

-- its row of table 5, and those of its entries
abbrev pub map_row : Map → Row
map_row m = m.pid ∷ m.type ∷ length m.entries ∷ []

abbrev pub entries_as_rows : Map → List Row
entries_as_rows m = map entry_as_row m.entries

-- a record with these maps
pub record WithMaps (maps : List Map) : Type 0 where
  pub clip : Clip
  pub maps_are : clip.maps ≡ map map_row maps
  pub entries_are : clip.entries ≡ own_joined entries_as_rows maps

-- an answer that names a row of some entries, and the answer that tells its packet
pub data PacketTold (entries : List Entry) : Answer → Answer → Type 0 where
  nothing_told : PacketTold entries none none
  told : (before : List Entry) (e : Entry) (behind : List Entry) → entries ≡ before ++ (e ∷ behind)
      → PacketTold entries (number (length before)) (number e.packet)

-- entries that begin with one entry and end with another: by row, also where the times do not ascend
pub record Ends (entries : List Entry) (first last : Entry) : Type 0 where
  pub behind : List Entry
  pub begins : entries ≡ first ∷ behind
  pub before : List Entry
  pub ends : entries ≡ before ++ (last ∷ [])

-- the questions about map k
abbrev pub about_map : ℕ → Ticks90 → List Question
about_map k at = entry_point_at_or_before k at ∷ entry_point_after k at ∷ seek_spn k at ∷ next_seek_spn k at ∷ first_pts k ∷ last_pts k ∷ indexed_span_90k k ∷ []

-- what is answered of a map m that stands behind the maps `before`
pub record OfMap (before : List Map) (m : Map) (c : Clip) : Type 0 where
  -- the two lookups look at the times of its own entries
  pub at_or_before_lem : (at : Ticks90) → answer (entry_point_at_or_before (length before) at) c ≡ at_or_before (map (λ (e : Entry). e.time) m.entries) at.ticks
  pub after : (at : Ticks90) → answer (entry_point_after (length before) at) c ≡ after (map (λ (e : Entry). e.time) m.entries) at.ticks
  -- the packet to read from is that of the entry that the lookup names
  pub seek : (at : Ticks90) → PacketTold m.entries (answer (entry_point_at_or_before (length before) at) c) (answer (seek_spn (length before) at) c)
  pub next_seek_lem : (at : Ticks90) → PacketTold m.entries (answer (entry_point_after (length before) at) c) (answer (next_seek_spn (length before) at) c)
  -- the first time, the last, and the one less the other
  pub first : (e l : Entry) → Ends m.entries e l → answer (first_pts (length before)) c ≡ ticks90 (record { ticks = e.time })
  pub last : (e l : Entry) → Ends m.entries e l → answer (last_pts (length before)) c ≡ ticks90 (record { ticks = l.time })
  pub span : (e l : Entry) → Ends m.entries e l → (t : ℕ) × (answer (indexed_span_90k (length before)) c ≡ ticks90 (record { ticks = t })) × IsLess l.time e.time t
  -- without entries there is no time, and the span is 0
  pub no_first : m.entries ≡ [] → answer (first_pts (length before)) c ≡ none
  pub no_last : m.entries ≡ [] → answer (last_pts (length before)) c ≡ none
  pub no_span : m.entries ≡ [] → answer (indexed_span_90k (length before)) c ≡ ticks90 (record { ticks = 0 })
  -- where it is the primary map, the lookups by the primary map are its own
  pub primary : answer primary_video_ep_map c ≡ number (length before) → (at : Ticks90)
      → (answer (primary_seek_spn at) c ≡ answer (seek_spn (length before) at) c) × (answer (primary_next_seek_spn at) c ≡ answer (next_seek_spn (length before) at) c)

-- ---- ATCs with their STCs

-- an ATC with its STCs
pub record Atc : Type 0 where
  pub packet : ℕ
  pub offset : ℕ
  pub stcs : List Stc

-- its row of table 1, and those of its STCs
abbrev pub atc_row : Atc → Row
atc_row a = a.packet ∷ length a.stcs ∷ a.offset ∷ []

abbrev pub stc_rows_of : Atc → List Row
stc_rows_of a = map stc_row a.stcs

-- a record with these ATCs
pub record WithAtcs (atcs : List Atc) : Type 0 where
  pub clip : Clip
  pub atcs_are : clip.atcs ≡ map atc_row atcs
  pub stcs_are : clip.stcs ≡ own_joined stc_rows_of atcs

-- how many STCs some ATCs have together: the row of table 2 that comes next
abbrev pub stc_count : List Atc → ℕ
stc_count before = length (own_joined stc_rows_of before)

-- the id is that of an STC of the ATC
abbrev pub HasIt : ℕ → Atc → Type 0
HasIt id a = (a.offset ≤ id) × (id < a.offset + length a.stcs)

-- what is answered of an ATC a that stands behind the ATCs `before`
pub record OfAtc (before : List Atc) (a : Atc) (c : Clip) : Type 0 where
  -- an STC by id, where no ATC before has it
  pub by_id : (id : ℕ) → All (λ b. HasIt id b → ⊥) before → HasIt id a → answer (stc_sequence_by_id id) c ≡ number (stc_count before + (id - a.offset))
  -- an STC by packet: the last of its own whose packet is at most the one given
  pub by_packet : (stcs : List Stc) (s : Stc) (behind : List Stc) → a.stcs ≡ stcs ++ (s ∷ behind) → (spn : ℕ)
      → s.packet ≤ spn → All (λ t. spn < t.packet) behind
      → answer (stc_sequence_for_spn (length before) spn) c ≡ number (stc_count before + length stcs)
  pub none_by_packet : (spn : ℕ) → All (λ t. spn < t.packet) a.stcs → answer (stc_sequence_for_spn (length before) spn) c ≡ none

-- ---- all of it

-- the statements together
pub record Owners : Type 0 where
  pub of_map : (before : List Map) (m : Map) (behind : List Map) (c : WithMaps (before ++ (m ∷ behind))) → OfMap before m c.clip
  pub of_atc_lem : (before : List Atc) (a : Atc) (behind : List Atc) (c : WithAtcs (before ++ (a ∷ behind))) → OfAtc before a c.clip
  pub no_id : (atcs : List Atc) (c : WithAtcs atcs) (id : ℕ) → All (λ b. HasIt id b → ⊥) atcs → answer (stc_sequence_by_id id) c.clip ≡ none
  -- without maps there is no primary map to ask
  pub no_maps : (c : WithMaps []) (at : Ticks90) → (answer (primary_seek_spn at) c.clip ≡ none) × (answer (primary_next_seek_spn at) c.clip ≡ none)
  -- 22: a map or an ATC that is not there
  pub no_map : (maps : List Map) (c : WithMaps maps) (k : ℕ) (at : Ticks90) → length maps ≤ k → All (λ q. answer q c.clip ≡ refused 22) (about_map k at)
  pub no_atc : (atcs : List Atc) (c : WithAtcs atcs) (k spn : ℕ) → length atcs ≤ k → answer (stc_sequence_for_spn k spn) c.clip ≡ refused 22
  -- 22: counts that do not add up to the rows
  pub odd_maps : (c : Clip) (k : ℕ) (at : Ticks90) → (total (cell 2) c.maps ≡ length c.entries → ⊥)
      → All (λ q. answer q c ≡ refused 22) (primary_seek_spn at ∷ primary_next_seek_spn at ∷ about_map k at)
  pub odd_atcs : (c : Clip) (k spn id : ℕ) → (total (cell 1) c.atcs ≡ length c.stcs → ⊥)
      → All (λ q. answer q c ≡ refused 22) (stc_sequence_by_id id ∷ stc_sequence_for_spn k spn ∷ [])
  -- the first STC; the first map of a type, by the low four bits of both; the length in bytes, 192 a packet; the seconds
  pub first_stc : (c : Clip) (s : Row) (later : List Row) → c.stcs ≡ s ∷ later → answer first_stc_sequence c ≡ number 0
  pub no_stc : (c : Clip) → c.stcs ≡ [] → answer first_stc_sequence c ≡ none
  pub by_kind : (c : Clip) (kind : ℕ) → FirstOrNone (length c.maps) (λ k. cell 1 (get_or c.maps k []) % 16 ≡ kind % 16) (λ k. k) (answer (ep_map_by_kind kind) c)
  pub byte_length : (c : Clip) → answer clip_byte_len c ≡ number (c.scalars.packets * 192)
  pub transfer : (c : Clip) → c.scalars.rate < 2 ^ 32 → c.scalars.packets < 2 ^ 32 → IsTransfer c.scalars.rate c.scalars.packets (answer transfer_duration_secs c)
