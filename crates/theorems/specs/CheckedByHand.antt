-- "Checked by hand": M1 to M11 as one table of data, one evaluator, and one sentence over the table.
use Rattle.std.specs.Prelude.{ℕ, zero, suc, ◌*◌, ◌%◌, ◌<◌, ◌≡◌, List, [], ◌∷◌, length}
use Rattle.format.specs.Bytes.{fields_at, total}
use Rattle.format.specs.Ticks.{Ticks90}
use Rattle.format.specs.ClipRecord.{clpi as clpiLetters, Row, Scalars, Clip, entry_count, entry_row, time}
use Rattle.format.specs.EntryPoints.{join_time, join_packet}
use Rattle.format.specs.Questions.{Question, entry_point_at_or_before, spn_to_byte, byte_to_spn, Answer, none, number, own_rows, answer}
use Rattle.format.specs.Rewriting.{encode}
use Rattle.format.specs.Refusals.{refusal_of, write_refusal}
use Rattle.format.proofs.Lists.{All}

-- ---- the evaluator

-- what is put to the definitions
pub data Input : Type 0 where
  file : List ℕ → Input
  coarse_and_fine_time : (coarse fine : ℕ) → Input
  coarse_and_fine_packet : (coarse fine : ℕ) → Input
  question : Question → Clip → Input
  record_to_write : Clip → Input
  new_file : Clip → Input

-- what they say of it: a refusal, with 0 for none; a number; an answer; a refusal, length and five starts
pub data Outcome : Type 0 where
  refusal : ℕ → Outcome
  value : ℕ → Outcome
  answered : Answer → Outcome
  layout : (refusal bytes : ℕ) (starts : List ℕ) → Outcome

-- from place 8, four bytes each
abbrev pub starts_of : List ℕ → List ℕ
starts_of f = fields_at f 8 (4 ∷ 4 ∷ 4 ∷ 4 ∷ 4 ∷ [])

-- what the definitions say of each kind of input
unfoldable pub evaluate : Input → Outcome
evaluate (file f) = refusal (refusal_of f)
evaluate (coarse_and_fine_time c f) = value (join_time c f)
evaluate (coarse_and_fine_packet c f) = value (join_packet c f)
evaluate (question q c) = answered (answer q c)
evaluate (record_to_write c) = refusal (write_refusal c)
evaluate (new_file c) = layout (write_refusal c) (length (encode c)) (starts_of (encode c))

-- ---- what the cases are given

-- a file that begins with the right letters, either of the two, and has any n bytes behind them
pub data RightLetters (n : ℕ) : Type 0 where
  hdmv : (behind : List ℕ) → length behind ≡ n → RightLetters n
  clpi : (behind : List ℕ) → length behind ≡ n → RightLetters n

-- HDMV or CLPI, and the bytes behind
abbrev pub right_file : {n : ℕ} → RightLetters n → List ℕ
right_file (hdmv behind size) = 0x48 ∷ 0x44 ∷ 0x4D ∷ 0x56 ∷ behind
right_file (clpi behind size) = 0x43 ∷ 0x4C ∷ 0x50 ∷ 0x49 ∷ behind

-- any n bytes
pub record AnyBytes (n : ℕ) : Type 0 where
  pub all : List ℕ
  pub size : length all ≡ n

-- a file that begins with four bytes that are neither HDMV nor CLPI, and has any n bytes behind them
pub record OtherLetters (n : ℕ) : Type 0 where
  pub a : ℕ
  pub b : ℕ
  pub c : ℕ
  pub d : ℕ
  pub behind : List ℕ
  pub bytes : (a < 256) × (b < 256) × (c < 256) × (d < 256)
  pub not_hdmv : (a ≡ 0x48) × (b ≡ 0x44) × (c ≡ 0x4D) × (d ≡ 0x56) → ⊥
  pub not_clpi : (a ≡ 0x43) × (b ≡ 0x4C) × (c ≡ 0x50) × (d ≡ 0x49) → ⊥
  pub size : length behind ≡ n

-- the four other letters, and the bytes behind
abbrev pub other_file : {n : ℕ} → OtherLetters n → List ℕ
other_file o = o.a ∷ o.b ∷ o.c ∷ o.d ∷ o.behind

-- any record with so many packets
pub record Packets (n : ℕ) : Type 0 where
  pub clip : Clip
  pub count : clip.scalars.packets ≡ n

-- any map of any record, and a time before all of its entries, of which there is one or more
pub record BeforeAll : Type 0 where
  pub clip : Clip
  pub map : ℕ
  pub at : Ticks90
  pub adds_up : total entry_count clip.maps ≡ length clip.entries
  pub is_row : map < length clip.maps
  pub first : Row
  pub others : List Row
  pub entries : own_rows entry_count clip.maps clip.entries map ≡ first ∷ others
  pub later : All (λ e. at.ticks < time e) (first ∷ others)

-- the letters CLPI, and all other scalars 0
abbrev pub only_letters : Scalars
only_letters =
    record { letters = clpiLetters; version = 0; stream_type = 0; application_type = 0; rate = 0; packets = 0; validity_flags = 0; format_id = 0 }

-- these scalars and no rows, as M10 has it
unfoldable pub empty_clip : Clip
empty_clip =
    record { scalars = only_letters; atcs = []; stcs = []; programs = []; streams = []; maps = []; entries = [] }

-- n entries of type 1, each in a run of its own: the times' coarse part changes from each to the next
unfoldable pub alternating : ℕ → List Row
alternating zero = []
alternating (suc n) = entry_row 0 0 (n % 2 * 524288) 0 1 ∷ alternating n

-- a record with one map, of n runs
unfoldable pub one_map : ℕ → Clip
one_map n =
    record { scalars = only_letters; atcs = []; stcs = []; programs = []; streams = []; maps = (1 ∷ 1 ∷ n ∷ []) ∷ []; entries = alternating n }

-- ---- the table

-- a case: its number, what it is given, what is put to the definitions, and what document 01 states
pub record Case : Type 1 where
  pub label : ℕ
  pub Given : Type 0
  pub input : Given → Input
  pub stated : Outcome

-- M1 to M11 in their order; M11 has two cases, on either side of its limit
unfoldable pub table : List Case
table =
    record { label = 1; Given = RightLetters 35; input = λ g. file (right_file g); stated = refusal 1 }
    ∷ record { label = 2; Given = AnyBytes 7; input = λ g. file g.all; stated = refusal 1 }
    ∷ record { label = 3; Given = OtherLetters 35; input = λ g. file (other_file g); stated = refusal 2 }
    ∷ record { label = 4; Given = Unit {0}; input = λ g. coarse_and_fine_time 1 1024; stated = value 524288 }
    ∷ record { label = 5; Given = Unit {0}; input = λ g. coarse_and_fine_time 8192 0; stated = value 0 }
    ∷ record { label = 6; Given = Unit {0}; input = λ g. coarse_and_fine_packet 0x0001FFFF 0; stated = value 0 }
    ∷ record { label = 7; Given = Packets 10; input = λ g. question (spn_to_byte 10) g.clip; stated = answered (number 1920) }
    ∷ record { label = 8; Given = Packets 10; input = λ g. question (byte_to_spn 1920) g.clip; stated = answered none }
    ∷ record { label = 9; Given = BeforeAll; input = λ g. question (entry_point_at_or_before g.map g.at) g.clip; stated = answered (number 0) }
    ∷ record { label = 10; Given = Unit {0}; input = λ g. new_file empty_clip; stated = layout 0 242 (220 ∷ 226 ∷ 232 ∷ 236 ∷ 0 ∷ []) }
    ∷ record { label = 11; Given = Unit {0}; input = λ g. record_to_write (one_map 65535); stated = refusal 0 }
    ∷ record { label = 11; Given = Unit {0}; input = λ g. record_to_write (one_map 65536); stated = refusal 31 }
    ∷ []

-- the sentence: of every case, whatever it is given, the definitions say what document 01 states
pub data Holds : List Case → Type 1 where
  end : Holds []
  row : {c : Case} {cs : List Case} → ((given : c.Given) → evaluate (c.input given) ≡ c.stated) → Holds cs → Holds (c ∷ cs)
