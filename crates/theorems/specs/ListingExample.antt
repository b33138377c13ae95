-- The 274-byte file of the listing example: types 1 and 1, rate 6,000,000, 1,000 packets, one map.
use Rattle.std.specs.Prelude.{ℕ, ◌≡◌, List, [], ◌∷◌, ◌++◌, length, replicate}
use Rattle.format.specs.ClipRecord.{Clip, clpi, entry_row}
use Rattle.format.specs.Reading.{record_of}
use Rattle.format.specs.Rewriting.{encode}
use Rattle.format.specs.Listing.{record_lines}
use Rattle.format.specs.Refusals.{refusal_of, write_refusal}

-- the record: PID 4113, type 1, one entry with time 524,288 and packet 131,079
unfoldable pub listed_clip : Clip
listed_clip = record {
  scalars = record { letters = clpi; version = 0; stream_type = 1; application_type = 1; rate = 6000000; packets = 1000; validity_flags = 0; format_id = 0 };
  atcs = [];
  stcs = [];
  programs = [];
  streams = [];
  maps = (4113 ∷ 1 ∷ 1 ∷ []) ∷ [];
  entries = entry_row 0 0 524288 131079 1 ∷ [];
}

-- its file, as the Rust writes it
unfoldable pub listed_file : List ℕ
listed_file =
    (0x43 ∷ 0x4C ∷ 0x50 ∷ 0x49 ∷ 0 ∷ 0 ∷ 0 ∷ 0 ∷ [])
    ++ (0 ∷ 0 ∷ 0 ∷ 220 ∷ 0 ∷ 0 ∷ 0 ∷ 226 ∷ 0 ∷ 0 ∷ 0 ∷ 232 ∷ 0 ∷ 0 ∷ 1 ∷ 12 ∷ 0 ∷ 0 ∷ 0 ∷ 0 ∷ [])
    ++ replicate 12 0
    ++ (0 ∷ 0 ∷ 0 ∷ 176 ∷ 0 ∷ 0 ∷ 1 ∷ 1 ∷ 0 ∷ 0 ∷ 0 ∷ 0 ∷ 0x00 ∷ 0x5B ∷ 0x8D ∷ 0x80 ∷ 0 ∷ 0 ∷ 0x03 ∷ 0xE8 ∷ [])
    ++ replicate 160 0
    ++ (0 ∷ 0 ∷ 0 ∷ 2 ∷ 0 ∷ 0 ∷ [])
    ++ (0 ∷ 0 ∷ 0 ∷ 2 ∷ 0 ∷ 0 ∷ [])
    ++ (0 ∷ 0 ∷ 0 ∷ 32 ∷ 0 ∷ 1 ∷ 0 ∷ 1 ∷ [])
    ++ (0x10 ∷ 0x11 ∷ 0x00 ∷ 0x04 ∷ 0x00 ∷ 0x04 ∷ 0x00 ∷ 0x01 ∷ 0 ∷ 0 ∷ 0 ∷ 14 ∷ [])
    ++ (0 ∷ 0 ∷ 0 ∷ 12 ∷ 0x00 ∷ 0x00 ∷ 0x00 ∷ 0x01 ∷ 0x00 ∷ 0x02 ∷ 0x00 ∷ 0x07 ∷ 0x08 ∷ 0x00 ∷ 0x00 ∷ 0x07 ∷ [])
    ++ (0 ∷ 0 ∷ 0 ∷ 2 ∷ 0 ∷ 0 ∷ [])

-- the six lines that document 01 shows for it, each with its newline
unfoldable pub listed_text : List ℕ
listed_text =
    (99 ∷ 108 ∷ 105 ∷ 112 ∷ 32 ∷ 49 ∷ 32 ∷ 49 ∷ 32 ∷ 54 ∷ 48 ∷ 48 ∷ 48 ∷ 48 ∷ 48 ∷ 48 ∷ 32 ∷ 49 ∷ 48 ∷ 48 ∷ 48 ∷ 10 ∷ [])
    ++ (115 ∷ 101 ∷ 113 ∷ 32 ∷ 48 ∷ 32 ∷ 48 ∷ 10 ∷ [])
    ++ (112 ∷ 114 ∷ 111 ∷ 103 ∷ 32 ∷ 48 ∷ 32 ∷ 48 ∷ 10 ∷ [])
    ++ (109 ∷ 97 ∷ 112 ∷ 32 ∷ 52 ∷ 49 ∷ 49 ∷ 51 ∷ 32 ∷ 49 ∷ 32 ∷ 49 ∷ 10 ∷ [])
    ++ (101 ∷ 112 ∷ 32 ∷ 53 ∷ 50 ∷ 52 ∷ 50 ∷ 56 ∷ 56 ∷ 32 ∷ 49 ∷ 51 ∷ 49 ∷ 48 ∷ 55 ∷ 57 ∷ 10 ∷ [])
    ++ (109 ∷ 97 ∷ 114 ∷ 107 ∷ 32 ∷ 48 ∷ 10 ∷ [])

-- it has 274 bytes, is what the record is written to, is accepted, and reads to the record, with no marks
pub record Listed : Type 0 where
  pub bytes : length listed_file ≡ 274
  pub not_refused : write_refusal listed_clip ≡ 0
  pub written : encode listed_clip ≡ listed_file
  pub accepted : refusal_of listed_file ≡ 0
  pub reads : (record_of listed_file).clip ≡ listed_clip
  pub marks : (record_of listed_file).marks ≡ 0
  -- its listing is the six lines
  pub text : record_lines (record_of listed_file) ≡ listed_text
