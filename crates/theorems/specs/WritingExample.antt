-- A file with an ATC, two STCs, a program and three streams, byte for byte: what a record with these rows is written to, and what it reads to.
use Rattle.std.specs.Prelude.{ℕ, ◌≡◌, List, [], ◌∷◌, ◌++◌, length, replicate}
use Rattle.format.specs.ClipRecord.{Clip, hdmv}
use Rattle.format.specs.Reading.{record_of}
use Rattle.format.specs.Rewriting.{encode}
use Rattle.format.specs.Listing.{record_lines}
use Rattle.format.specs.Refusals.{refusal_of, write_refusal}

-- video with an aspect, audio with the language eng, and a stream without either; letters HDMV, version 0200
unfoldable pub small_clip : Clip
small_clip = record {
  scalars = record { letters = hdmv; version = 0x30323030; stream_type = 1; application_type = 6; rate = 6000000; packets = 1000; validity_flags = 0x80; format_id = 0x48444D56 };
  atcs = (7 ∷ 2 ∷ 1 ∷ []) ∷ [];
  stcs = (4097 ∷ 9 ∷ 65536 ∷ 131072 ∷ []) ∷ (4097 ∷ 500 ∷ 131072 ∷ 65536 ∷ []) ∷ [];
  programs = (0 ∷ 256 ∷ 3 ∷ []) ∷ [];
  streams = (4113 ∷ 0x1B ∷ 0x61 ∷ 3 ∷ 0 ∷ []) ∷ (4352 ∷ 0x80 ∷ 0x31 ∷ 0 ∷ 0x656E67 ∷ []) ∷ (4608 ∷ 0x90 ∷ 0 ∷ 0 ∷ 0 ∷ []) ∷ [];
  maps = [];
  entries = [];
}

-- its file
unfoldable pub small_file : List ℕ
small_file =
    (0x48 ∷ 0x44 ∷ 0x4D ∷ 0x56 ∷ 0x30 ∷ 0x32 ∷ 0x30 ∷ 0x30 ∷ [])
    ++ (0 ∷ 0 ∷ 0 ∷ 220 ∷ 0 ∷ 0 ∷ 1 ∷ 4 ∷ 0 ∷ 0 ∷ 1 ∷ 37 ∷ 0 ∷ 0 ∷ 1 ∷ 41 ∷ 0 ∷ 0 ∷ 0 ∷ 0 ∷ [])
    ++ replicate 12 0
    ++ (0 ∷ 0 ∷ 0 ∷ 176 ∷ 0 ∷ 0 ∷ 1 ∷ 6 ∷ 0 ∷ 0 ∷ 0 ∷ 0 ∷ 0x00 ∷ 0x5B ∷ 0x8D ∷ 0x80 ∷ 0 ∷ 0 ∷ 0x03 ∷ 0xE8 ∷ [])
    ++ replicate 128 0
    ++ (0x80 ∷ 0 ∷ 0x48 ∷ 0x44 ∷ 0x4D ∷ 0x56 ∷ [])
    ++ replicate 26 0
    ++ (0 ∷ 0 ∷ 0 ∷ 36 ∷ 0 ∷ 1 ∷ [])
    ++ (0 ∷ 0 ∷ 0 ∷ 7 ∷ 2 ∷ 1 ∷ [])
    ++ (0x10 ∷ 0x01 ∷ 0 ∷ 0 ∷ 0 ∷ 9 ∷ 0 ∷ 1 ∷ 0 ∷ 0 ∷ 0 ∷ 2 ∷ 0 ∷ 0 ∷ [])
    ++ (0x10 ∷ 0x01 ∷ 0 ∷ 0 ∷ 1 ∷ 244 ∷ 0 ∷ 2 ∷ 0 ∷ 0 ∷ 0 ∷ 1 ∷ 0 ∷ 0 ∷ [])
    ++ (0 ∷ 0 ∷ 0 ∷ 29 ∷ 0 ∷ 1 ∷ [])
    ++ (0 ∷ 0 ∷ 0 ∷ 0 ∷ 1 ∷ 0 ∷ 3 ∷ 0 ∷ [])
    ++ (0x10 ∷ 0x11 ∷ 3 ∷ 0x1B ∷ 0x61 ∷ 0x30 ∷ [])
    ++ (0x11 ∷ 0x00 ∷ 5 ∷ 0x80 ∷ 0x31 ∷ 0x65 ∷ 0x6E ∷ 0x67 ∷ [])
    ++ (0x12 ∷ 0x00 ∷ 2 ∷ 0x90 ∷ 0 ∷ [])
    ++ (0 ∷ 0 ∷ 0 ∷ 0 ∷ [])
    ++ (0 ∷ 0 ∷ 0 ∷ 2 ∷ 0 ∷ 0 ∷ [])

-- the lines of its listing: clip 1 6 6000000 1000, seq 1 2, prog 1 3, mark 0
unfoldable pub small_text : List ℕ
small_text =
    (99 ∷ 108 ∷ 105 ∷ 112 ∷ 32 ∷ 49 ∷ 32 ∷ 54 ∷ 32 ∷ 54 ∷ 48 ∷ 48 ∷ 48 ∷ 48 ∷ 48 ∷ 48 ∷ 32 ∷ 49 ∷ 48 ∷ 48 ∷ 48 ∷ 10 ∷ [])
    ++ (115 ∷ 101 ∷ 113 ∷ 32 ∷ 49 ∷ 32 ∷ 50 ∷ 10 ∷ [])
    ++ (112 ∷ 114 ∷ 111 ∷ 103 ∷ 32 ∷ 49 ∷ 32 ∷ 51 ∷ 10 ∷ [])
    ++ (109 ∷ 97 ∷ 114 ∷ 107 ∷ 32 ∷ 48 ∷ 10 ∷ [])

-- it has 303 bytes, is what the record is written to, is accepted, reads to the record, and is listed by these lines
pub record Small : Type 0 where
  pub bytes : length small_file ≡ 303
  pub not_refused : write_refusal small_clip ≡ 0
  pub written : encode small_clip ≡ small_file
  pub accepted : refusal_of small_file ≡ 0
  pub reads : (record_of small_file).clip ≡ small_clip
  pub text : record_lines (record_of small_file) ≡ small_text
