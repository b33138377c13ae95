-- "Programs and languages": u32 length (ignored), a spare byte, u8 count; each program with its streams behind it.
use Rattle.std.specs.Prelude.{ℕ, ◌+◌, ◌*◌, ◌/◌, ◌%◌, List, [], ◌∷◌, map, Bool, not, leb, eqb}
use Rattle.format.specs.Bytes.{both, either, pick, be_at, rows_at, gather, end_of}
use Rattle.format.specs.ClipRecord.{Row, Clip, stream_pid, coding_type_of, format_byte, aspect, language}

-- ---- streams

-- the coding types that are video
unfoldable pub is_video : ℕ → Bool
is_video coding = either (eqb coding 0x02) (either (eqb coding 0x1B) (either (eqb coding 0x20) (either (eqb coding 0x24) (eqb coding 0xEA))))

-- A to Z become lower case, other bytes remain
unfoldable pub lower : ℕ → ℕ
lower b = pick (both (leb 65 b) (leb b 90)) (b + 32) b

-- a language of three bytes, each lowered; three zero bytes stay 0, which is none
unfoldable pub lowered : ℕ → ℕ
lowered x = lower (x / 65536) * 65536 + lower (x / 256 % 256) * 256 + lower (x % 256)

-- what a body of `size` bytes from p says. Bytes 0 and 1 are coding type and format, 0 where absent
abbrev pub coding_at : List ℕ → ℕ → ℕ → ℕ
coding_at f p size = pick (leb 1 size) (be_at f p 1) 0

abbrev pub format_at : List ℕ → ℕ → ℕ → ℕ
format_at f p size = pick (leb 2 size) (be_at f (p + 1) 1) 0

-- a video body's byte 2, if present, gives the aspect in its high four bits; every other aspect is 0
abbrev pub aspect_at : Bool → List ℕ → ℕ → ℕ → ℕ
aspect_at video f p size = pick (both video (leb 3 size)) (be_at f (p + 2) 1 / 16) 0

-- any other body of 5 or more bytes gives the language in bytes 2 to 4
abbrev pub language_at : Bool → List ℕ → ℕ → ℕ → ℕ
language_at video f p size = pick (both (not video) (leb 5 size)) (lowered (be_at f (p + 2) 3)) 0

-- stream: u16 PID, u8 body length, body
abbrev pub stream_at : List ℕ → ℕ → Row
stream_at f p =
    let size = be_at f (p + 2) 1 in
    let coding = coding_at f (p + 3) size in
    be_at f p 2 ∷ coding ∷ format_at f (p + 3) size
    ∷ aspect_at (is_video coding) f (p + 3) size ∷ language_at (is_video coding) f (p + 3) size ∷ []

-- the next stream starts at the body's end
abbrev pub next_stream : List ℕ → ℕ → ℕ
next_stream f p = p + 3 + be_at f (p + 2) 1

-- ---- programs

-- program: u32 packet, u16 PID, u8 stream count, a spare byte
abbrev pub program_at : List ℕ → ℕ → Row
program_at f p = be_at f p 4 ∷ be_at f (p + 4) 2 ∷ be_at f (p + 6) 1 ∷ []

-- the streams of the program at p: behind its eight bytes, as many as its count says
abbrev pub streams_of : List ℕ → ℕ → List Row
streams_of f p = rows_at (stream_at f) (next_stream f) (p + 8) (be_at f (p + 6) 1)

-- the next program starts where the streams of the one at p end
abbrev pub next_program : List ℕ → ℕ → ℕ
next_program f p = end_of (next_stream f) (p + 8) (be_at f (p + 6) 1)

-- the section that starts at `start`: its programs, all their streams, and its end
unfoldable pub programs_from : List ℕ → ℕ → List Row
programs_from f start = rows_at (program_at f) (next_program f) (start + 6) (be_at f (start + 5) 1)

unfoldable pub streams_from : List ℕ → ℕ → List Row
streams_from f start = gather (streams_of f) (next_program f) (start + 6) (be_at f (start + 5) 1)

unfoldable pub programs_end : List ℕ → ℕ → ℕ
programs_end f start = end_of (next_program f) (start + 6) (be_at f (start + 5) 1)

-- ---- a record with its languages lowered: what reading gives of a record that was made by hand and written

-- the language alone changes
abbrev pub lowered_stream : Row → Row
lowered_stream s = stream_pid s ∷ coding_type_of s ∷ format_byte s ∷ aspect s ∷ lowered (language s) ∷ []

-- all streams lowered, the rest as it is
unfoldable pub lowered_clip : Clip → Clip
lowered_clip c = record {
  scalars = c.scalars;
  atcs = c.atcs;
  stcs = c.stcs;
  programs = c.programs;
  streams = map lowered_stream c.streams;
  maps = c.maps;
  entries = c.entries;
}
