-- Streams, and a program with its streams: their bytes in the new file, told of the bytes of the old one.
use Rattle.std.specs.Prelude.{ℕ, ◌+◌, List, ◌++◌, length}
use Rattle.format.specs.Bytes.{be_at, rows_at, end_of, flat}
use Rattle.format.specs.Programs.{program_at, next_program, stream_at, next_stream}
use Rattle.format.specs.Rewriting.{program_bytes, stream_bytes}
use Rattle.rewrite_program.specs.declared.Places.{Places}

-- the new bytes of the n streams at p, and where they end: in the old file, and in an output that has them from `at` on
abbrev pub new_streams : List ℕ → ℕ → ℕ → List ℕ
new_streams f p n = flat stream_bytes (rows_at (stream_at f) (next_stream f) p n)

-- the place behind the n streams in the old file, and behind their new bytes in the output
abbrev pub streams_behind : List ℕ → ℕ → ℕ → ℕ → Places
streams_behind f p n at = record { file = end_of (next_stream f) p n; out = at + length (new_streams f p n) }

-- the same of the program at p with its streams
abbrev pub new_program : List ℕ → ℕ → List ℕ
new_program f p = program_bytes (program_at f p) ++ new_streams f (p + 8) (be_at f (p + 6) 1)

-- the same two places behind the program with its streams
abbrev pub program_behind : List ℕ → ℕ → ℕ → Places
program_behind f p at = record { file = next_program f p; out = at + length (new_program f p) }
