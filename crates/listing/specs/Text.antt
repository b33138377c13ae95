-- The text of a record in its numbers and rows, at the front of a lent output.
use Rattle.std.specs.Prelude.{ℕ, ◌+◌, ◌*◌, ◌^◌, ◌≤◌, ◌<◌, ◌≡◌, List, [], ◌∷◌, ◌++◌, length}
use Rattle.format.specs.ClipRecord.{Row, Record, entry_count, time, entry_cells, entry_size}
use Rattle.format.specs.Bytes.{rows_at, total}
use Rattle.format.specs.Tables.{cells_at, table_rows_of, row_room, overwritten, map_cells}
use Rattle.listing.specs.declared.Numbers.{Numbers}
use Rattle.format.specs.Listing.{line, clip_word, seq_word, prog_word, mark_word, map_lines}

-- the first r bytes of e are the text s, and what stands beyond them is what d had
pub record Shows (d s : List ℕ) (r : ℕ) (e : List ℕ) : Type 0 where
  pub count : r ≡ length s
  pub within : r ≤ length e
  pub bytes : e ≡ overwritten s d

-- n rows of the table of maps, and of the table of entries, from place p
abbrev pub maps_from : List ℕ → ℕ → ℕ → List Row
maps_from t p n = rows_at (cells_at t map_cells) (λ q. q + 4 * map_cells) p n

abbrev pub entries_from : List ℕ → ℕ → ℕ → List Row
entries_from t p n = rows_at (cells_at t entry_cells) (λ q. q + entry_size) p n

-- their times have 32 bits each, as those of a file do: a line has room for ten digits
pub record TimesFit (t : List ℕ) (p n : ℕ) : Type 0 where
  pub narrow : (k : ℕ) → k < n → time (cells_at t entry_cells (p + entry_size * k)) < 2 ^ 32

-- the numbers that a text shows beside its maps and entries, one behind the other
abbrev pub numbers : ℕ → ℕ → ℕ → ℕ → ℕ → ℕ → ℕ → ℕ → ℕ → Numbers
numbers stream_type application_type rate packets atcs stcs programs streams marks = record {
  stream_type = stream_type;
  application_type = application_type;
  rate = rate;
  packets = packets;
  atcs = atcs;
  stcs = stcs;
  programs = programs;
  streams = streams;
  marks = marks;
}

-- those of a record
abbrev pub numbers_of : Record → Numbers
numbers_of r =
    let c = r.clip in
    let s = c.scalars in
    numbers s.stream_type s.application_type s.rate s.packets (length c.atcs) (length c.stcs) (length c.programs) (length c.streams) r.marks

-- the lines of a record with these numbers, maps and entries
unfoldable pub record_text : Numbers → List Row → List Row → List ℕ
record_text n maps entries =
    line clip_word (n.stream_type ∷ n.application_type ∷ n.rate ∷ n.packets ∷ [])
    ++ (line seq_word (n.atcs ∷ n.stcs ∷ [])
    ++ (line prog_word (n.programs ∷ n.streams ∷ [])
    ++ (map_lines maps entries
    ++ line mark_word (n.marks ∷ []))))

-- ---- room

-- bytes for the text of a record with n maps and m entries
abbrev pub record_room : ℕ → ℕ → ℕ
record_room n m = 118 + 37 * n + 25 * m

-- bytes for the line of a refusal
abbrev pub refusal_room : ℕ
refusal_room = 30

-- what a caller shows: the stated rows are lent, the maps have no more entries than stated, the times fit their lines, and the output is long enough
pub record Listable (maps : List ℕ) (n : ℕ) (entries : List ℕ) (m : ℕ) (out : List ℕ) : Type 0 where
  pub map_rows_of : n ≤ row_room map_cells maps
  pub entry_rows_of : m ≤ row_room entry_cells entries
  pub counts : total entry_count (table_rows_of map_cells maps n) ≤ m
  pub times_fit : TimesFit entries 0 m
  pub room : record_room n m ≤ length out
