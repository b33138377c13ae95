-- The answer that must be stored with a file: what the format's definitions give for its bytes, as bytes.
use Rattle.std.specs.Prelude.{ℕ, ◌*◌, List, [], ◌∷◌, ◌++◌, length, replicate}
use Rattle.format.specs.Bytes.{flat}
use Rattle.format.specs.ClipRecord.{Extension, Record}
use Rattle.format.specs.Reading.{record_of}
use Rattle.format.specs.Tables.{Nine, map_nine, nine_cells, row_bytes_of, table_bytes}
use Rattle.format.specs.Refusals.{ReadAnswer, refused, too_short, accepted, read_answer, read_numbers}

-- ---- the tables that a sample's files are read into

-- a table of 256 rows
abbrev pub rows256 : ℕ → List ℕ
rows256 cells = replicate (256 * (4 * cells)) 0

-- all nine
unfoldable pub sample_tables : Nine (List ℕ)
sample_tables = map_nine rows256 nine_cells

-- ---- the answer

-- an extension: its ids and its data's length, a cell each, and its data
abbrev pub extension_bytes : Extension → List ℕ
extension_bytes x = row_bytes_of (x.id1 ∷ x.id2 ∷ length x.bytes ∷ []) ++ x.bytes

-- the rows of tables 1 to 6, 8 and 9, then the extensions
unfoldable pub record_bytes : Record → List ℕ
record_bytes r =
    let c = r.clip in
    table_bytes c.atcs
    ++ (table_bytes c.stcs
    ++ (table_bytes c.programs
    ++ (table_bytes c.streams
    ++ (table_bytes c.maps
    ++ (table_bytes c.entries
    ++ (table_bytes r.list_programs
    ++ (table_bytes r.list_streams
    ++ flat extension_bytes r.extensions)))))))

-- the number 1 alone where reading refuses; else the 22 numbers of its answer, a cell each, and the record
abbrev pub answer_bytes : ReadAnswer → Record → List ℕ
answer_bytes (refused n) r = row_bytes_of (1 ∷ [])
answer_bytes (too_short k n) r = row_bytes_of (1 ∷ [])
answer_bytes (accepted s) r = row_bytes_of (read_numbers (accepted s)) ++ record_bytes r

-- what must be stored with the file f
unfoldable pub expected : List ℕ → List ℕ
expected f = answer_bytes (read_answer f sample_tables) (record_of f)
