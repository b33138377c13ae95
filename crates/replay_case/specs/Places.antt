-- Places in a stored answer behind what tables that were read into hold.
use Rattle.std.specs.Prelude.{ℕ, ◌*◌, ◌<◌, ◌≤◌, ◌≡◌, List, true, Option, Some}
use Rattle.format.specs.Bytes.{flat}
use Rattle.format.specs.ClipRecord.{Row, entry_cells}
use Rattle.format.specs.Extensions.{extension_of, data_in}
use Rattle.format.specs.Tables.{Table, row_bytes_of, row_room, atc_cells, stc_cells, program_cells, stream_cells, map_cells, extension_cells, rows_of, stated}
use Rattle.format.specs.Refusals.{extension_row}
use Rattle.clpi_reading.specs.declared.ClpiReading.{ClpiReading}
use Rattle.clpi_reading.specs.Numbers.{reading_numbers}
use Rattle.replay_bytes.specs.Parts.{behind, behind_part}
use Rattle.replay_case.specs.Expected.{extension_bytes}

-- the place behind the first rows of a table of so many cells a row
abbrev pub behind_rows : List ℕ → Option ℕ → ℕ → List ℕ → ℕ → Option ℕ
behind_rows answer place cells table rows = behind_part answer place table 0 (4 * cells * rows)

-- the place behind the numbers of an answer and the rows of tables 1 to 4 that it states
abbrev pub behind_streams : List ℕ → ClpiReading → (atcs stcs programs streams : List ℕ) → Option ℕ
behind_streams answer r atcs stcs programs streams =
    let p1 = behind_rows answer (behind answer (Some 0) (row_bytes_of (reading_numbers r))) atc_cells atcs r.atcs in
    let p2 = behind_rows answer p1 stc_cells stcs r.stcs in
    let p3 = behind_rows answer p2 program_cells programs r.programs in
    behind_rows answer p3 stream_cells streams r.streams

-- the place behind the rows of tables 5, 6, 8 and 9 that it states
abbrev pub behind_lists : List ℕ → Option ℕ → ClpiReading → (maps entries programs2 streams2 : List ℕ) → Option ℕ
behind_lists answer place r maps entries programs2 streams2 =
    let p5 = behind_rows answer place map_cells maps r.maps in
    let p6 = behind_rows answer p5 entry_cells entries r.entries in
    let p8 = behind_rows answer p6 program_cells programs2 r.list_programs in
    behind_rows answer p8 stream_cells streams2 r.list_streams

-- rows of table 7 as the bytes of their extensions
abbrev pub extensions_bytes : List ℕ → List Row → List ℕ
extensions_bytes f rows = flat (λ row. extension_bytes (extension_of f row)) rows

-- the place behind all of these and the extensions of table 7
abbrev pub behind_file : List ℕ → List ℕ → ClpiReading → (atcs stcs programs streams maps entries extensions programs2 streams2 : List ℕ) → Option ℕ
behind_file answer f r atcs stcs programs streams maps entries extensions programs2 streams2 =
    let p4 = behind_streams answer r atcs stcs programs streams in
    let p9 = behind_lists answer p4 r maps entries programs2 streams2 in
    behind answer p9 (extensions_bytes f (rows_of extension_cells (stated extensions r.extensions)))

-- a lent table 7 with room for its stated rows, each with data inside the file
pub record DataInside (f : List ℕ) (t : Table) : Type 0 where
  pub stated : t.rows ≤ row_room extension_cells t.bytes
  pub inside : (k : ℕ) → k < t.rows → data_in f (extension_row t k) ≡ true
