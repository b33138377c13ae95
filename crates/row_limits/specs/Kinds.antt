-- Which table a row is of: how many cells it has, and when they fit their fields.
use Rattle.std.specs.Prelude.{ℕ, Bool}
use Rattle.format.specs.ClipRecord.{Row, entry_cells}
use Rattle.format.specs.Refusals.{atc_fits, stc_fits, program_fits, stream_fits, map_fits, entry_fits}
use Rattle.format.specs.Tables.{map_cells}
use Rattle.row_values.specs.declared.RowKind.{RowKind}
use Rattle.row_values.specs.Kinds.{cells_of}
use Rattle.row_limits.specs.declared.TableKind.{TableKind}

-- the cells of a row
abbrev pub table_cells : TableKind → ℕ
table_cells (TableKind.Info kind) = cells_of kind
table_cells TableKind.Map = map_cells
table_cells (TableKind.Entry type) = entry_cells

-- each cell fits its field, else 30
abbrev pub fits_by : TableKind → Row → Bool
fits_by (TableKind.Info RowKind.Atc) = atc_fits
fits_by (TableKind.Info RowKind.Stc) = stc_fits
fits_by (TableKind.Info RowKind.Program) = program_fits
fits_by (TableKind.Info RowKind.Stream) = stream_fits
fits_by TableKind.Map = map_fits
fits_by (TableKind.Entry type) = entry_fits type
