-- When the tables of a record fit: the parts of `cells_fit` that are behind the scalars.
use Rattle.std.specs.Prelude.{List, Bool, length, leb}
use Rattle.format.specs.Bytes.{both, every}
use Rattle.format.specs.ClipRecord.{Row, map_type_of}
use Rattle.format.specs.Refusals.{entry_fits, every_map}
use Rattle.format.specs.Tables.{ClipTables, rows_of, atc_cells, stc_cells, program_cells, stream_cells, map_cells}
use Rattle.row_limits.specs.Kinds.{fits_by}
use Rattle.row_limits.specs.declared.TableKind.{TableKind}
use Rattle.row_values.specs.declared.RowKind.{RowKind}

-- the entries of each map fit, each of its map's type
abbrev pub entries_fit : List Row → List Row → Bool
entries_fit maps entries = every_map (λ m es. every (entry_fits (map_type_of m)) es) maps entries

-- at most 255 rows with a count, and each fits
abbrev pub heads_fit : TableKind → List Row → Bool
heads_fit kind heads = both (leb (length heads) 255) (every (fits_by kind) heads)

-- and so do the rows that they count
abbrev pub groups_fit : (head row : TableKind) → List Row → List Row → Bool
groups_fit head row heads rows = both (heads_fit head heads) (every (fits_by row) rows)

-- all tables but that of the entries: at most 255 maps, and each fits
unfoldable pub tables_fit : ClipTables → Bool
tables_fit l =
    both (groups_fit (TableKind.Info RowKind.Atc) (TableKind.Info RowKind.Stc) (rows_of atc_cells l.atcs) (rows_of stc_cells l.stcs))
    (both (groups_fit (TableKind.Info RowKind.Program) (TableKind.Info RowKind.Stream) (rows_of program_cells l.programs) (rows_of stream_cells l.streams)) (heads_fit TableKind.Map (rows_of map_cells l.maps)))
