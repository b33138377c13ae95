-- The six tables of a record that is handed over, each with the rows that are stated to be in it.
use Rattle.std.specs.Prelude.{◌≤◌}
use Rattle.format.specs.ClipRecord.{Scalars}
use Rattle.format.specs.Tables.{ClipTables, stated, row_room, atc_cells, stc_cells, program_cells, stream_cells, map_cells}
use Rattle.queries.specs.Asked.{tables_with}
use Rattle.limits.specs.declared.tables.ClipTables as lent

-- scalars, and six tables with their stated rows
abbrev pub stated_tables : Scalars → lent.ClipTables → ClipTables
stated_tables s t =
    tables_with s (stated t.atcs.bytes.now t.atcs.rows) (stated t.stcs.bytes.now t.stcs.rows) (stated t.programs.bytes.now t.programs.rows) (stated t.streams.bytes.now t.streams.rows) (stated t.maps.bytes.now t.maps.rows) (stated t.entries.bytes.now t.entries.rows)

-- the stated rows of all but the entries are there
pub record TablesThere (t : lent.ClipTables) : Type 0 where
  pub atcs_there : t.atcs.rows ≤ row_room atc_cells t.atcs.bytes.now
  pub stcs_there : t.stcs.rows ≤ row_room stc_cells t.stcs.bytes.now
  pub programs_there : t.programs.rows ≤ row_room program_cells t.programs.bytes.now
  pub streams_there : t.streams.rows ≤ row_room stream_cells t.streams.bytes.now
  pub maps_there : t.maps.rows ≤ row_room map_cells t.maps.bytes.now
