-- The tables that a question is lent: those that it looks at, and nothing else.
use Rattle.std.specs.Prelude.{ℕ, []}
use Rattle.format.specs.ClipRecord.{Scalars}
use Rattle.format.specs.Tables.{Table, stated, ClipTables}

-- nothing
abbrev pub no_table : Table
no_table = stated [] 0

-- the packet count and the rate, and no other scalar
abbrev pub only_counts : ℕ → ℕ → Scalars
only_counts rate packets = record {
  letters = 0;
  version = 0;
  stream_type = 0;
  application_type = 0;
  rate = rate;
  packets = packets;
  validity_flags = 0;
  format_id = 0;
}

-- each scalar 0, for a question that looks at none
abbrev pub no_scalars : Scalars
no_scalars = only_counts 0 0

-- scalars and the tables that questions look at
abbrev pub tables_with : Scalars → (atcs stcs programs streams maps entries : Table) → ClipTables
tables_with s atcs stcs programs streams maps entries = record {
  scalars = s;
  atcs = atcs;
  stcs = stcs;
  programs = programs;
  streams = streams;
  maps = maps;
  entries = entries;
}

-- scalars alone
abbrev pub only_scalars : Scalars → ClipTables
only_scalars s = tables_with s no_table no_table no_table no_table no_table no_table

-- the STCs alone
abbrev pub only_stcs : Table → ClipTables
only_stcs t = tables_with no_scalars no_table t no_table no_table no_table no_table

-- the programs alone
abbrev pub only_programs : Table → ClipTables
only_programs t = tables_with no_scalars no_table no_table t no_table no_table no_table

-- the streams alone
abbrev pub only_streams : Table → ClipTables
only_streams t = tables_with no_scalars no_table no_table no_table t no_table no_table

-- the maps alone, and with their entries
abbrev pub only_maps : Table → ClipTables
only_maps t = tables_with no_scalars no_table no_table no_table no_table t no_table

abbrev pub maps_and_entries : Table → Table → ClipTables
maps_and_entries maps entries = tables_with no_scalars no_table no_table no_table no_table maps entries

-- the ATCs with their STCs
abbrev pub atcs_and_stcs : Table → Table → ClipTables
atcs_and_stcs atcs stcs = tables_with no_scalars atcs stcs no_table no_table no_table no_table
