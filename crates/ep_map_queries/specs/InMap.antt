-- The entries of one map, and what is asked about them: before a time or after it.
use Rattle.std.specs.Prelude.{ℕ}
use Rattle.format.specs.ClipRecord.{entry_cells}
use Rattle.format.specs.Questions.{Question, entry_point_at_or_before, entry_point_after, seek_spn, next_seek_spn, primary_seek_spn, primary_next_seek_spn}
use Rattle.format.specs.Tables.{Table}
use Rattle.nearest.specs.declared.Side.{Side}
use Rattle.table_rows.specs.OwnRows.{Owned, owned_rows}

-- the entries of a map, whose count stands in cell 2
abbrev pub owned_entries : Table → Table → ℕ → Owned
owned_entries maps entries m = owned_rows 2 entry_cells maps entries m

-- the questions that ask for the entry of a map after a time, or at or before it
abbrev pub find_question : Side → ℕ → ℕ → Question
find_question Side.After m at = entry_point_after m (record { ticks = at })
find_question Side.AtOrBefore m at = entry_point_at_or_before m (record { ticks = at })

-- in map m: the packet of the entry after a time, or of the one at or before it
abbrev pub seek_question : Side → ℕ → ℕ → Question
seek_question Side.After m at = next_seek_spn m (record { ticks = at })
seek_question Side.AtOrBefore m at = seek_spn m (record { ticks = at })

-- the same in the primary map
abbrev pub primary_seek_question : Side → ℕ → Question
primary_seek_question Side.After at = primary_next_seek_spn (record { ticks = at })
primary_seek_question Side.AtOrBefore at = primary_seek_spn (record { ticks = at })
