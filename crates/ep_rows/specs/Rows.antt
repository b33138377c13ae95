-- The packed rows of the entry index as the code's structs, and the values of their fields.
use Rattle.std.specs.Prelude.{[], ◌∷◌, get_or}
use Rattle.format.specs.ClipRecord.{Row}
use Rattle.format.specs.EntryPoints.{first_fine_of, coarse_time, coarse_packet, fine_time, fine_packet}
use Rattle.ep_rows.specs.declared.MapHeader.{MapHeader}
use Rattle.ep_rows.specs.declared.CoarseRow.{CoarseRow}
use Rattle.ep_rows.specs.declared.FineRow.{FineRow}

-- a map header's fields; the first is spare
abbrev pub header_of : Row → MapHeader
header_of row = record { ep_stream_type = get_or row 1 0; num_coarse = get_or row 2 0; num_fine = get_or row 3 0 }

-- the values that its fields are built from; the spare one is 0
abbrev pub header_values : MapHeader → Row
header_values h = 0 ∷ h.ep_stream_type ∷ h.num_coarse ∷ h.num_fine ∷ []

-- a coarse row's fields
abbrev pub coarse_of : Row → CoarseRow
coarse_of row = record { first_fine = first_fine_of row; time = coarse_time row; packet = coarse_packet row }

-- the values that its fields are built from
abbrev pub coarse_values : CoarseRow → Row
coarse_values c = c.first_fine ∷ c.time ∷ c.packet ∷ []

-- a fine row's fields
abbrev pub fine_of : Row → FineRow
fine_of row = record { angle = get_or row 0 0; i_end = get_or row 1 0; time = fine_time row; packet = fine_packet row }

-- the values that its fields are built from
abbrev pub fine_values : FineRow → Row
fine_values f = f.angle ∷ f.i_end ∷ f.time ∷ f.packet ∷ []
