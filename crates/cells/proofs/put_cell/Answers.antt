-- The four bytes are put in place of as many.
use mathlib.Core.Path.{◌≡◌, sym, ap, ◌∙◌}
use lib.ListN.{length}
use lib.Seq.{sets}
use Rattle.format.specs.Tables.{cell_bytes}
use Rattle.format.proofs.Cells.{low_length}
use Rattle.cells.proofs.Laws.{cell_bytes_lem}
use Rattle.cells.proofs.Parts.{put_as_sets}
use Rattle.cells.proofs.put_cell.Goals as goal

pub returns : goal.returns
returns c =
    let a = c.args in
    let is : c.copy_from_slice.new.self ≡ cell_bytes a.v = c.copy_from_slice.ensures.after ∙ c.to_le_bytes.ensures ∙ sym (cell_bytes_lem a.v) in
    put_as_sets a.t.now c.copy_from_slice.new.self a.at 4 (ap length is ∙ low_length 4 a.v) c.requires ∙ ap (sets a.t.now a.at) is
