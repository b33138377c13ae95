-- The place's numbers.
use mathlib.Core.Path.{◌∙◌}
use Rattle.format.specs.Tables.{stated}
use Rattle.clpi_answers.proofs.Laws.{place_numbers_lem}
use Rattle.clpi.proofs.extension_data.clpi_extension_data.Goals as goal

pub returns : goal.returns
returns c =
    let a = c.args in
    let t = c.table-extensions in
    c.part_of.ensures
    ∙ rw (t.ensures.bytes_are, t.ensures.rows_are) at (place_numbers_lem a.file.now (stated t.result.bytes.now t.result.rows) a.row c.data_place.result c.data_place.ensures.same)
