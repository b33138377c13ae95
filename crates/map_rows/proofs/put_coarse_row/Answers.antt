-- The fields fit, so their low bits are the fields.
use borrow.Author.Rules.{rules}
use Rattle.map_rows.proofs.Puts.{coarse_stored}
use Rattle.map_rows.proofs.put_coarse_row.Goals as goal

pub returns : goal.returns
returns c =
    let a = c.args in
    coarse_stored a.out.now a.at a.first_fine a.entry.time a.entry.packet c.requires.0 c.requires.1 (search rules)
    c.coarse_time_of.ensures c.coarse_row_word-word.ensures c.put_be.ensures
