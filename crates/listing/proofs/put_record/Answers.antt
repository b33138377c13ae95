-- The five parts of the text stand one behind the other.
use mathlib.Core.Path.{refl, sym}
use borrow.Author.Rules.{rules}
use native.Mathlib.Omega.{arith}
use Rattle.format.specs.Tables.{table_rows_of}
use Rattle.listing.specs.Text.{record_text}
use Rattle.text_lines.proofs.Laws.{in_then}
use Rattle.listing.proofs.Laws.{shows}
use Rattle.listing.proofs.put_record.Goals as goal

pub put_maps-requires : goal.put_maps-requires
unfolding table_rows_of
put_maps-requires c =
    let lines = in_then c.put_line.ensures (in_then c.put_line-2.ensures c.put_line-3.ensures) in
    (c.requires.counts, omega (arith, lines.short, lines.text.size, c.requires.room), c.requires.times_fit)

pub put_line-requires-4 : goal.put_line-requires-4
put_line-requires-4 c =
    let lines = in_then c.put_line.ensures (in_then c.put_line-2.ensures (in_then c.put_line-3.ensures c.put_maps.ensures)) in
    omega (arith, lines.short, lines.text.size, c.requires.room)

pub returns : goal.returns
unfolding record_text table_rows_of
returns c =
    let mark = in_then c.put_maps.ensures c.put_line-4.ensures in
    let text = in_then c.put_line.ensures (in_then c.put_line-2.ensures (in_then c.put_line-3.ensures mark)) in
    let same = sym text.text.same in
    shows text refl (omega (arith, c.requires.room)) (search rules)
