-- Over the limit nothing is read; within it the text is that of what was read.
use Prim.Native.Nat.{ℕ}
use mathlib.Core.Path.{◌≡◌, sym, ◌∙◌}
use mathlib.Core.List.{List}
use Rattle.format.specs.Bytes.{IsBytes}
use Rattle.format.specs.ClipRecord.{entry_cells}
use Rattle.format.specs.Tables.{map_cells}
use Rattle.format.specs.Refusals.{read_answer}
use Rattle.format.specs.Listing.{rows4096, listing_tables}
use Rattle.clip_information.specs.Read.{read_answer_of}
use Rattle.listing.proofs.Laws.{shows_as}
use Rattle.clip_listing.proofs.Laws.{tellable, told, listing_within, listing_over}
use borrow.Author.Rules.{rules}
use Rattle.clip_listing.proofs.list.Goals as goal

pub returns-then-input-gt65536 : goal.returns-then-input-gt65536
returns-then-input-gt65536 c = shows_as (sym (listing_over c.args.input.now (search rules))) (rw c.number.ensures at c.put_refusal.ensures)

pub put_answer-requires : goal.put_answer-requires
unfolding listing_tables
put_answer-requires c =
    let F : List ℕ = c.args.input.now in
    let bytes : IsBytes F = (λ i. (c.type_inv.input i).fits) in
    let answered : read_answer_of c.read-answer.result ≡ read_answer F listing_tables = c.read-answer.ensures.result_value in
    rw (c.read-answer.ensures.maps_after, c.read-answer.ensures.entries_after)
    (tellable F bytes (rows4096 map_cells) (rows4096 entry_cells) c.read-answer.result c.args.out.now answered c.requires)

pub returns : goal.returns
unfolding listing_tables
returns c =
    let F : List ℕ = c.args.input.now in
    let bytes : IsBytes F = (λ i. (c.type_inv.input i).fits) in
    let answered : read_answer_of c.read-answer.result ≡ read_answer F listing_tables = c.read-answer.ensures.result_value in
    shows_as (rw (c.read-answer.ensures.maps_after, c.read-answer.ensures.entries_after) (told F bytes (rows4096 map_cells) (rows4096 entry_cells) c.read-answer.result answered ∙ sym (listing_within F (search rules))))
    c.put_answer.ensures
