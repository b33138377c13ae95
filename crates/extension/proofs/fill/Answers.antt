-- The rows are stored where there are entries; else the table is left as it is.
use Rattle.extension.proofs.Laws.{no_rows, rows_are, block, table_room, table_filled, table_kept}
use Rattle.extension.proofs.fill.Goals as goal

pub fill_entries-requires : goal.fill_entries-requires
fill_entries-requires c =
    let f = c.args.file.now in
    let e = c.in-Some.ensures in
    (block f c.args.start (λ i. (c.type_inv.file i).fits) c.requires.0 e, table_room f c.args.start c.in-Some.head.n c.args.table.now (rows_are f c.args.start e) c.requires.1)

pub returns-in-Some : goal.returns-in-Some
returns-in-Some c =
    let f = c.args.file.now in
    table_filled f c.args.start c.in-Some.head.n c.args.table.now (rows_are f c.args.start c.in-Some.ensures) c.requires.1 c.fill_entries.ensures

pub returns-in_default : goal.returns-in_default
returns-in_default c =
    let a = c.args in
    table_kept a.file.now a.start a.table.now (no_rows a.file.now a.start c.in_default.ensures)
