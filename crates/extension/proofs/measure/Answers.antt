-- The block is measured where there are entries; else there is nothing to count.
use Rattle.extension.proofs.Laws.{no_rows, rows_are, block, nothing_measured, all_measured}
use Rattle.extension.proofs.measure.Goals as goal

pub measure_entries-requires : goal.measure_entries-requires
measure_entries-requires c = block c.args.file.now c.args.start (λ i. (c.type_inv.file i).fits) c.requires c.in-Some.ensures

pub returns-in-Some : goal.returns-in-Some
returns-in-Some c =
    let a = c.args in
    all_measured a.file.now a.start c.in-Some.head.n (rows_are a.file.now a.start c.in-Some.ensures) c.measure_entries.ensures

pub returns-in-None : goal.returns-in-None
returns-in-None c =
    let a = c.args in
    nothing_measured a.file.now a.start (no_rows a.file.now a.start c.in-None.ensures)
