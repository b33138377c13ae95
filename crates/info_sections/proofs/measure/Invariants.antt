-- The pass counts the rows behind each header row; where one passes the end, so does the section.
use lib.ListN.{length}
use Rattle.format.proofs.Sweep.{Along, Counted}
use Rattle.info_sections.specs.Sections.{group_rows, next_head}
use Rattle.info_sections.proofs.measure.Given as goal

abbrev pub invariant-loop : goal.invariant-loop
invariant-loop l =
    Along (next_head l.section l.file) (length l.file) l.initial.head.pos l.heads l.head.pos l.counter
    × Counted (group_rows l.section l.file) (next_head l.section l.file) l.initial.head.pos l.heads l.head.pos l.counter l.rows
