-- A turn stores one program with its streams and goes on behind them, in the file and in the output.
use Prim.Native.Nat.{◌+◌}
use lib.ListN.{length}
use lib.Seq.{sets}
use Rattle.format.specs.Programs.{next_program}
use Rattle.format.proofs.Rows.{as_is}
use Rattle.format.proofs.Sweep.{Along}
use Rattle.row_bytes.proofs.Storing.{Storing, rows_left}
use Rattle.rewrite_program.specs.Programs.{new_program}
use Rattle.rewrite_sections.specs.Sections.{new_items}
use Rattle.rewrite_sections.proofs.put_items.Given as goal

abbrev pub invariant-loop : goal.invariant-loop
invariant-loop l =
    Along (next_program l.file) (length l.file) l.initial.to.file l.n l.to.file l.counter
    × Storing l.initial.out (sets l.initial.out l.initial.to.out (new_items l.file l.initial.to.file l.n)) (l.initial.to.out + length (new_items l.file l.initial.to.file l.n)) (rows_left (new_program l.file) (next_program l.file) as_is l.to.file l.n l.counter) l.out l.to.out
