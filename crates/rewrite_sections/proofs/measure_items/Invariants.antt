-- A turn goes on behind one program and its streams, and by the bytes that they have in the new file.
use Prim.Native.Nat.{◌+◌}
use lib.ListN.{length}
use Rattle.format.specs.Programs.{next_program}
use Rattle.format.proofs.Rows.{as_is}
use Rattle.format.proofs.Sweep.{Along}
use Rattle.row_bytes.proofs.Storing.{Adding}
use Rattle.rewrite_program.specs.Programs.{new_program}
use Rattle.rewrite_sections.specs.Sections.{new_items}
use Rattle.rewrite_sections.proofs.measure_items.Given as goal

abbrev pub invariant-loop : goal.invariant-loop
invariant-loop l =
    Along (next_program l.file) (length l.file) l.initial.to.file l.n l.to.file l.counter × Adding (new_program l.file) (next_program l.file) as_is (l.initial.to.out + length (new_items l.file l.initial.to.file l.n)) l.to.out l.to.file l.n l.counter
