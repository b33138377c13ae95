-- A turn stores one header row and its own rows; the section ends within the file, so each of them does.
use Prim.Native.Nat.{◌*◌}
use Rattle.info_sections.proofs.Sections.{Passing}
use Rattle.info_sections.proofs.fill.Given as goal

abbrev pub invariant-loop-k : goal.invariant-loop-k
invariant-loop-k l = Passing l.section l.file l.start l.count l.initial.heads l.initial.rows l.heads l.rows l.p (12 * l.k) l.to l.k
