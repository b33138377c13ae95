-- Each turn stores one header row with its own rows.
use Prim.Native.Nat.{◌+◌, ◌*◌, ◌≤◌}
use lib.ListN.{length}
use lib.Seq.{sets}
use Rattle.format.specs.Bytes.{end_of}
use Rattle.format.proofs.Sweep.{Along}
use Rattle.row_bytes.proofs.Storing.{Storing}
use Rattle.encode_rows.specs.Rows.{step_of}
use Rattle.encode_sections.specs.Sections.{head_kind, row_kind, items_in}
use Rattle.encode_sections.proofs.Groups.{count_left, groups_left}
use Rattle.encode_sections.proofs.put_groups.Given as goal

abbrev pub invariant-loop-k : goal.invariant-loop-k
invariant-loop-k l =
    Along (step_of (head_kind l.section)) (length l.heads.bytes.now) 0 l.heads.rows (12 * l.k) l.k
    × (end_of (step_of (row_kind l.section)) l.q (count_left l.section l.heads.bytes.now l.heads.rows (12 * l.k) l.k) ≤ length l.rows)
    × Storing l.initial.out (sets l.initial.out l.at (items_in l.section l.heads.bytes.now l.heads.rows l.rows)) (l.at + length (items_in l.section l.heads.bytes.now l.heads.rows l.rows)) (groups_left l.section l.heads.bytes.now l.heads.rows l.rows (12 * l.k) l.q l.k) l.out l.to
