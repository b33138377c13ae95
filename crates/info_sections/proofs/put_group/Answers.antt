-- The header row and its own rows, by the kind of section.
use Prim.Native.Nat.{◌+◌}
use mathlib.Core.Path.{ap, ◌∙◌}
use native.Mathlib.Omega.{arith}
use Rattle.format.specs.Bytes.{end_of}
use Rattle.format.specs.ClipRecord.{next_stc}
use Rattle.format.specs.Programs.{next_stream}
use Rattle.format.proofs.Places.{atc_head, program_head}
use Rattle.section_heads.specs.declared.Section.{Section}
use Rattle.info_sections.specs.Sections.{GroupThere}
use Rattle.info_sections.proofs.put_group.Goals as goal
use Rattle.info_sections.proofs.put_group.Goals.{In-Sequences, In-Programs}

-- an ATC and its STCs are there
atc_there : (c : In-Sequences) → let a = c.args in GroupThere Section.Sequences a.file.now a.p a.n a.heads.now a.at a.rows.now a.to
atc_there c = rw c.in-Sequences.is at c.requires

pub put_atc-requires : goal.put_atc-requires
put_atc-requires c =
    let g = atc_there (goal.at.put_atc-requires c).In-Sequences in
    (omega (arith, g.ends, atc_head c.args.file.now c.args.p), g.head_room)

pub overflow_add-p : goal.overflow_add-p
overflow_add-p c = omega (arith, (atc_there (goal.at.overflow_add-p c).In-Sequences).ends, atc_head c.args.file.now c.args.p)

pub put_stcs-requires : goal.put_stcs-requires
put_stcs-requires c =
    let g = atc_there (goal.at.put_stcs-requires c).In-Sequences in
    (rw g.says g.ends, g.rows_room)

-- a program and its streams are there
program_there : (c : In-Programs) → let a = c.args in GroupThere Section.Programs a.file.now a.p a.n a.heads.now a.at a.rows.now a.to
program_there c = rw c.in-Programs.is at c.requires

pub put_program-requires : goal.put_program-requires
put_program-requires c =
    let g = program_there (goal.at.put_program-requires c).In-Programs in
    (omega (arith, g.ends, program_head c.args.file.now c.args.p), g.head_room)

pub overflow_add-p-in-Programs : goal.overflow_add-p-in-Programs
overflow_add-p-in-Programs c = omega (arith, (program_there (goal.at.overflow_add-p-in-Programs c).In-Programs).ends, program_head c.args.file.now c.args.p)

pub put_streams-requires : goal.put_streams-requires
put_streams-requires c =
    let g = program_there (goal.at.put_streams-requires c).In-Programs in
    (rw g.says g.ends, g.rows_room)

pub returns-in-Sequences : goal.returns-in-Sequences
returns-in-Sequences c =
    let says = (atc_there (goal.at.returns-in-Sequences c).In-Sequences).says in
    let put = c.put_stcs.ensures in
    rw c.in-Sequences.is
    record { value = put.value ∙ ap (end_of next_stc (c.args.p + 6)) says; heads_after = c.put_atc.ensures; rows_after = rw says at put.table_after }

pub returns-in-Programs : goal.returns-in-Programs
returns-in-Programs c =
    let a = c.args in
    let says = (program_there (goal.at.returns-in-Programs c).In-Programs).says in
    let put = c.put_streams.ensures in
    rw c.in-Programs.is
    record { value = put.value ∙ ap (end_of (next_stream a.file.now) (a.p + 8)) says; heads_after = c.put_program.ensures; rows_after = rw says at put.table_after }
