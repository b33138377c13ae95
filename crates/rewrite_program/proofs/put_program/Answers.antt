-- The program is stored, and its streams behind it.
use Prim.Native.Nat.{◌+◌, ◌≤◌}
use native.Mathlib.Omega.{arith}
use lib.ListN.{length}
use Rattle.format.proofs.Places.{program_head}
use Rattle.rewrite_program.proofs.Laws.{program_ends, streams_within, head_place, streams_room, streams_put, head_room}
use Rattle.rewrite_program.proofs.put_program.Goals as goal

both : {A B : Type 0} → A → B → A × B
both a b = (a, b)

pub program_row-row-requires : goal.program_row-row-requires
program_row-row-requires c =
    let head : c.args.from.file + 8 ≤ length c.args.file.now = omega (arith, program_head c.args.file.now c.args.from.file, c.requires.0) in
    head

pub put_row-behind-requires : goal.put_row-behind-requires
put_row-behind-requires c =
    let a = c.args in
    head_room a.file.now a.from.file a.out.now a.from.out c.program_row-row.ensures c.requires.1

pub overflow_add-from : goal.overflow_add-from
overflow_add-from c =
    let head : c.args.from.file + 8 ≤ length c.args.file.now = omega (arith, program_head c.args.file.now c.args.from.file, c.requires.0) in
    omega (arith, head)

pub u32_at-num_streams-requires : goal.u32_at-num_streams-requires
u32_at-num_streams-requires c =
    let head : c.args.from.file + 8 ≤ length c.args.file.now = omega (arith, program_head c.args.file.now c.args.from.file, c.requires.0) in
    omega (arith, head)

pub overflow_add-streams : goal.overflow_add-streams
overflow_add-streams c =
    let head : c.args.from.file + 8 ≤ length c.args.file.now = omega (arith, program_head c.args.file.now c.args.from.file, c.requires.0) in
    omega (arith, head)

pub put_streams-requires : goal.put_streams-requires
put_streams-requires c =
    let head : c.args.from.file + 8 ≤ length c.args.file.now = omega (arith, program_head c.args.file.now c.args.from.file, c.requires.0) in
    let a = c.args in
    let f = a.file.now in
    let count = c.u32_at-num_streams.ensures.same in
    let is = c.program_row-row.ensures in
    let head = both c.put_row-behind.ensures.value c.put_row-behind.ensures.out_after in
    let place = head_place f a.from.file count a.out.now a.from.out is head in
    let room = streams_room f a.from.file count a.out.now a.from.out is head c.requires.1 in
    (streams_within f a.from.file count c.requires.0, omega arith)

pub returns : goal.returns
returns c =
    let head : c.args.from.file + 8 ≤ length c.args.file.now = omega (arith, program_head c.args.file.now c.args.from.file, c.requires.0) in
    let a = c.args in
    let f = a.file.now in
    let count = c.u32_at-num_streams.ensures.same in
    let is = c.program_row-row.ensures in
    let head = both c.put_row-behind.ensures.value c.put_row-behind.ensures.out_after in
    let put = c.put_streams.ensures in record { value = program_ends f a.from.file count a.from.out (head_place f a.from.file count a.out.now a.from.out is head) put.value; out_after = streams_put f a.from.file count a.out.now a.from.out is head put.out_after }
