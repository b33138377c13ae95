-- Eight bytes, and behind them the streams.
use Prim.Native.Nat.{◌+◌, ◌≤◌}
use mathlib.Core.Path.{refl}
use native.Mathlib.Omega.{arith}
use lib.ListN.{length}
use Rattle.format.proofs.Places.{program_head}
use Rattle.rewrite_program.proofs.Laws.{program_long, program_ends, streams_within}
use Rattle.rewrite_program.proofs.measure_program.Goals as goal

pub overflow_add-from : goal.overflow_add-from
overflow_add-from c =
    let head : c.args.from.file + 8 ≤ length c.args.file.now = omega (arith, program_head c.args.file.now c.args.from.file, c.requires.0) in
    omega (arith, head)

pub u32_at-num_streams-requires : goal.u32_at-num_streams-requires
u32_at-num_streams-requires c =
    let head : c.args.from.file + 8 ≤ length c.args.file.now = omega (arith, program_head c.args.file.now c.args.from.file, c.requires.0) in
    omega (arith, head)

pub overflow_add-streams : goal.overflow_add-streams
overflow_add-streams c =
    let head : c.args.from.file + 8 ≤ length c.args.file.now = omega (arith, program_head c.args.file.now c.args.from.file, c.requires.0) in
    omega (arith, head)

pub measure_streams-requires : goal.measure_streams-requires
measure_streams-requires c =
    let f = c.args.file.now in
    let count = c.u32_at-num_streams.ensures.same in
    (streams_within f c.args.from.file count c.requires.0, omega (arith, program_long f c.args.from.file count, c.requires.1))

pub returns : goal.returns
returns c =
    let a = c.args in
    program_ends a.file.now a.from.file c.u32_at-num_streams.ensures.same a.from.out refl c.measure_streams.ensures
