-- The address goes before the coarse rows and the fine rows behind them, as the body has them.
use mathlib.Core.Path.{refl}
use native.Mathlib.Omega.{arith}
use Rattle.encode_map.proofs.Bodies.{body_stored}
use Rattle.ep_entries.specs.Body.{entries_in}
use Rattle.map_runs.proofs.Entries.{runs_within, body_size}
use Rattle.map_runs.proofs.body.put_body.Goals as goal

pub put_coarse-fine-requires : goal.put_coarse-fine-requires
put_coarse-fine-requires c =
    record { rows = c.requires.rows; room = omega (arith, c.requires.room, body_size c.args.file.now c.args.m) }

pub overflow_cast-fine : goal.overflow_cast-fine
overflow_cast-fine c =
    record { fits = omega (arith, c.put_coarse-fine.ensures.value, c.requires.rows.few, runs_within c.args.file.now c.args.m) }

pub put_u32-requires : goal.put_u32-requires
put_u32-requires c =
    omega (arith, c.requires.room, body_size c.args.file.now c.args.m, c.put_coarse-fine.auto)

pub put_entries-requires : goal.put_entries-requires
put_entries-requires c =
    record { rows = c.requires.rows; fits = omega (arith, c.requires.room, body_size c.args.file.now c.args.m, c.put_coarse-fine.ensures.value, c.put_coarse-fine.auto, c.put_u32.auto) }

pub returns-clause-out_after : goal.returns-clause-out_after
returns-clause-out_after c =
    let a = c.args in
    let coarse = c.put_coarse-fine in
    body_stored (entries_in a.file.now a.m) a.out.now a.at coarse.result _ coarse.ensures.value refl coarse.ensures.out_after c.put_u32.ensures c.put_entries.ensures
