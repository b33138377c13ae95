-- The fine address goes below the coarse rows and the fine rows, as the body has them.
use Prim.Native.Nat.{◌*◌, ◌-◌, ◌≤◌}
use native.Mathlib.Omega.{arith}
use Rattle.entry_rows.specs.Entries.{entries_at}
use Rattle.encode_map.proofs.Bodies.{body_size, runs_within, body_below}
use Rattle.encode_map.proofs.put_body.Goals as goal
use Rattle.encode_map.proofs.put_body.Goals.{After-put_rows-coarse}

-- there is room for the fine address
deep : (c : After-put_rows-coarse) → 4 ≤ c.put_rows-coarse.result
deep c =
    let a = c.args in
    omega (arith, c.requires.below, c.put_rows-coarse.ensures.n_value, body_size a.entries.bytes.now a.entries.first a.entries.count)

pub overflow_sub-fine : goal.overflow_sub-fine
overflow_sub-fine c = let a = c.args in omega (arith, c.requires.below, body_size a.entries.bytes.now a.entries.first a.entries.count)

pub put_rows-coarse-requires : goal.put_rows-coarse-requires
put_rows-coarse-requires c =
    let a = c.args in
    let size = body_size a.entries.bytes.now a.entries.first a.entries.count in
    record {
      few = c.requires.few;
      fit = c.requires.fit;
      below = omega (arith, c.requires.below, size);
      room = omega (arith, c.requires.below, c.requires.room, size);
    }

pub overflow_sub-coarse : goal.overflow_sub-coarse
overflow_sub-coarse c = deep (goal.at.overflow_sub-coarse c).After-put_rows-coarse

pub overflow_cast-fine : goal.overflow_cast-fine
overflow_cast-fine c =
    let a = c.args in
    record { fits = omega (arith, c.put_rows-coarse.ensures.n_value, c.requires.few, runs_within a.entries.bytes.now a.entries.first a.entries.count) }

pub put_u32-requires : goal.put_u32-requires
put_u32-requires c =
    omega (arith, deep (goal.at.put_u32-requires c).After-put_rows-coarse, c.requires.room, c.put_rows-coarse.ensures.n_value, c.put_rows-coarse.auto)

pub overflow_sub-result : goal.overflow_sub-result
overflow_sub-result c = deep (goal.at.overflow_sub-result c).After-put_rows-coarse

pub returns : goal.returns
returns c =
    let a = c.args in
    let rows = c.put_rows-coarse in
    let room = deep (goal.at.returns c).After-put_rows-coarse in record { n_value = omega (arith, rows.ensures.n_value, room, body_size a.entries.bytes.now a.entries.first a.entries.count, c.requires.below); out_after = body_below (entries_at a.entries.bytes.now a.entries.first a.entries.count) a.out.now rows.result (a.end - 4 * a.entries.count) rows.ensures.n_value room rows.ensures.out_after c.put_u32.ensures }
