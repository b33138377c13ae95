-- Six bytes, and behind them the programs with their streams.
use Prim.Native.Nat.{◌+◌, ◌≤◌}
use mathlib.Core.Path.{refl, sym, ◌∙◌}
use native.Mathlib.Omega.{arith}
use lib.ListN.{length}
use Rattle.rewrite_sections.proofs.Groups.{programs_long, items_within, head_within}
use Rattle.rewrite_sections.proofs.Lengths.{programs_short}
use Rattle.rewrite_sections.proofs.programs_length.Goals as goal

pub overflow_add-start : goal.overflow_add-start
overflow_add-start c =
    let head : c.args.start + 6 ≤ length c.args.file.now = head_within c.args.file.now c.args.start refl c.requires in
    omega (arith, head)

pub u32_at-num_programs-requires : goal.u32_at-num_programs-requires
u32_at-num_programs-requires c =
    let head : c.args.start + 6 ≤ length c.args.file.now = head_within c.args.file.now c.args.start refl c.requires in
    omega (arith, head)

pub overflow_add-items : goal.overflow_add-items
overflow_add-items c =
    let head : c.args.start + 6 ≤ length c.args.file.now = head_within c.args.file.now c.args.start refl c.requires in
    omega (arith, head)

pub measure_items-requires : goal.measure_items-requires
measure_items-requires c =
    let f = c.args.file.now in
    let count = c.u32_at-num_programs.ensures.same in
    let short = programs_short f (λ i. (c.type_inv.file i).fits) c.args.start in
    (items_within f c.args.start count c.requires, omega (arith, programs_long f c.args.start count, short))

pub returns : goal.returns
returns c =
    let a = c.args in
    c.measure_items.ensures ∙ sym (programs_long a.file.now a.start c.u32_at-num_programs.ensures.same)
