-- The head is stored, and behind it the programs with their streams.
use Prim.Native.Nat.{◌+◌, ◌-◌, ◌≤◌}
use mathlib.Core.Path.{refl}
use native.Mathlib.Omega.{arith}
use lib.ListN.{length}
use Rattle.section_heads.proofs.Stored.{section_head}
use Rattle.rewrite_sections.proofs.Groups.{programs_long, items_room, programs_put, items_within, head_within}
use Rattle.rewrite_sections.proofs.Lengths.{programs_short}
use Rattle.rewrite_sections.proofs.put_programs.Goals as goal

pub overflow_add-from : goal.overflow_add-from
overflow_add-from c =
    let head : c.args.from.file + 6 ≤ length c.args.file.now = head_within c.args.file.now c.args.from.file refl c.requires.ends in
    omega (arith, head)

pub u32_at-num_programs-requires : goal.u32_at-num_programs-requires
u32_at-num_programs-requires c =
    let head : c.args.from.file + 6 ≤ length c.args.file.now = head_within c.args.file.now c.args.from.file refl c.requires.ends in
    omega (arith, head)

pub overflow_sub-size : goal.overflow_sub-size
overflow_sub-size c =
    let long : 6 ≤ c.args.size = omega (arith, c.requires.size_is, programs_long c.args.file.now c.args.from.file refl) in
    omega (arith, long)

pub overflow_cast-size : goal.overflow_cast-size
overflow_cast-size c =
    record { fits = omega (arith, c.requires.size_is, programs_short c.args.file.now (λ i. (c.type_inv.file i).fits) c.args.from.file) }

pub put_head-requires : goal.put_head-requires
put_head-requires c =
    let long : 6 ≤ c.args.size = omega (arith, c.requires.size_is, programs_long c.args.file.now c.args.from.file refl) in
    omega (arith, long, c.requires.room)

pub overflow_add-items : goal.overflow_add-items
overflow_add-items c =
    let head : c.args.from.file + 6 ≤ length c.args.file.now = head_within c.args.file.now c.args.from.file refl c.requires.ends in
    omega (arith, head)

pub put_items-requires : goal.put_items-requires
put_items-requires c =
    let a = c.args in
    let f = a.file.now in
    let count = c.u32_at-num_programs.ensures.same in
    let room = items_room f a.from.file count c.requires.size_is a.out.now a.from.out (section_head (a.size - 4) c.u32_at-num_programs.result) c.requires.room c.put_head.ensures in
    (items_within f a.from.file count c.requires.ends, omega arith)

pub returns : goal.returns
returns c =
    let a = c.args in
    let f = a.file.now in
    let count = c.u32_at-num_programs.ensures.same in
    let put = c.put_items.ensures in record { value = omega (arith, put.value, c.requires.size_is, programs_long f a.from.file count); out_after = programs_put f a.from.file count c.requires.size_is a.out.now a.from.out c.put_head.ensures put.out_after }
