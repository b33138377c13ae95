-- Without maps a length of 0; else the top, and headers and bodies behind it.
use native.Mathlib.Omega.{arith}
use Rattle.rewrite_cpi.proofs.Sections.{none_long, cpi_none, few, cpi_long, maps_room, cpi_small, cpi_put}
use Rattle.rewrite_cpi.proofs.put_cpi.Goals as goal

pub put_u32-requires : goal.put_u32-requires
put_u32-requires c =
    let a = c.args in
    omega (arith, c.requires.room, none_long a.file.now a.from.file a.count a.len a.out.now a.from.out c.requires c.if-count-eq0.true)

pub returns-then-count-eq0 : goal.returns-then-count-eq0
returns-then-count-eq0 c =
    let a = c.args in
    let r = cpi_none a.file.now a.from.file a.count a.len a.out.now a.from.out c.requires c.if-count-eq0.true c.put_u32.ensures in
    record { value = r.0; out_after = r.1 }

pub overflow_sub-len : goal.overflow_sub-len
overflow_sub-len c =
    let a = c.args in
    omega (arith, cpi_long a.file.now a.from.file a.count a.len a.out.now a.from.out c.requires c.if-count-eq0.false)

pub overflow_cast-len : goal.overflow_cast-len
overflow_cast-len c =
    let a = c.args in
    omega (arith, cpi_small a.file.now a.from.file a.count a.len a.out.now a.from.out c.requires c.if-count-eq0.false (λ i. (c.type_inv.file i).fits))

pub overflow_cast-count : goal.overflow_cast-count
overflow_cast-count c =
    let a = c.args in
    record { fits = omega (arith, few a.file.now a.from.file a.count a.len a.out.now a.from.out c.requires c.if-count-eq0.false (λ i. (c.type_inv.file i).fits)) }

pub put_top-requires : goal.put_top-requires
put_top-requires c =
    let a = c.args in
    omega (arith, c.requires.room, cpi_long a.file.now a.from.file a.count a.len a.out.now a.from.out c.requires c.if-count-eq0.false)

pub put_maps-requires : goal.put_maps-requires
put_maps-requires c =
    let a = c.args in
    maps_room a.file.now a.from.file a.count a.len a.out.now a.from.out c.requires c.if-count-eq0.false (λ i. (c.type_inv.file i).fits) c.put_top.auto.out

pub returns : goal.returns
returns c =
    let a = c.args in
    let r = cpi_put a.file.now a.from.file a.count a.len a.out.now a.from.out c.requires c.if-count-eq0.false c.put_top.ensures c.put_maps.ensures.value c.put_maps.ensures.out_after in
    record { value = r.0; out_after = r.1 }
