-- Each turn counts a map's entries; the first map that is refused ends the loop.
use Prim.Native.Nat.{◌+◌, ◌*◌}
use mathlib.Core.Path.{sym}
use native.Mathlib.Omega.{arith}
use Rattle.std.proofs.lemmas.Result.{err_from_is_err_and}
use Rattle.refusals.specs.Numbers.{number_of}
use Rattle.ep_rows.proofs.Headers.{counts_small}
use Rattle.cpi.proofs.Sections.{map_said, counting_first, counting_next, counting_bad, counting_done}
use Rattle.cpi.proofs.maps.measure_maps.Goals as goal

pub loop-k-init : goal.loop-k-init
loop-k-init c = counting_first c.args.file.now c.args.start c.args.maps.count c.requires.counted

pub map_rows-requires : goal.map_rows-requires
map_rows-requires c =
    let h = c.requires.headers in
    record { small = c.requires.small; start_in = omega arith; end_is = c.requires.end_is; end_in = c.requires.end_in; header = omega arith }

pub returns-in_err-entries : goal.returns-in_err-entries
returns-in_err-entries c =
    let a = c.args in
    let l = c.loop-k in
    let p = err_from_is_err_and c.from_residual.result c.from_residual.ensures.1 in
    rw (p.1, p.2) (counting_bad a.file.now a.start a.maps.count c.requires.counted l.entries l.k l.invariant (number_of c.in_err-entries.field-0.0) c.loop-k-test.true (sym c.in_err-entries.ensures))

pub overflow_add-entries : goal.overflow_add-entries
overflow_add-entries c =
    let q = c.args.start + 8 + 12 * c.loop-k.k in
    let h = c.requires.headers in
    let z = c.requires.small in
    let few = c.loop-k.invariant.few in
    omega (arith, (map_said c.args.file.now c.args.start q c.in_ok-entries.field-0 (sym c.in_ok-entries.ensures)).1, (counts_small c.args.file.now q).1)

pub loop-k-preserved : goal.loop-k-preserved
loop-k-preserved c =
    let a = c.args in
    let l = c.loop-k in
    counting_next a.file.now a.start a.maps.count c.requires.counted l.entries l.k l.invariant c.in_ok-entries.field-0 c.loop-k-test.true (sym c.in_ok-entries.ensures)

pub returns : goal.returns
returns c =
    let a = c.args in
    let l = c.loop-k in
    counting_done a.file.now a.start a.maps.count c.requires.counted l.entries l.k l.invariant c.loop-k-test.false
