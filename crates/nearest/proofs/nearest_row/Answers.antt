-- Each turn looks at one row more; behind the last the row at the least distance is told, where its time is on the side.
use Prim.Native.Nat.{◌<◌, ◌^◌}
use mathlib.Core.Path.{◌≡◌, ◌∙◌}
use mathlib.Core.Bool.{true, false}
use native.Mathlib.Omega.{arith}
use lib.ListN.{get_or}
use Rattle.format.specs.Questions as of
use Rattle.format.specs.Questions.{number}
use Rattle.nearest.specs.Nearest.{on_side}
use Rattle.nearest.proofs.Steps.{scan_first, scan_takes, scan_keeps, without, no_rows, found, not_found}
use Rattle.nearest.proofs.nearest_row.Goals as goal
use Rattle.nearest.proofs.nearest_row.Goals.{then-distance-least, else-distance-least}

pub returns-then-rows-eq0 : goal.returns-then-rows-eq0
returns-then-rows-eq0 g c = λ times is. no_rows c.args.side c.args.at times (is.0 ∙ c.if-rows-eq0.true)

pub loop-k-init : goal.loop-k-init
loop-k-init g c =
    let some : 0 < c.args.rows = omega (arith, c.if-rows-eq0.false) in
    (some, λ times is. scan_first c.args.side c.args.at times (rw is.0 some) (is.1 0 c.time_of.result some c.time_of.ensures) (omega (arith, c.time_of.type_inv)) c.distance-least.ensures)

pub loop-k-preserved : goal.loop-k-preserved
loop-k-preserved g c =
    let a = c.args in
    let l = c.loop-k in
    let t = c.time_of-in-loop-k in
    let fits : a.at < 2 ^ 64 = omega (arith, c.ranges.at.fits) in
    let below : t.result < 2 ^ 64 = omega (arith, t.type_inv) in
    elim c.if-distance-least.branch [
      | then-distance-least w ↦
          rw (w.nearest-is, w.least-is) (c.loop-k-test.true, λ times is. scan_takes a.side a.at times fits (rw is.0 c.loop-k-test.true) (is.1 l.k t.result c.loop-k-test.true t.ensures) below c.distance-distance.ensures (l.invariant.1 times is) w.if-distance-least.true)
      | else-distance-least w ↦
          rw (w.nearest-is, w.least-is) (l.invariant.0, λ times is. scan_keeps a.side a.at times fits (rw is.0 c.loop-k-test.true) (is.1 l.k t.result c.loop-k-test.true t.ensures) below c.distance-distance.ensures (l.invariant.1 times is) w.if-distance-least.false)
    ]

pub returns-then-has : goal.returns-then-has
returns-then-has g c = λ times is.
    let l = c.loop-k in
    let e : c.time_of-2.result ≡ get_or times l.nearest 0 = is.1 l.nearest c.time_of-2.result l.invariant.0 c.time_of-2.ensures in
    let on : on_side c.args.side c.args.at (get_or times l.nearest 0) ≡ true = rw (← e, ← c.has.ensures) c.if-has.true in
    found c.args.side c.args.at times (rw is.0 (omega (arith, l.invariant.0))) (rw is.0 c.loop-k-test.false) (l.invariant.1 times is) on

pub returns-in-AtOrBefore : goal.returns-in-AtOrBefore
returns-in-AtOrBefore g c = λ times is.
    let l = c.loop-k in
    let e : c.time_of-2.result ≡ get_or times l.nearest 0 = is.1 l.nearest c.time_of-2.result l.invariant.0 c.time_of-2.ensures in
    let off : on_side c.args.side c.args.at (get_or times l.nearest 0) ≡ false = rw (← e, ← c.has.ensures) c.if-has.false in
    let none = not_found c.args.side c.args.at times (rw is.0 (omega (arith, l.invariant.0))) (rw is.0 c.loop-k-test.false) (l.invariant.1 times is) off in
    let is-row-0 : number 0 ≡ without c.args.side = rw c.in-AtOrBefore.is in
    is-row-0 ∙ none

pub returns : goal.returns
returns g c = λ times is.
    let l = c.loop-k in
    let e : c.time_of-2.result ≡ get_or times l.nearest 0 = is.1 l.nearest c.time_of-2.result l.invariant.0 c.time_of-2.ensures in
    let off : on_side c.args.side c.args.at (get_or times l.nearest 0) ≡ false = rw (← e, ← c.has.ensures) c.if-has.false in
    let none = not_found c.args.side c.args.at times (rw is.0 (omega (arith, l.invariant.0))) (rw is.0 c.loop-k-test.false) (l.invariant.1 times is) off in
    let is-none : of.none ≡ without c.args.side = rw c.in-After.is in
    is-none ∙ none
