-- The head decides, and then the maps.
use mathlib.Core.Path.{sym}
use Rattle.std.proofs.lemmas.Result.{err_from_is_err_and}
use Rattle.cpi.proofs.Sections.{head_said, head_none, head_refused, maps_then}
use Rattle.cpi.proofs.maps.measure.Goals as goal

pub returns-in_err-maps : goal.returns-in_err-maps
returns-in_err-maps c =
    let p = err_from_is_err_and c.from_residual.result c.from_residual.ensures.1 in
    rw (p.1, p.2) (head_refused c.args.file.now c.args.start (sym c.in_err-maps.ensures))

pub measure_maps-requires : goal.measure_maps-requires
measure_maps-requires c =
    (head_said c.args.file.now c.args.start c.in-Some.maps c.requires (rw c.in-Some.is at (sym c.in_ok-maps.ensures))).1

pub returns-in-Some : goal.returns-in-Some
returns-in-Some c =
    let said = head_said c.args.file.now c.args.start c.in-Some.maps c.requires (rw c.in-Some.is at (sym c.in_ok-maps.ensures)) in
    maps_then c.args.file.now c.args.start said.0 c.measure_maps.ensures

pub returns-in-None : goal.returns-in-None
returns-in-None c = head_none c.args.file.now c.args.start (rw c.in-None.is at (sym c.in_ok-maps.ensures))
