-- Where a stream passes the end, so do all of them.
use mathlib.Core.Path.{◌∙◌}
use native.Mathlib.Omega.{arith}
use Rattle.format.specs.Bytes.{end_of}
use Rattle.format.specs.Programs.{next_stream}
use Rattle.format.proofs.Sweep.{along_first, along_turn, along_past, along_done}
use Rattle.format.proofs.Places.{up_stream}
use Rattle.common.proofs.Laws.{went, stayed, reached, beyond}
use Rattle.program_info.proofs.skip_streams.Goals as goal

pub loop-init : goal.loop-init
loop-init c = along_first (next_stream c.args.file.now) c.requires

pub returns-in_err-next : goal.returns-in_err-next
returns-in_err-next c =
    let l = c.loop in
    let a = c.args in
    let f = a.file.now in
    c.from_residual.ensures
    ∙ beyond f (end_of (next_stream f) a.r.pos a.n) (along_past l.invariant (up_stream f) c.loop-test.true (stayed f (next_stream f l.next.pos) c.in_err-next.ensures))

pub loop-preserved : goal.loop-preserved
loop-preserved c =
    let l = c.loop in
    let f = c.args.file.now in
    let next = went f (next_stream f l.next.pos) c.in_ok-next.ensures in
    along_turn l.invariant c.loop-test.true next.1 (omega (arith, next.0, next.1))

pub returns : goal.returns
returns c =
    let l = c.loop in
    reached c.args.file.now (along_done l.invariant c.loop-test.false) l.invariant.inside
