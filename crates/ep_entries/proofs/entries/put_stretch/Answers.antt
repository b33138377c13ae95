-- Each turn stores the entry of fine row k; what is left of the stretch goes behind it.
use mathlib.Core.Path.{◌∙◌}
use native.Mathlib.Omega.{arith}
use Rattle.ep_entries.proofs.Joined.{stretch_turn}
use Rattle.ep_entries.proofs.entries.put_stretch.Goals as goal

pub loop-k-preserved : goal.loop-k-preserved
loop-k-preserved g c =
    let form = g.F.EntryForm in
    let a = c.args in
    let l = c.loop-k in
    let word = c.u32_at in
    let put = c.put in (
      omega arith,
      omega arith,
      put.auto.out ∙ l.invariant.2,
      stretch_turn form.bytes form.SIZE g.met.F.EntryForm.long a.file.now a.m.kind a.w.time a.w.packet a.m.fine a.end l.k l.out a.at word.result (omega arith) word.ensures.same (rw c.SIZE.ensures at put.ensures) l.invariant.3,
    )
