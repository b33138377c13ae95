-- Each turn stores the entry of fine row k; what is left of the stretch goes behind it.
use Prim.Native.Nat.{◌+◌, ◌*◌, ◌≤◌}
use mathlib.Core.Path.{◌≡◌}
use lib.ListN.{length}
use lib.Seq.{sets}
use Rattle.ep_entries.specs.Entries.{stretch_bytes}
use Rattle.ep_entries.proofs.entries.put_stretch.Given as goal

abbrev pub invariant-loop-k : goal.invariant-loop-k
invariant-loop-k g l =
    let form = g.F.EntryForm in (l.from ≤ l.k) × (l.k ≤ l.end) × (length l.out ≡ length l.initial.out) × (sets l.out (l.at + form.SIZE * l.k) (stretch_bytes form.bytes l.file l.m.kind l.w.time l.w.packet l.m.fine l.k l.end) ≡ sets l.initial.out (l.at + form.SIZE * l.from) (stretch_bytes form.bytes l.file l.m.kind l.w.time l.w.packet l.m.fine l.from l.end))
