-- The place that was answered is the part of the file.
use mathlib.Core.Path.{ap, ◌∙◌}
use lib.ListN.{take, drop}
use native.Mathlib.Nat.{add-sub_cancel_left}
use Rattle.extension_entry.proofs.Laws.{given, not_given}
use Rattle.extension_entry.proofs.data.Goals as goal

pub returns-in_default : goal.returns-in_default
returns-in_default c = (not_given _ _ _ c.in_default.ensures.same).1

pub returns : goal.returns
returns c =
    let part = c.in-Ok.part in
    ap (λ n. take n (drop part.start c.args.file.now)) (add-sub_cancel_left part.start part.len) ∙ (given _ _ _ c.in-Ok.ensures.same).1
