-- Each place is behind the one before; behind none there is none.
use mathlib.Core.Path.{◌∙◌}
use Rattle.replay_bytes.proofs.PartLaws.{part_none}
use Rattle.replay_case.proofs.pass_lists.Goals as goal

pub returns-in_err-p : goal.returns-in_err-p
returns-in_err-p c = c.from_residual.ensures ∙ rw (← c.in_err-p.ensures) (simp part_none)

pub returns-in_err-p-2 : goal.returns-in_err-p-2
returns-in_err-p-2 c = c.from_residual-in_err-p-2.ensures ∙ rw (← c.in_ok-p.ensures, ← c.in_err-p-2.ensures) (simp part_none)

pub returns-in_err-p-3 : goal.returns-in_err-p-3
returns-in_err-p-3 c = c.from_residual-in_err-p-3.ensures ∙ rw (← c.in_ok-p.ensures, ← c.in_ok-p-2.ensures, ← c.in_err-p-3.ensures) (simp part_none)
