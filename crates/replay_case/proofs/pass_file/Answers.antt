-- The three parts in turn; behind none there is none.
use mathlib.Core.Path.{◌∙◌}
use Rattle.replay_bytes.proofs.PartLaws.{part_none, behind_none}
use Rattle.replay_case.proofs.pass_file.Goals as goal

pub returns-in_err-p : goal.returns-in_err-p
returns-in_err-p c = c.from_residual.ensures ∙ rw (← c.in_err-p.ensures) (simp (part_none, behind_none))

pub returns-in_err-p-2 : goal.returns-in_err-p-2
returns-in_err-p-2 c = c.from_residual-in_err-p-2.ensures ∙ rw (← c.in_ok-p.ensures, ← c.in_err-p-2.ensures) (simp behind_none)
