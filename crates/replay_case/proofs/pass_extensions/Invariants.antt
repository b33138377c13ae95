-- After each row the place is behind the extensions so far.
use Rattle.replay_case.proofs.ExtensionLaws.{Passed}
use Rattle.replay_case.proofs.pass_extensions.Given as goal

abbrev pub invariant-loop-row : goal.invariant-loop-row
invariant-loop-row l = Passed l.answer l.at l.file l.table l.rows l.p l.row
