-- Each kind has its own length.
use mathlib.Core.Path.{sym}
use lib.ListN.{get_or}
use Rattle.row_values.proofs.Lengths.{atc_length, stc_length, program_length}
use Rattle.row_values.proofs.row_length.Goals as goal

pub returns-in-Atc : goal.returns-in-Atc
returns-in-Atc c = let r = c.args.row in rw c.in-Atc.is (sym (atc_length (get_or r 0 0) (get_or r 1 0) (get_or r 2 0)))

pub returns-in-Stc : goal.returns-in-Stc
returns-in-Stc c = let r = c.args.row in rw c.in-Stc.is (sym (stc_length (get_or r 0 0) (get_or r 1 0) (get_or r 2 0) (get_or r 3 0)))

pub returns-in-Program : goal.returns-in-Program
returns-in-Program c = let r = c.args.row in rw c.in-Program.is (sym (program_length (get_or r 0 0) (get_or r 1 0) (get_or r 2 0)))
