-- Each kind is stored by its own function, at its own length.
use lib.ListN.{get_or}
use Rattle.row_values.proofs.Lengths.{atc_length, stc_length, program_length}
use Rattle.row_bytes.proofs.put_row.Goals as goal

pub put_atc-requires : goal.put_atc-requires
put_atc-requires c = let r = c.args.row in rw (c.in-Atc.is, atc_length (get_or r 0 0) (get_or r 1 0) (get_or r 2 0)) at c.requires

pub put_stc-requires : goal.put_stc-requires
put_stc-requires c = let r = c.args.row in rw (c.in-Stc.is, stc_length (get_or r 0 0) (get_or r 1 0) (get_or r 2 0) (get_or r 3 0)) at c.requires

pub put_program-requires : goal.put_program-requires
put_program-requires c = let r = c.args.row in rw (c.in-Program.is, program_length (get_or r 0 0) (get_or r 1 0) (get_or r 2 0)) at c.requires

pub put_stream-requires : goal.put_stream-requires
put_stream-requires c = rw c.in-Stream.is at c.requires

pub returns-in-Atc : goal.returns-in-Atc
returns-in-Atc c = let r = c.args.row in rw (c.in-Atc.is, atc_length (get_or r 0 0) (get_or r 1 0) (get_or r 2 0)) c.put_atc.ensures

pub returns-in-Stc : goal.returns-in-Stc
returns-in-Stc c = let r = c.args.row in rw (c.in-Stc.is, stc_length (get_or r 0 0) (get_or r 1 0) (get_or r 2 0) (get_or r 3 0)) c.put_stc.ensures

pub returns-in-Program : goal.returns-in-Program
returns-in-Program c = let r = c.args.row in rw (c.in-Program.is, program_length (get_or r 0 0) (get_or r 1 0) (get_or r 2 0)) c.put_program.ensures

pub returns-in-Stream : goal.returns-in-Stream
returns-in-Stream c = rw c.in-Stream.is c.put_stream.ensures
