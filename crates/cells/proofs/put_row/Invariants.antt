-- The cells so far are stored.
use Rattle.std.proofs.Common.{◌≡◌, length, take}
use Rattle.std.proofs.lemmas.List.Edits.{sets}
use Rattle.format.specs.Tables.{row_bytes_of}
use Rattle.cells.proofs.put_row.Given as goal

abbrev pub invariant-loop-k : goal.invariant-loop-k
invariant-loop-k g l = record { stored : l.t ≡ sets l.initial.t l.at (row_bytes_of (take l.k l.v-items)); size : length l.v-items ≡ l.k-end }
