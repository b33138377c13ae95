-- The row that is found is one of the records, whose packet is told.
use Prim.Native.Nat.{◌<◌}
use mathlib.Core.Path.{ap, ◌∙◌}
use lib.ListN.{length, length-map}
use borrow.Author.Tests.{lt-ltb}
use Rattle.format.specs.ClipRecord.{packet}
use Rattle.format.specs.Questions.{number}
use Rattle.nearest.proofs.Steps.{row_below}
use Rattle.ep_entry_steps.specs.declared.EpEntry.{EpEntry}
use Rattle.ep_entry_steps.specs.Records.{as_row, as_rows, no_entry}
use Rattle.ep_entry_steps.proofs.Laws.{packet_is}
use Rattle.ep_entry_steps.proofs.seek.Goals as goal

pub returns-in_err-entry : goal.returns-in_err-entry
returns-in_err-entry c =
    let a = c.args in
    let below : c.in_ok-row.row < length a.rows.now = rw (length-map a.rows.now as_row) at (row_below a.side (as_rows a.rows.now) a.at c.in_ok-row.row c.in_ok-row.ensures) in
    let off = lt-ltb c.in_ok-row.row (length a.rows.now) below in
    cc (c.in_err-entry.ensures.lookup.0)

pub returns : goal.returns
returns c =
    let a = c.args in
    let is = c.in_ok-entry.ensures.lookup.3.1 no_entry in
    rw c.from.ensures (ap (λ (e : EpEntry). number (packet (as_row e))) is ∙ packet_is a.rows.now a.side a.at c.in_ok-row.row c.in_ok-row.ensures)
