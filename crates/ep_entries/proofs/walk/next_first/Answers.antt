-- Where a row is left, its first fine row.
use mathlib.Core.Path.{ap, ◌∙◌}
use Rattle.ep_rows.specs.declared.CoarseRow.{CoarseRow}
use Rattle.ep_entries.proofs.Walks.{coarse_read, next_some, next_none}
use Rattle.ep_entries.proofs.walk.next_first.Goals as goal

pub returns-then-n-eq0 : goal.returns-then-n-eq0
returns-then-n-eq0 c =
    next_none c.args.file.now c.args.p c.args.n c.args.last c.if-n-eq0.true

pub returns : goal.returns
returns c =
    let f = c.args.file.now in
    let r = coarse_read f c.args.p c.be_at.result c.coarse_row.result c.be_at.ensures.same c.coarse_row.ensures in
    ap (λ (x : CoarseRow). x.first_fine) r ∙ next_some f c.args.p c.args.n c.args.last c.if-n-eq0.false
