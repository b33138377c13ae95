-- Each turn keeps the later row that the packet has reached.
use Prim.Native.Nat.{◌+◌}
use mathlib.Core.Path.{ap, ◌∙◌, refl}
use borrow.Author.Tests.{le-leb, lt-leb}
use Rattle.std.proofs.Common.{Ok}
use Rattle.format.specs.Questions.{number}
use Rattle.queries.specs.Answers.{found_of}
use Rattle.atc_queries.proofs.Atcs.{spns_first, spns_turn, spns_done}
use Rattle.atc_queries.proofs.find_spn.Goals as goal
use Rattle.atc_queries.proofs.find_spn.Goals.{then-cell_at-spn, else-cell_at-spn}

pub loop-k-init : goal.loop-k-init
loop-k-init c = spns_first _ _ _ _

pub loop-k-preserved : goal.loop-k-preserved
loop-k-preserved c =
    let cell = rw c.from.ensures at c.cell_at.ensures in
    elim c.if-cell_at-spn.branch [
      | then-cell_at-spn w ↦ spns_turn _ _ _ _ _ _ c.loop-k-test.true cell (ap (λ x. found_of (Ok x)) w.found-is ∙ ap (λ x. number (c.args.own.first + x)) c.from.ensures ∙ rw (le-leb c.cell_at.result c.args.spn w.if-cell_at-spn.true) refl) c.loop-k.invariant
      | else-cell_at-spn w ↦ spns_turn _ _ _ _ _ _ c.loop-k-test.true cell (ap (λ x. found_of (Ok x)) w.found-is ∙ rw (lt-leb c.cell_at.result c.args.spn w.if-cell_at-spn.false) refl) c.loop-k.invariant
    ]

pub returns : goal.returns
returns c = spns_done _ _ _ _ _ _ c.loop-k-test.false c.loop-k.invariant
