-- The numbers of the length.
use mathlib.Core.Path.{ap, ◌∙◌}
use Rattle.rewrite.specs.Rewrite.{length_numbers}
use Rattle.rewrite.proofs.Refusals.{length_narrow}
use Rattle.clpi.proofs.writing.clpi_rewritten_length.Goals as goal

pub length_of-requires : goal.length_of-requires
length_of-requires c =
    length_narrow c.args.file.now (λ i. (c.shared_slice_known-1.given i).fits) c.rewritten_length.ensures

pub returns : goal.returns
returns c =
    c.length_of.ensures ∙ ap length_numbers c.rewritten_length.ensures
