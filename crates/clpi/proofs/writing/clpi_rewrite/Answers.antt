-- The numbers of the answer, and the output that it tells of.
use mathlib.Core.Path.{ap, ◌∙◌}
use Rattle.format.specs.Reading.{clip_of}
use Rattle.format.specs.Refusals.{write_numbers, output_by}
use Rattle.format.specs.Rewriting.{encode}
use Rattle.rewrite.proofs.Refusals.{answer_narrow}
use Rattle.clpi.proofs.writing.clpi_rewrite.Goals as goal

pub writing_of-requires : goal.writing_of-requires
writing_of-requires c =
    answer_narrow c.args.file.now (λ i. (c.shared_slice_known-1.given i).fits) c.args.output.now c.rewrite.ensures.result_value

pub returns : goal.returns
returns c =
    let e = c.rewrite.ensures in
    record { result_value = c.writing_of.ensures ∙ ap write_numbers e.result_value; output_after = e.out_after ∙ ap (λ x. output_by x (encode (clip_of c.args.file.now)) c.args.output.now) e.result_value }
