-- The numbers of the answer, and the output that it tells of.
use mathlib.Core.Path.{◌≡◌, ap, ◌∙◌}
use Rattle.format.specs.Refusals.{write_answer, write_numbers, output_by, output_after}
use Rattle.format.specs.Rewriting.{encode}
use Rattle.format.specs.Tables.{ClipTables, clip_in, stated}
use Rattle.clip_information.specs.Read.{scalars_by}
use Rattle.queries.specs.Asked.{tables_with}
use Rattle.encode.proofs.Answers.{narrow_by_answer}
use Rattle.clpi.proofs.writing.clpi_write.Goals as goal

pub writing_of-requires : goal.writing_of-requires
writing_of-requires c =
    let a = c.args in
    let given : ClipTables =
    tables_with (scalars_by a.info)
    (stated c.table-atcs.result.bytes.now c.table-atcs.result.rows)
    (stated c.table-stcs.result.bytes.now c.table-stcs.result.rows)
    (stated c.table-programs.result.bytes.now c.table-programs.result.rows)
    (stated c.table-streams.result.bytes.now c.table-streams.result.rows)
    (stated c.table-maps.result.bytes.now c.table-maps.result.rows)
    (stated c.table-entries.result.bytes.now c.table-entries.result.rows) in
    narrow_by_answer given a.output.now c.write.ensures.result_value

pub returns : goal.returns
unfolding output_after
returns c =
    let a = c.args in
    let given : ClipTables =
    tables_with (scalars_by a.info)
    (stated c.table-atcs.result.bytes.now c.table-atcs.result.rows)
    (stated c.table-stcs.result.bytes.now c.table-stcs.result.rows)
    (stated c.table-programs.result.bytes.now c.table-programs.result.rows)
    (stated c.table-streams.result.bytes.now c.table-streams.result.rows)
    (stated c.table-maps.result.bytes.now c.table-maps.result.rows)
    (stated c.table-entries.result.bytes.now c.table-entries.result.rows) in
    let wanted : ClipTables =
    tables_with (scalars_by a.info) (stated a.atcs.now a.atc_rows) (stated a.stcs.now a.stc_rows) (stated a.programs.now a.program_rows) (stated a.streams.now a.stream_rows)
    (stated a.maps.now a.map_rows) (stated a.entries.now a.entry_rows) in
    let same : given ≡ wanted =
    rw (
      c.table-atcs.ensures.bytes_are,
      c.table-atcs.ensures.rows_are,
      c.table-stcs.ensures.bytes_are,
      c.table-stcs.ensures.rows_are,
      c.table-programs.ensures.bytes_are,
      c.table-programs.ensures.rows_are,
      c.table-streams.ensures.bytes_are,
      c.table-streams.ensures.rows_are,
      c.table-maps.ensures.bytes_are,
      c.table-maps.ensures.rows_are,
      c.table-entries.ensures.bytes_are,
      c.table-entries.ensures.rows_are,
    ) in
    let e = c.write.ensures in
    record {
      result_value = c.writing_of.ensures ∙ ap write_numbers e.result_value ∙ ap (λ (t : ClipTables). write_numbers (write_answer t a.output.now)) same;
      output_after =
          e.out_after ∙ ap (λ x. output_by x (encode (clip_in given)) a.output.now) e.result_value
          ∙ ap (λ (t : ClipTables). output_by (write_answer t a.output.now) (encode (clip_in t)) a.output.now) same;
    }
