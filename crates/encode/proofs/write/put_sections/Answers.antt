-- The sections one behind the other; each store keeps the output's length.
use mathlib.Core.Path.{◌∙◌}
use native.Mathlib.Omega.{arith}
use lib.ListN.{length}
use Rattle.format.specs.Tables.{clip_in}
use Rattle.clip_information.specs.Read.{scalars_by}
use Rattle.limits.specs.Stated.{stated_tables}
use Rattle.encode_measure.proofs.Parts.{InOrder, placed_stored, stored_as}
use Rattle.encode_measure.proofs.Tables.{in_order, ready_kept, sequences_storable, programs_storable, cpi_storable, sequences_in, programs_in, cpi_in_lem}
use Rattle.encode.proofs.write.put_sections.Goals as goal
use Rattle.encode.proofs.write.put_sections.Goals.{Start}

-- the places are in order
order : (c : Start) → let at = c.args.places in InOrder at.programs at.cpi at.marks (length c.args.out.now)
order c = in_order (stated_tables (scalars_by c.args.info) c.args.tables) c.requires

pub overflow_cast-places : goal.overflow_cast-places
overflow_cast-places c = let o = order (goal.at.overflow_cast-places c).Start in record { fits = omega arith }

pub overflow_cast-places-2 : goal.overflow_cast-places-2
overflow_cast-places-2 c = let o = order (goal.at.overflow_cast-places-2 c).Start in record { fits = omega arith }

pub overflow_cast-places-3 : goal.overflow_cast-places-3
overflow_cast-places-3 c = let o = order (goal.at.overflow_cast-places-3 c).Start in record { fits = omega arith }

pub put_head-requires : goal.put_head-requires
put_head-requires c = let o = order (goal.at.put_head-requires c).Start in omega arith

pub overflow_sub-places : goal.overflow_sub-places
overflow_sub-places c = (order (goal.at.overflow_sub-places c).Start).head

pub put_section-requires : goal.put_section-requires
put_section-requires c =
    let l = stated_tables (scalars_by c.args.info) c.args.tables in
    sequences_storable l c.args.places _ (ready_kept l c.put_head.auto.out c.requires)

pub overflow_sub-places-2 : goal.overflow_sub-places-2
overflow_sub-places-2 c = (order (goal.at.overflow_sub-places-2 c).Start).sequences

pub put_section-requires-2 : goal.put_section-requires-2
put_section-requires-2 c =
    let l = stated_tables (scalars_by c.args.info) c.args.tables in
    programs_storable l c.args.places _ (ready_kept l (c.put_section.auto.out ∙ c.put_head.auto.out) c.requires)

pub overflow_sub-places-3 : goal.overflow_sub-places-3
overflow_sub-places-3 c = (order (goal.at.overflow_sub-places-3 c).Start).programs_end_lem

pub put_cpi-requires : goal.put_cpi-requires
put_cpi-requires c =
    let l = stated_tables (scalars_by c.args.info) c.args.tables in
    cpi_storable l c.args.places _ (ready_kept l (c.put_section-2.auto.out ∙ c.put_section.auto.out ∙ c.put_head.auto.out) c.requires)

pub put_marks-requires : goal.put_marks-requires
put_marks-requires c =
    let l = stated_tables (scalars_by c.args.info) c.args.tables in
    (in_order l (ready_kept l (c.put_cpi.auto.out ∙ c.put_section-2.auto.out ∙ c.put_section.auto.out ∙ c.put_head.auto.out) c.requires)).room

pub returns : goal.returns
unfolding clip_in
returns c =
    let l = stated_tables (scalars_by c.args.info) c.args.tables in
    let at = c.args.places in
    placed_stored (clip_in l) c.requires.placed c.args.out.now c.put_head.ensures (stored_as _ 220 c.put_section.ensures.out_after (sequences_in l))
    (stored_as _ at.programs c.put_section-2.ensures.out_after (programs_in l)) (stored_as _ at.cpi c.put_cpi.ensures.out_after (cpi_in_lem l)) c.put_marks.ensures
