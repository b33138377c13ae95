-- The sections one behind the other; each store keeps the output's length.
use Prim.Native.Nat.{ℕ, ◌≤◌}
use mathlib.Core.Path.{◌∙◌}
use mathlib.Core.List.{List}
use native.Mathlib.Omega.{arith}
use lib.ListN.{length}
use Rattle.format.specs.Bytes.{IsBytes}
use Rattle.format.specs.Reading.{clip_of}
use Rattle.clip_sections.proofs.Laws.{accepted_bounds}
use Rattle.encode_measure.proofs.Parts.{InOrder, placed_stored, stored_as}
use Rattle.rewrite.proofs.Rooms.{accepted, in_order, sequences_room, programs_room, cpi_room, head_in, sequences_in, programs_in, cpi_in_lem}
use Rattle.rewrite.proofs.rewrite.put_sections.Goals as goal

pub read-starts-requires : goal.read-starts-requires
read-starts-requires c =
    let F : List ℕ = c.args.file.now in
    let is-bytes : IsBytes F = (λ i. (c.type_inv.file i).fits) in
    let long : 194 ≤ length F = (accepted_bounds F (accepted F is-bytes c.requires)).1 in omega (arith, long)

pub clip_info-requires : goal.clip_info-requires
clip_info-requires c =
    let F : List ℕ = c.args.file.now in
    let is-bytes : IsBytes F = (λ i. (c.type_inv.file i).fits) in
    let long : 194 ≤ length F = (accepted_bounds F (accepted F is-bytes c.requires)).1 in long

pub overflow_cast-plan : goal.overflow_cast-plan
overflow_cast-plan c =
    let F : List ℕ = c.args.file.now in
    let is-bytes : IsBytes F = (λ i. (c.type_inv.file i).fits) in
    let order : InOrder c.args.plan.places.programs c.args.plan.places.cpi c.args.plan.places.marks (length c.args.out.now) = in_order F is-bytes c.requires in record { fits = omega (arith, order) }

pub overflow_cast-plan-2 : goal.overflow_cast-plan-2
overflow_cast-plan-2 c =
    let F : List ℕ = c.args.file.now in
    let is-bytes : IsBytes F = (λ i. (c.type_inv.file i).fits) in
    let order : InOrder c.args.plan.places.programs c.args.plan.places.cpi c.args.plan.places.marks (length c.args.out.now) = in_order F is-bytes c.requires in record { fits = omega (arith, order) }

pub overflow_cast-plan-3 : goal.overflow_cast-plan-3
overflow_cast-plan-3 c =
    let F : List ℕ = c.args.file.now in
    let is-bytes : IsBytes F = (λ i. (c.type_inv.file i).fits) in
    let order : InOrder c.args.plan.places.programs c.args.plan.places.cpi c.args.plan.places.marks (length c.args.out.now) = in_order F is-bytes c.requires in record { fits = omega (arith, order) }

pub put_head-requires : goal.put_head-requires
put_head-requires c =
    let F : List ℕ = c.args.file.now in
    let is-bytes : IsBytes F = (λ i. (c.type_inv.file i).fits) in
    let order : InOrder c.args.plan.places.programs c.args.plan.places.cpi c.args.plan.places.marks (length c.args.out.now) = in_order F is-bytes c.requires in omega (arith, order)

pub put_sequences-requires : goal.put_sequences-requires
put_sequences-requires c =
    let F : List ℕ = c.args.file.now in
    let is-bytes : IsBytes F = (λ i. (c.type_inv.file i).fits) in
    sequences_room F is-bytes c.requires _ c.read-starts.ensures.sequences c.put_head.auto.out

pub overflow_sub-plan : goal.overflow_sub-plan
overflow_sub-plan c =
    let F : List ℕ = c.args.file.now in
    let is-bytes : IsBytes F = (λ i. (c.type_inv.file i).fits) in
    let order : InOrder c.args.plan.places.programs c.args.plan.places.cpi c.args.plan.places.marks (length c.args.out.now) = in_order F is-bytes c.requires in
    order.sequences

pub put_programs-requires : goal.put_programs-requires
put_programs-requires c =
    let F : List ℕ = c.args.file.now in
    let is-bytes : IsBytes F = (λ i. (c.type_inv.file i).fits) in
    programs_room F is-bytes c.requires _ c.read-starts.ensures.programs (c.put_sequences.auto.out ∙ c.put_head.auto.out)

pub overflow_sub-plan-2 : goal.overflow_sub-plan-2
overflow_sub-plan-2 c =
    let F : List ℕ = c.args.file.now in
    let is-bytes : IsBytes F = (λ i. (c.type_inv.file i).fits) in
    let order : InOrder c.args.plan.places.programs c.args.plan.places.cpi c.args.plan.places.marks (length c.args.out.now) = in_order F is-bytes c.requires in
    order.programs_end_lem

pub put_cpi-requires : goal.put_cpi-requires
put_cpi-requires c =
    let F : List ℕ = c.args.file.now in
    let is-bytes : IsBytes F = (λ i. (c.type_inv.file i).fits) in
    cpi_room F is-bytes c.requires _ c.read-starts.ensures.cpi (c.put_programs.auto.out ∙ c.put_sequences.auto.out ∙ c.put_head.auto.out)

pub put_marks-requires : goal.put_marks-requires
put_marks-requires c =
    let F : List ℕ = c.args.file.now in
    let is-bytes : IsBytes F = (λ i. (c.type_inv.file i).fits) in
    let order : InOrder c.args.plan.places.programs c.args.plan.places.cpi c.args.plan.places.marks (length c.args.out.now) = in_order F is-bytes c.requires in
    let same = c.put_cpi.auto.out ∙ c.put_programs.auto.out ∙ c.put_sequences.auto.out ∙ c.put_head.auto.out in
    omega (arith, same, order.room)

pub returns : goal.returns
unfolding clip_of
returns c =
    let F : List ℕ = c.args.file.now in
    let f = F in
    let at = c.read-starts.ensures in
    placed_stored (clip_of f) c.requires.placed c.args.out.now (stored_as _ 0 c.put_head.ensures (head_in f _ _ _ c.clip_info.ensures)) (stored_as _ 220 c.put_sequences.ensures.out_after (sequences_in f at.sequences))
    (stored_as _ c.args.plan.places.programs c.put_programs.ensures.out_after (programs_in f at.programs)) (stored_as _ c.args.plan.places.cpi c.put_cpi.ensures.out_after (cpi_in_lem f at.cpi)) c.put_marks.ensures
