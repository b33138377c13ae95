-- Without a list both tables are left; the list is filled from its data as a file of its own.
use Rattle.clip_information.proofs.FillLaws.{no_list, list_fillable, programs_put, streams_put, filled_as}
use Rattle.clip_information.proofs.fill.fill_list.Goals as goal

pub fill-requires : goal.fill-requires
fill-requires c = list_fillable c.args.file.now c.in-Some.data (rw c.in-Some.is at c.requires)

pub returns-in-Some : goal.returns-in-Some
returns-in-Some c =
    let a = c.args in
    let fits = rw c.in-Some.is at c.requires in
    record {
      programs_after = filled_as a.programs.now (programs_put a.file.now c.in-Some.data fits) c.fill.ensures.heads_after;
      streams_after = filled_as a.streams.now (streams_put a.file.now c.in-Some.data fits) c.fill.ensures.rows_after;
    }

pub returns-in_default : goal.returns-in_default
returns-in_default c =
    let left = no_list c.args.file.now (rw c.in_default.is at c.requires) in
    record { programs_after = left.0; streams_after = left.1 }
