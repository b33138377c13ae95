-- Each pair of tables is filled by its section, from where the header says that it stands.
use native.Mathlib.Omega.{arith}
use Rattle.format.specs.ClipRecord.{atcs_from, stcs_from}
use Rattle.format.specs.Programs.{programs_from, streams_from}
use Rattle.format.specs.EntryPoints.{maps_from, entries_from}
use Rattle.format.specs.Reading.{clip_of}
use Rattle.clip_sections.proofs.Laws.{accepted_bounds}
use Rattle.clip_information.proofs.FillLaws.{sequences_fillable, programs_fillable, maps_fillable, filled_from}
use Rattle.clip_information.proofs.fill.fill_sections.Goals as goal

pub read-starts-requires : goal.read-starts-requires
read-starts-requires c = omega (arith, accepted_bounds c.args.file.now c.requires.accepts)

pub fill-requires : goal.fill-requires
fill-requires c =
    sequences_fillable c.args.file.now c.requires c.read-starts.ensures.sequences

pub fill-requires-2 : goal.fill-requires-2
fill-requires-2 c =
    programs_fillable c.args.file.now c.requires c.read-starts.ensures.programs

pub fill-requires-3 : goal.fill-requires-3
fill-requires-3 c =
    maps_fillable c.args.file.now c.requires c.read-starts.ensures.cpi

pub returns : goal.returns
unfolding clip_of
returns c =
    let t = c.args in
    let f = t.file.now in
    let at = c.read-starts.ensures in record { atcs_after = filled_from (atcs_from f) t.atcs.now at.sequences c.fill.ensures.heads_after; stcs_after = filled_from (stcs_from f) t.stcs.now at.sequences c.fill.ensures.rows_after; programs_after = filled_from (programs_from f) t.programs.now at.programs c.fill-2.ensures.heads_after; streams_after = filled_from (streams_from f) t.streams.now at.programs c.fill-2.ensures.rows_after; maps_after = filled_from (maps_from f) t.maps.now at.cpi c.fill-3.ensures.maps_after; entries_after = filled_from (entries_from f) t.entries.now at.cpi c.fill-3.ensures.entries_after }
