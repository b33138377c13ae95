-- Each field is where document 01 has it.
use Rattle.clip_sections.proofs.InfoLaws.{info_read}
use Rattle.clip_sections.proofs.info.clip_info.Goals as goal

pub returns : goal.returns
returns c =
    info_read c.args.file.now c.read-header.ensures.letters c.read-header.ensures.version c.u32_at.ensures.same c.u32_at-2.ensures.same c.u32_at-3.ensures.same
    c.u32_at-4.ensures.same c.u32_at-5.ensures.same c.u32_at-6.ensures.same
