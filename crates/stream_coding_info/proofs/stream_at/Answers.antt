-- The cells are those of the definition, one by one.
use Rattle.stream_coding_info.proofs.Laws.{stream_is}
use Rattle.stream_coding_info.proofs.stream_at.Goals as goal

pub returns : goal.returns
returns c =
    let a = c.args in
    stream_is a.file.now a.p c.requires c.u32_at.ensures.same c.u32_at-size.ensures.same c.body_byte-coding.ensures c.body_byte.ensures
    c.is_video-video.ensures c.aspect.ensures c.language.ensures
