-- The header, then ClipInfo behind it.
use Rattle.clip_information.specs.Read.{scalars_by}
use Rattle.encode_head.proofs.Laws.{head_stored}
use Rattle.encode_head.proofs.put_head.Goals as goal

pub returns : goal.returns
returns c =
    let a = c.args in
    head_stored (scalars_by a.info) a.programs a.cpi a.marks a.out.now c.put_header.ensures c.put_clip_info.ensures
