-- Two fields.
use Prim.Native.Nat.{◌+◌}
use mathlib.Core.Path.{refl}
use Rattle.format.proofs.Stores.{field_then, field_last}
use Rattle.section_heads.proofs.put_marks.Goals as goal

pub returns : goal.returns
returns c =
    let a = c.args in
    field_then a.out.now a.at 4 2 _ refl c.put_u32.ensures
    (field_last _ (a.at + 4) 2 0 c.put_u32-2.ensures)
