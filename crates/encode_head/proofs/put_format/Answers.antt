-- The fields one behind the other.
use mathlib.Core.Path.{refl}
use Rattle.format.proofs.Stores.{field_then, field_last}
use Rattle.encode_head.proofs.put_format.Goals as goal

pub returns : goal.returns
returns c =
    let a = c.args in
    field_then a.out.now 188 1 a.info.validity_flags _ refl c.put_u32.ensures
    (field_then _ 189 1 0 _ refl c.put_u32-2.ensures
    (field_then _ 190 4 a.info.format_id _ refl c.put_u32-3.ensures
    (field_last _ 194 26 0 c.put_zeros.ensures)))
