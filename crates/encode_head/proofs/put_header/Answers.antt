-- The fields one behind the other.
use mathlib.Core.Path.{refl}
use Rattle.format.proofs.Stores.{field_then, field_last}
use Rattle.encode_head.proofs.put_header.Goals as goal

pub returns : goal.returns
returns c =
    let a = c.args in
    field_then a.out.now 0 4 a.letters _ refl c.put_u32.ensures
    (field_then _ 4 4 a.version _ refl c.put_u32-2.ensures
    (field_then _ 8 4 220 _ refl c.put_u32-3.ensures
    (field_then _ 12 4 a.programs _ refl c.put_u32-4.ensures
    (field_then _ 16 4 a.cpi _ refl c.put_u32-5.ensures
    (field_then _ 20 4 a.marks _ refl c.put_u32-6.ensures
    (field_then _ 24 4 0 _ refl c.put_u32-7.ensures
    (field_last _ 28 12 0 c.put_zeros.ensures)))))))
