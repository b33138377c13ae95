-- The three fields are stored one behind the other.
use Prim.Native.Nat.{◌+◌}
use mathlib.Core.Path.{refl, sym}
use native.Mathlib.Nat.{add_assoc}
use Rattle.format.proofs.Stores.{field_then, field_last}
use Rattle.section_heads.proofs.put_head.Goals as goal

pub returns : goal.returns
returns c =
    let a = c.args in
    field_then a.out.now a.at 4 a.size _ refl c.put_u32.ensures
    (field_then _ (a.at + 4) 1 0 _ (sym (add_assoc a.at 4 1)) c.put_u32-2.ensures
    (field_last _ (a.at + 5) 1 a.n c.put_u32-3.ensures))
