-- The four fields are stored one behind the other.
use Prim.Native.Nat.{◌+◌}
use mathlib.Core.Path.{refl, sym}
use native.Mathlib.Nat.{add_assoc}
use lib.ListN.{get_or}
use Rattle.format.proofs.Stores.{field_then, field_last}
use Rattle.row_bytes.proofs.put_stream_head.Goals as goal

pub returns : goal.returns
returns c =
    let a = c.args in
    field_then a.out.now a.at 2 (get_or a.row 0 0) _ refl c.put_u32.ensures
    (field_then _ (a.at + 2) 1 a.size _ (sym (add_assoc a.at 2 1)) c.put_u32-2.ensures
    (field_then _ (a.at + 3) 1 (get_or a.row 1 0) _ (sym (add_assoc a.at 3 1)) c.put_u32-3.ensures
    (field_last _ (a.at + 4) 1 (get_or a.row 2 0) c.put_u32-4.ensures)))
