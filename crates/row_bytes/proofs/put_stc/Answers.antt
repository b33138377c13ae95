-- The four fields are stored one behind the other.
use Prim.Native.Nat.{◌+◌}
use mathlib.Core.Path.{refl, sym}
use native.Mathlib.Nat.{add_assoc}
use lib.ListN.{get_or}
use Rattle.format.proofs.Stores.{field_then, field_last}
use Rattle.row_bytes.proofs.put_stc.Goals as goal

pub returns : goal.returns
returns c =
    let a = c.args in record {
      value = refl;
      out_after = field_then a.out.now a.at 2 (get_or a.row 0 0) _ refl c.put_u32.ensures
          (field_then _ (a.at + 2) 4 (get_or a.row 1 0) _ (sym (add_assoc a.at 2 4)) c.put_u32-2.ensures
          (field_then _ (a.at + 6) 4 (get_or a.row 2 0) _ (sym (add_assoc a.at 6 4)) c.put_u32-3.ensures
          (field_last _ (a.at + 10) 4 (get_or a.row 3 0) c.put_u32-4.ensures)));
    }
