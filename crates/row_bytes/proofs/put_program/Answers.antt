-- The three fields are stored one behind the other, and the spare byte behind them.
use Prim.Native.Nat.{◌+◌}
use mathlib.Core.Path.{refl, sym}
use mathlib.Core.List.{[], ◌∷◌}
use native.Mathlib.Nat.{add_assoc}
use lib.ListN.{get_or}
use Rattle.format.specs.Bytes.{bytes_of, field_bytes}
use Rattle.row_values.specs.Kinds.{row3}
use Rattle.format.proofs.Stores.{part_then, field_then, field_last}
use Rattle.row_bytes.proofs.Fields.{program_fields}
use Rattle.row_bytes.proofs.put_program.Goals as goal

pub returns : goal.returns
returns c =
    let a = c.args in
    let r = a.row in record {
      value = refl;
      out_after = part_then a.out.now a.at 7 (field_bytes (4 ∷ 2 ∷ 1 ∷ []) (row3 r)) (bytes_of 1 0) (program_fields (get_or r 0 0) (get_or r 1 0) (get_or r 2 0)) refl
          (field_then a.out.now a.at 4 (get_or r 0 0) _ refl c.put_u32.ensures
          (field_then _ (a.at + 4) 2 (get_or r 1 0) _ (sym (add_assoc a.at 4 2)) c.put_u32-2.ensures
          (field_last _ (a.at + 6) 1 (get_or r 2 0) c.put_u32-3.ensures))) c.put_u32-4.ensures;
    }
