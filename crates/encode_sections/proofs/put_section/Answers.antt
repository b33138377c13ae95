-- The six bytes are stored, and the header rows with their rows behind them.
use Prim.Native.Nat.{ℕ, ◌+◌, ◌-◌}
use mathlib.Core.Path.{◌≡◌, sym, ap}
use mathlib.Core.List.{List, ◌++◌}
use native.Mathlib.Omega.{arith}
use lib.ListN.{length}
use lib.Seq.{sets}
use Rattle.section_heads.proofs.Stored.{section_head, section_head_lem}
use Rattle.row_bytes.proofs.Storing.{first_room, second_room, both_stored}
use Rattle.encode_sections.specs.Sections.{items_in}
use Rattle.encode_sections.proofs.Sections.{items_long, section_parts, parts_room}
use Rattle.encode_sections.proofs.put_section.Goals as goal

pub overflow_sub-len : goal.overflow_sub-len
overflow_sub-len c = omega (arith, items_long c.requires)

pub put_head-requires : goal.put_head-requires
put_head-requires c =
    let a = c.args in
    let head : List ℕ = section_head (a.len - 4) a.heads.rows in
    let items : List ℕ = items_in a.section a.heads.bytes.now a.heads.rows a.rows.bytes.now in
    let behind-head : a.at + 6 ≡ a.at + length head = ap (λ (w : ℕ). a.at + w) (sym (section_head_lem (a.len - 4) a.heads.rows)) in
    rw behind-head (first_room c.args.out.now head items c.args.at (parts_room c.requires))

pub put_groups-requires : goal.put_groups-requires
put_groups-requires c =
    let a = c.args in
    let head : List ℕ = section_head (a.len - 4) a.heads.rows in
    let items : List ℕ = items_in a.section a.heads.bytes.now a.heads.rows a.rows.bytes.now in
    let behind-head : a.at + 6 ≡ a.at + length head = ap (λ (w : ℕ). a.at + w) (sym (section_head_lem (a.len - 4) a.heads.rows)) in
    record {
      heads_there = c.requires.counted.heads_there;
      rows_there = rw c.requires.counted.adds c.requires.counted.rows_there;
      room = second_room c.args.out.now head items c.args.at (parts_room c.requires) behind-head c.put_head.ensures;
    }

pub returns : goal.returns
returns c =
    let a = c.args in
    let head : List ℕ = section_head (a.len - 4) a.heads.rows in
    let items : List ℕ = items_in a.section a.heads.bytes.now a.heads.rows a.rows.bytes.now in
    let behind-head : a.at + 6 ≡ a.at + length head = ap (λ (w : ℕ). a.at + w) (sym (section_head_lem (a.len - 4) a.heads.rows)) in
    let rest = c.put_groups.ensures in
    let both : (c.put_groups.result ≡ a.at + length (head ++ items)) × (c.put_groups.new.out ≡ sets a.out.now a.at (head ++ items)) = both_stored a.out.now head items a.at (parts_room c.requires) behind-head c.put_head.ensures (rest.value, rest.out_after) in
    let all = rw (section_parts c.requires) at both in
    record { value = all.0; out_after = all.1 }
