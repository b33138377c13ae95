-- The header row is stored, and its own rows behind it.
use mathlib.Core.List.{List}
use Prim.Native.Nat.{ℕ}
use Rattle.row_values.specs.Kinds.{row_of, bytes_by}
use Rattle.row_bytes.proofs.Storing.{first_room, second_room, both_stored}
use Rattle.encode_rows.specs.Rows.{rows_bytes}
use Rattle.encode_sections.specs.Sections.{head_kind, row_kind, count_of}
use Rattle.encode_sections.proofs.put_group.Goals as goal

pub put_row-behind-requires : goal.put_row-behind-requires
put_row-behind-requires c =
    let a = c.args in
    let head : List ℕ = bytes_by (head_kind a.section) (row_of (head_kind a.section) a.head) in
    let own : List ℕ = rows_bytes (row_kind a.section) a.rows.now a.q (count_of a.section (row_of (head_kind a.section) a.head)) in
    rw c.head_kind.ensures (first_room c.args.out.now head own c.args.at c.requires.room)

pub put_rows-requires : goal.put_rows-requires
put_rows-requires c =
    let a = c.args in
    let head : List ℕ = bytes_by (head_kind a.section) (row_of (head_kind a.section) a.head) in
    let own : List ℕ = rows_bytes (row_kind a.section) a.rows.now a.q (count_of a.section (row_of (head_kind a.section) a.head)) in
    let put = rw c.head_kind.ensures at c.put_row-behind.ensures in
    rw (c.row_kind.ensures, c.own_count.ensures) (c.requires.rows_end, second_room c.args.out.now head own c.args.at c.requires.room put.value put.out_after)

pub returns : goal.returns
returns c =
    let a = c.args in
    let head : List ℕ = bytes_by (head_kind a.section) (row_of (head_kind a.section) a.head) in
    let own : List ℕ = rows_bytes (row_kind a.section) a.rows.now a.q (count_of a.section (row_of (head_kind a.section) a.head)) in
    let put = rw c.head_kind.ensures at c.put_row-behind.ensures in
    let rest = rw (c.row_kind.ensures, c.own_count.ensures) at c.put_rows.ensures in
    let both = both_stored c.args.out.now head own c.args.at c.requires.room put.value put.out_after (rest.value, rest.out_after) in
    record { value = both.0; out_after = both.1 }
