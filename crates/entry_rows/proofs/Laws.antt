-- An entry's row by its numbers, and the entries of one map, row by row.
use Prim.Native.Nat.{ℕ, ◌+◌, ◌*◌, ◌<◌}
use mathlib.Core.Path.{◌≡◌, sym}
use mathlib.Core.List.{List, []}
use lib.ListN.{length, get_or}
use Rattle.format.specs.ClipRecord.{entry_row, angle, i_end_of, packet, entry_type_of, entry_cells, entry_size}
use Rattle.format.specs.Tables.{cells_at}
use Rattle.format.proofs.Cell.{item_at}
use Rattle.format.proofs.Rows.{rows_length}
use Rattle.entry_rows.specs.Entries.{entries_at}
use Rattle.entry_rows.specs.Reads.{EntryHas, TimeIs}

-- the numbers of an entry are its row
pub entry_whole : (t : List ℕ) (q : ℕ) {a i c p y : ℕ} → EntryHas angle 32 t q a → EntryHas i_end_of 32 t q i → TimeIs t q c → EntryHas packet 32 t q p → EntryHas entry_type_of 32 t q y
    → entry_row a i c p y ≡ cells_at t entry_cells q
entry_whole t q a i c p y = rw (a.same, i.same, c.lower, c.upper, p.same, y.same)

-- there are as many entries as are counted
pub entries_length : (t : List ℕ) (p n : ℕ) → length (entries_at t p n) ≡ n
entries_length t p n = rows_length (cells_at t entry_cells) (λ q. q + entry_size) p n

-- entry k stands k places behind the first
pub entry_is : (t : List ℕ) (p n k : ℕ) → k < n → cells_at t entry_cells (p + entry_size * k) ≡ get_or (entries_at t p n) k []
entry_is t p n k h = sym (item_at (cells_at t entry_cells) [] entry_size p n k h)
