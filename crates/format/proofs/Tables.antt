-- Lent tables: rows that were put into a table are the rows that it holds, whatever stands beyond them.
use Prim.Native.Nat.{ℕ, suc, ◌+◌, ◌*◌, ◌^◌, ◌<◌, ◌≤◌}
use mathlib.Core.Path.{◌≡◌, refl, sym, ap, ◌∙◌}
use mathlib.Core.List.{List, [], ◌++◌}
use native.Mathlib.Nat.{mul_comm, le-div_iff_mul-le, le_trans}
use native.Mathlib.Omega.{arith}
use lib.ListN.{length, length-append}
use lib.Pow.{pow_mono}
use Rattle.format.specs.Bytes.{rows_at}
use Rattle.format.specs.ClipRecord.{Row}
use Rattle.format.specs.Tables.{cell_at, cell_bytes, row_bytes_of, table_bytes, cells_at, table_rows_of, row_room}
use Rattle.format.proofs.Lists.{All, none, more, all_map}
use Rattle.format.proofs.Fields.{Fit, one}
use Rattle.format.proofs.Numbers.{Stands}
use Rattle.format.proofs.Cells.{low_length, low_back}
use Rattle.format.proofs.Rows.{as_is, map_as_is, rows_back, rows_length}
use Rattle.format.proofs.Sweep.{row_bytes_lem, table_bytes_lem}

-- a row of so many cells, each of 32 bits
pub record Cells (cells : ℕ) (row : Row) : Type 0 where
  pub count : length row ≡ cells
  pub narrow : All (λ v. v < 2 ^ 32) row

-- a row that fits fields of at most 32 bits each
pub fit_cells : {ws vs : List ℕ} → All (λ w. w ≤ 32) ws → Fit ws vs → Cells (length ws) vs
fit_cells none Fit.none = record { count = refl; narrow = none }
fit_cells (more {x = w} h hs) (one {v = v} k f) =
    let r = fit_cells hs f in
    let b : v < 2 ^ 32 = le_trans k (pow_mono h) in
    record { count = ap suc r.count; narrow = more b r.narrow }

-- a row reads back, and so do rows one behind the other
row_back : (t : List ℕ) (cells p : ℕ) (row : Row) → Cells cells row → Stands t p (row_bytes_of row)
    → (cells_at t cells p ≡ as_is row) × (p + 4 * cells ≡ p + length (row_bytes_of row))
row_back t cells p row c st =
    let r = rows_back t (cell_at t) (λ q. q + 4) cell_bytes as_is (λ v. v < 2 ^ 32)
    (λ q v h s. (low_back 4 v s h, ap (λ (n : ℕ). q + n) (sym (low_length 4 v)))) c.narrow p st in
    let e : rows_at (cell_at t) (λ q. q + 4) p cells ≡ row = rw c.count at r.0 ∙ map_as_is row in
    (e, ap (λ (n : ℕ). p + n) (sym (row_bytes_lem row ∙ ap (λ (m : ℕ). 4 * m) c.count)))

-- rows put at the front of a table are read back from it, whatever stands beyond them
pub table_back : (cells : ℕ) {rows : List Row} → All (Cells cells) rows → (beyond : List ℕ) → table_rows_of cells (table_bytes rows ++ beyond) (length rows) ≡ rows
unfolding table_rows_of
table_back cells {rows} h beyond =
    let t = table_bytes rows ++ beyond in
    let st : Stands t 0 (table_bytes rows) = record { before = []; behind = beyond; place = refl; whole = refl } in
    let r = rows_back t (cells_at t cells) (λ p. p + 4 * cells) row_bytes_of as_is (Cells cells) (row_back t cells) h 0 st in
    r.0 ∙ map_as_is rows

-- a table has as many rows as are asked of it
pub rows_stated : (cells : ℕ) (t : List ℕ) (n : ℕ) → length (table_rows_of cells t n) ≡ n
unfolding table_rows_of
rows_stated cells t n = rows_length (cells_at t cells) (λ p. p + 4 * cells) 0 n

-- there is room for what stands there
pub table_room : (cells : ℕ) {rows : List Row} → 0 < cells → All (Cells cells) rows → (beyond : List ℕ)
    → length rows ≤ row_room cells (table_bytes rows ++ beyond)
table_room cells {rows} pos h beyond =
    let l = table_bytes_lem cells (all_map (λ row c. c.count) h) in
    let e = length-append (table_bytes rows) beyond in
    let c = mul_comm (4 * cells) (length rows) in
    let some : 0 < 4 * cells = omega arith in
    (le-div_iff_mul-le some).1 (omega arith)
