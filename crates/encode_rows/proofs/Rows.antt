-- Rows of a table, of any kind, one behind the other: where they stand.
use Prim.Native.Nat.{ℕ, ◌+◌, ◌*◌, ◌<◌, ◌≤◌}
use mathlib.Core.Path.{◌≡◌, ap, ◌∙◌}
use mathlib.Core.List.{List}
use native.Mathlib.Nat.{mul_comm}
use native.Mathlib.Omega.{arith}
use lib.ListN.{length}
use Rattle.format.specs.Bytes.{end_of}
use Rattle.format.specs.ClipRecord.{Row}
use Rattle.format.specs.Tables.{row_room}
use Rattle.format.proofs.Cell.{rows_room}
use Rattle.format.proofs.Loops.{end_ge}
use Rattle.format.proofs.Sweep.{end_steps, Along, along_first, along_turn, along_within}
use Rattle.row_values.specs.declared.RowKind.{RowKind}
use Rattle.row_values.specs.Kinds.{cells_of, row_of, bytes_by}
use Rattle.row_values.proofs.Lengths.{row_short}
use Rattle.encode_rows.specs.Rows.{step_of}

-- the next row is not before this one
pub step_up : (kind : RowKind) (p : ℕ) → p ≤ step_of kind p
step_up kind p = omega arith

-- rows that a table has room for end inside it
pub rows_inside : (kind : RowKind) (t : List ℕ) (n : ℕ) → n ≤ row_room (cells_of kind) t → end_of (step_of kind) 0 n ≤ length t
rows_inside kind t n h =
    let e = end_steps (4 * cells_of kind) 0 n in
    let c = mul_comm n (4 * cells_of kind) in
    omega (arith, rows_room (cells_of kind) t h)

-- a pass over rows that end inside begins inside
pub pass_first : (kind : RowKind) (t : List ℕ) (p n : ℕ) → end_of (step_of kind) p n ≤ length t → Along (step_of kind) (length t) p n p 0
pass_first kind t p n h = along_first (step_of kind) (omega (arith, end_ge (step_of kind) (step_up kind) p n))

module _ (kind : RowKind) {len p₀ n p k : ℕ} (a : Along (step_of kind) len p₀ n p k) (h : k < n) (ends : end_of (step_of kind) p₀ n ≤ len) where
  -- its next row is inside
  pub row_inside : p + 4 * cells_of kind ≤ len
  row_inside = along_within a (step_up kind) h ends

  -- and it goes on behind that row
  pub pass_turn : {q : ℕ} → q ≡ step_of kind p → Along (step_of kind) len p₀ n q (k + 1)
  pass_turn e = along_turn a h e (omega (arith, e, row_inside))

-- what was read by value is the row of the table
module _ (kind : RowKind) (r : List ℕ) {row : Row} (is : row_of kind r ≡ row) where
  -- its bytes
  pub same_bytes_lem : bytes_by kind (row_of kind r) ≡ bytes_by kind row
  same_bytes_lem = ap (bytes_by kind) is

  -- their number
  pub same_length : {v : ℕ} → v ≡ length (bytes_by kind (row_of kind r)) → v ≡ length (bytes_by kind row)
  same_length e = e ∙ ap length same_bytes_lem

  -- at most 14
  pub few_bytes : {v : ℕ} → v ≡ length (bytes_by kind (row_of kind r)) → v ≤ 14
  few_bytes e = omega (arith, e, row_short kind r)
