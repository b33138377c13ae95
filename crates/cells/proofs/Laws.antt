-- A cell's four bytes read and stored, and rows of cells.
use Prim.Native.Nat.{ℕ, ◌+◌, ◌*◌, ◌/◌, ◌%◌, ◌<◌}
use mathlib.Core.Path.{◌≡◌, refl, ap, ◌∙◌}
use mathlib.Core.List.{List, [], ◌∷◌, ◌++◌, append-nil}
use native.Mathlib.Nat.{add-zero}
use native.Mathlib.Numerals.{add-one}
use native.Mathlib.Omega.{arith}
use lib.ListN.{length, get_or, take}
use lib.Seq.{sets, take-suc, length-take-le}
use Rattle.format.specs.ClipRecord.{Row}
use Rattle.format.specs.Tables.{low_at, low_bytes, cell_at, cell_bytes, row_bytes_of}
use Rattle.format.proofs.Loops.{flat_append}
use Rattle.format.proofs.Stores.{part_then}
use Rattle.format.proofs.Sweep.{row_bytes_lem}

-- a cell's four bytes, lowest first
pub cell_sum : (t : List ℕ) (at : ℕ)
    → cell_at t at ≡ get_or t at 0 + get_or t (at + 1) 0 * 256 + get_or t (at + 2) 0 * 65536 + get_or t (at + 3) 0 * 16777216
unfolding low_at
cell_sum t at = rw (add-zero at) (omega arith)

-- the bytes of a cell
pub cell_bytes_lem : (v : ℕ) → cell_bytes v ≡ v % 256 ∷ v / 256 % 256 ∷ v / 65536 % 256 ∷ v / 16777216 % 256 ∷ []
unfolding low_bytes
cell_bytes_lem v =
    let two : v / 256 / 256 ≡ v / 65536 = omega arith in
    let three : v / 65536 / 256 ≡ v / 16777216 = omega arith in
    rw (two, three)

-- the first k cells of a row stored, and one more behind them
pub one_more : (l : List ℕ) (at : ℕ) (cells : Row) (k : ℕ) {l' l'' : List ℕ} → k < length cells → l' ≡ sets l at (row_bytes_of (take k cells))
    → l'' ≡ sets l' (at + 4 * k) (cell_bytes (get_or cells k 0)) → l'' ≡ sets l at (row_bytes_of (take (k + 1) cells))
one_more l at cells k h e f =
    let v = get_or cells k 0 in
    let room : length (row_bytes_of (take k cells)) ≡ 4 * k = row_bytes_lem (take k cells) ∙ ap (λ (n : ℕ). 4 * n) (length-take-le k cells (omega arith)) in
    let whole : row_bytes_of (take k cells) ++ cell_bytes v ≡ row_bytes_of (take (k + 1) cells) =
    rw (add-one k, take-suc cells k 0 h, flat_append cell_bytes (take k cells) (v ∷ []), append-nil (cell_bytes v)) in
    part_then l at (4 * k) (row_bytes_of (take k cells)) (cell_bytes v) room refl e f
    ∙ ap (sets l at) whole
