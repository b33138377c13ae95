-- Rows of table 7: the cells of a row are its extension's, and its data is a part of the file.
use Prim.Native.Nat.{ℕ, ◌+◌, ◌*◌, ◌<◌, ◌≤◌}
use mathlib.Core.Path.{◌≡◌, refl, sym, ap, ◌∙◌}
use mathlib.Core.List.{List, [], ◌∷◌, ◌++◌, append_assoc, append-nil}
use native.Mathlib.Nat.{add-zero}
use native.Mathlib.Numerals.{add-one}
use native.Mathlib.Omega.{arith}
use lib.ListN.{length, get_or, take, drop, length-drop, take-append-drop}
use lib.Seq.{take-add, take-suc, take-length, take_all, drop-drop, length-take-le}
use lib.Dec.{lit<}
use borrow.Author.Tests.{le-leb, lt-ltb, leb-true}
use Rattle.std.specs.Prelude.{Option, Some, None}
use Rattle.format.specs.Bytes.{IsBytes, part}
use Rattle.format.specs.ClipRecord.{Row}
use Rattle.format.specs.Tables.{cell_bytes, row_room, rows_of, table_rows_of, extension_cells, stated}
use Rattle.format.specs.Extensions.{first_id, second_id, data_start, data_length, data_of, extension_of}
use Rattle.format.specs.Refusals.{extension_row, data_refusal, data_asked}
use Rattle.format.proofs.Cell.{cell_of, cell_room}
use Rattle.format.proofs.Loops.{flat_append}
use Rattle.format.proofs.Rows.{rows_length}
use Rattle.replay_bytes.specs.Parts.{behind, behind_part}
use Rattle.replay_case.specs.Expected.{extension_bytes}
use Rattle.replay_case.specs.Places.{extensions_bytes, DataInside}
use Rattle.replay_bytes.proofs.PartLaws.{behind_append, behind_none, stands, part_inside, cell_part}

-- ---- one row

module _ (f t : List ℕ) (bytes : IsBytes t) (n k : ℕ) (holds : DataInside f (stated t n)) (row : k < n) where
  -- the row
  abbrev e : Row
  e = extension_row (stated t n) k

  -- its cells lie inside the table
  room : (j : ℕ) → j < 4 → 16 * k + 4 * j + 4 ≤ length t
  room j h = omega (arith, cell_room extension_cells t n k j row h holds.stated)

  -- the bytes of a cell
  cell : (j : ℕ) → j < 4 → part t (16 * k + 4 * j) 4 ≡ cell_bytes (get_or e j 0)
  cell j h =
      cell_part t bytes (16 * k + 4 * j) (room j h)
      ∙ ap cell_bytes (cell_of extension_cells t n k j row h {at = 16 * k + 4 * j} (omega arith) refl)

  -- the bytes of both ids
  ids : part t (16 * k) 8 ≡ cell_bytes (first_id e) ++ cell_bytes (second_id e)
  ids =
      let first : part t (16 * k) 4 ≡ cell_bytes (first_id e) = rw (add-zero (16 * k)) at (cell 0 (lit< tt)) in
      let second : part t (16 * k + 4) 4 ≡ cell_bytes (second_id e) = cell 1 (lit< tt) in
      take-add 4 4 (drop (16 * k) t) ∙ rw (drop-drop 4 (16 * k) t, first, second)

  -- the data that is asked for is the row's
  data_is : data_asked f (stated t n) k ≡ data_of f e
  unfolding data_asked data_refusal
  data_is = rw (le-leb n (row_room extension_cells t) holds.stated, lt-ltb k n row, holds.inside k row)

  -- and it is as long as the row says
  size_is : length (data_of f e) ≡ data_length e
  size_is =
      let h = leb-true (data_start e + data_length e) (length f) (holds.inside k row) in
      length-take-le (data_length e) (drop (data_start e) f) (omega (arith, length-drop (data_start e) f))

  -- what is passed is the extension
  pub one_extension : (a : List ℕ) (at : Option ℕ) {p q r : Option ℕ} {d : List ℕ} → p ≡ behind_part a at t (16 * k) 8
      → q ≡ behind_part a p t (16 * k + 12) 4 → d ≡ data_asked f (stated t n) k → r ≡ behind_part a q d 0 (length d)
      → r ≡ behind a at (extension_bytes (extension_of f e))
  one_extension a at {p} {q} {r} {d} e1 e2 ed e3 =
      let both_ids = cell_bytes (first_id e) ++ cell_bytes (second_id e) in
      let size = cell_bytes (data_length e) in
      let bytes_of = data_of f e in
      let is : d ≡ bytes_of = ed ∙ data_is in
      let last : part t (16 * k + 12) 4 ≡ size = cell 3 (lit< tt) in
      let p-is : p ≡ behind a at both_ids =
      e1 ∙ part_inside a at t (16 * k) 8 (omega (arith, room 1 (lit< tt))) ∙ ap (behind a at) ids in
      let q-is : q ≡ behind a p size =
      e2 ∙ part_inside a p t (16 * k + 12) 4 (omega (arith, room 3 (lit< tt))) ∙ ap (behind a p) last in
      let r-is : r ≡ behind a q d = e3 ∙ part_inside a q d 0 (length d) (omega arith) ∙ ap (behind a q) (take-length d) in
      let cells : (both_ids ++ size) ++ bytes_of ≡ extension_bytes (extension_of f e) =
      rw (size_is, append_assoc (cell_bytes (first_id e)) (cell_bytes (second_id e)) size, append-nil size) in
      r-is ∙ rw (is, q-is, p-is, behind_append a at both_ids size, behind_append a at (both_ids ++ size) bytes_of, cells)

-- ---- the rows in turn

module _ (a : List ℕ) (at : ℕ) (f t : List ℕ) (n : ℕ) where
  -- the rows
  abbrev rows : List Row
  rows = rows_of extension_cells (stated t n)

  -- there are so many
  count : length rows ≡ n
  unfolding table_rows_of
  count = rows_length _ _ 0 n

  -- the place after k rows
  pub record Passed (p k : ℕ) : Type 0 where
    pub turns : k ≤ n
    pub place : Some p ≡ behind a (Some at) (extensions_bytes f (take k rows))

  -- before the first row
  pub none_passed : at ≤ length a → Passed at 0
  none_passed h = record { turns = omega arith; place = sym (stands a at [] h refl ∙ ap Some (add-zero at)) }

  -- the place after one more, or none
  after_one : {p k : ℕ} {r : Option ℕ} → k < n → Passed p k → r ≡ behind a (Some p) (extension_bytes (extension_of f (extension_row (stated t n) k)))
      → r ≡ behind a (Some at) (extensions_bytes f (take (k + 1) rows))
  after_one {p} {k} {r} h s e =
      let x = extension_bytes (extension_of f (get_or rows k [])) in
      let before = extensions_bytes f (take k rows) in
      let more : extensions_bytes f (take (k + 1) rows) ≡ before ++ x =
      rw (add-one k, take-suc rows k [] (rw count h))
      (flat_append (λ row. extension_bytes (extension_of f row)) (take k rows) (get_or rows k [] ∷ []) ∙ rw (append-nil x)) in
      e ∙ rw (s.place, behind_append a (Some at) before x, more)

  -- past one more
  pub one_passed : {p k q : ℕ} {r : Option ℕ} → k < n → Passed p k → r ≡ behind a (Some p) (extension_bytes (extension_of f (extension_row (stated t n) k)))
      → r ≡ Some q → Passed q (k + 1)
  one_passed h s e is = record { turns = omega arith; place = sym is ∙ after_one h s e }

  -- an extension that is not there ends the passing
  pub none_there : {p k : ℕ} {r : Option ℕ} → k < n → Passed p k → r ≡ behind a (Some p) (extension_bytes (extension_of f (extension_row (stated t n) k)))
      → r ≡ None → None ≡ behind a (Some at) (extensions_bytes f rows)
  none_there {p} {k} h s e is =
      let front = extensions_bytes f (take (k + 1) rows) in
      let rest = extensions_bytes f (drop (k + 1) rows) in
      let none : None ≡ behind a (Some at) front = sym is ∙ after_one h s e in
      let whole : extensions_bytes f rows ≡ front ++ rest =
      ap (extensions_bytes f) (sym (take-append-drop (k + 1) rows)) ∙ flat_append (λ row. extension_bytes (extension_of f row)) (take (k + 1) rows) (drop (k + 1) rows) in
      sym (ap (behind a (Some at)) whole ∙ sym (behind_append a (Some at) front rest) ∙ rw (← none) (behind_none a rest))

  -- past the last
  pub all_passed : {p k : ℕ} → n ≤ k → Passed p k → Some p ≡ behind a (Some at) (extensions_bytes f rows)
  all_passed {p} {k} h s = s.place ∙ rw (take_all k rows (rw count h))
