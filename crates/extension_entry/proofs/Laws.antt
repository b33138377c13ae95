-- The data of a row: the tests that refuse it, and what the place that is answered says.
use Prim.Native.Nat.{ℕ, ◌+◌, ◌<◌, ◌≤◌}
use mathlib.Core.Path.{◌≡◌, refl, sym}
use mathlib.Core.Logic.{◌⊎◌, inl, inr, ⊎_elim}
use mathlib.Core.List.{List, []}
use mathlib.Core.Bool.{Bool, true, false}
use native.Mathlib.Omega.{arith}
use lib.ListN.{length, take, drop}
use lib.Dec.{ltb}
use borrow.Author.Tests.{le-leb, lt-leb, lt-ltb, le-ltb}
use Rattle.format.specs.Bytes.{unless}
use Rattle.format.specs.ClipRecord.{Row}
use Rattle.format.specs.Extensions.{data_in, data_start, data_length}
use Rattle.format.specs.Tables.{Table, is_stated, extension_cells}
use Rattle.format.specs.Refusals.{extension_row, data_refusal, data_asked}
use Rattle.std.proofs.Common.{Ok, Err}
use Rattle.refusals.specs.declared.Refusal.{Refusal}
use Rattle.refusals.specs.Numbers.{number_of}
use Rattle.extension_entry.specs.Part.{part_of, PartIs}
use Rattle.extension_entry.specs.declared.Part.{Part}

module _ (f : List ℕ) (t : Table) (k : ℕ) where
  -- 22 is no place
  refused : data_refusal f t k ≡ 22 → PartIs f t k (Err Refusal.Rows)
  unfolding part_of
  refused h = record { same = rw h; inside = omega arith }

  -- more rows are stated than lent
  pub not_stated : is_stated extension_cells t ≡ false → PartIs f t k (Err Refusal.Rows)
  unfolding data_refusal
  not_stated h = refused (rw h)

  -- the rows as they were told
  module _ {u : Table} (told : (is_stated extension_cells t ≡ true) × (u ≡ t)) where
    -- the row is not one of them
    pub no_row : u.rows ≤ k → PartIs f t k (Err Refusal.Rows)
    unfolding data_refusal
    no_row h = refused (rw (told.0, le-ltb k t.rows (rw told.1 at h)))

    module _ {row : Row} (in_table : k < u.rows) (read : row ≡ extension_row u k) where
      -- the row that was read is the table's
      row_is : row ≡ extension_row t k
      row_is = rw told.1 at read

      -- its data passes the end
      pub outside : length f < data_start row + data_length row → PartIs f t k (Err Refusal.Rows)
      unfolding data_refusal
      outside h =
          refused
          (rw (
            told.0,
            lt-ltb k t.rows (rw told.1 at in_table),
            lt-leb (data_start (extension_row t k) + data_length (extension_row t k)) (length f) (rw row_is at h),
          ))

      -- its data lies inside
      pub within : data_start row + data_length row ≤ length f → PartIs f t k (Ok (record { start = data_start row; len = data_length row }))
      unfolding data_refusal part_of
      within h = record {
        same =
            rw (
              told.0,
              lt-ltb k t.rows (rw told.1 at in_table),
              le-leb (data_start (extension_row t k) + data_length (extension_row t k)) (length f) (rw row_is at h),
              row_is,
            );
        inside = h;
      }

  -- there are two answers
  two_ways : (data_refusal f t k ≡ 0) ⊎ (data_refusal f t k ≡ 22)
  unfolding data_refusal
  two_ways = by_tests (is_stated extension_cells t) (ltb k t.rows) (data_in f (extension_row t k))
    where
      by_tests : (a b c : Bool) → (unless a 22 (unless b 22 (unless c 22 0)) ≡ 0) ⊎ (unless a 22 (unless b 22 (unless c 22 0)) ≡ 22)
      by_tests false b c = inr refl
      by_tests true false c = inr refl
      by_tests true true false = inr refl
      by_tests true true true = inl refl

  -- what a place says of the call
  pub given : {part : Part} → Ok part ≡ part_of f t k → (0 ≡ data_refusal f t k) × (take part.len (drop part.start f) ≡ data_asked f t k)
  unfolding part_of data_asked
  given e =
      ⊎_elim
      (λ h. let is = rw h at e in (sym h, rw h (cc)))
      (λ h. let is = rw h at e in cc)
      two_ways

  -- and what a refusal says
  pub not_given : {refusal : Refusal} → Err refusal ≡ part_of f t k → (number_of refusal ≡ data_refusal f t k) × ([] ≡ data_asked f t k)
  unfolding part_of data_asked
  not_given {refusal} e =
      ⊎_elim
      (λ h. let is = rw h at e in cc)
      (λ h. let is = rw h at e in let rows : refusal ≡ Refusal.Rows = cc in (rw (rows, h), rw h))
      two_ways
