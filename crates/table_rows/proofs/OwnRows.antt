-- Counts added up while a loop goes over the header rows, and the rows of one of them.
use Prim.Native.Nat.{ℕ, zero, suc, ◌+◌, ◌*◌, ◌-◌, ◌^◌, ◌<◌, ◌≤◌}
use mathlib.Core.Path.{◌≡◌, refl, ap, ◌∙◌}
use mathlib.Core.List.{List, [], ◌∷◌}
use mathlib.Core.Bool.{Bool, true, false}
use native.Mathlib.Nat.{mul_comm}
use native.Mathlib.Omega.{arith}
use native.Mathlib.Numerals.{add-one}
use lib.ListN.{length, get_or, take, drop}
use lib.Dec.{eqb}
use borrow.Author.Tests.{leb-true, ltb-true, eqb-true, lt-ltb, le-ltb}
use Rattle.std.proofs.Common.{drop-cons}
use Rattle.std.proofs.lemmas.List.{drop_all}
use Rattle.format.specs.Bytes.{both, pick, total, rows_at}
use Rattle.format.specs.ClipRecord.{Row}
use Rattle.format.specs.Questions.{Answer, refused, unless22, first_row, own_rows}
use Rattle.format.specs.Tables.{Table, is_stated, add_up, is_row, rows_of, cells_at, table_rows_of, row_room}
use Rattle.format.proofs.Rows.{take_rows, drop_rows}
use Rattle.format.proofs.Tables.{rows_stated}
use Rattle.format.proofs.Tests.{both_true}
use Rattle.table_rows.specs.OwnRows.{head_cells, cell_in, is_counted, may_ask, refusal, owns, owned_rows, rows_from}

module _ (xs : List Row) (cell : ℕ) where
  -- what was counted and what is left is all
  pub record Sum (k sum : ℕ) : Type 0 where
    pub small : sum ≤ 4294967295 * k
    pub rest : sum + total (cell_in cell) (drop k xs) ≡ total (cell_in cell) xs

  -- before the first turn nothing is counted
  pub sum_first : Sum 0 0
  sum_first = record { small = omega arith; rest = omega arith }

  -- a turn adds the count of header row k; counts are of 32 bits, so the sum stays small
  pub sum_turn : (k sum : ℕ) {v : ℕ} → k < length xs → v ≡ cell_in cell (get_or xs k []) → v < 2 ^ 32 → Sum k sum → Sum (k + 1) (sum + v)
  sum_turn k sum {v} h is small i =
      let rest = rw (drop-cons xs k []) at i.rest in
      record { small = omega (arith, i.small, small); rest = rw add-one (omega (arith, rest, is)) }

  -- behind the last header row the sum is that of all counts
  pub sum_done : (k sum : ℕ) → length xs ≤ k → Sum k sum → sum ≡ total (cell_in cell) xs
  sum_done k sum h i = sum_is (drop_all k xs h) i.rest
    where
      sum_is : {left : List Row} → left ≡ [] → sum + total (cell_in cell) left ≡ total (cell_in cell) xs → sum ≡ total (cell_in cell) xs
      sum_is e rest = let all = rw e at rest in omega (arith, all)

-- ---- parts of the rows

-- a count and those before it are not more than all
total_part : (cell : ℕ) (rows : List Row) (h : ℕ) → h < length rows → total (cell_in cell) (take h rows) + cell_in cell (get_or rows h []) ≤ total (cell_in cell) rows
total_part cell [] h lt = absurd (omega arith)
total_part cell (r ∷ rows) zero lt = omega arith
total_part cell (r ∷ rows) (suc h) lt = let later = total_part cell rows h (omega arith) in omega arith

-- rows from one on, so many
own_part : (cells : ℕ) (t : List ℕ) (n first count : ℕ) → first + count ≤ n → take count (drop first (table_rows_of cells t n)) ≡ rows_from cells t first count
unfolding table_rows_of
own_part cells t n first count h =
    let row = cells_at t cells in
    let w = 4 * cells in
    let p : 0 + first * w ≡ w * first = rw (mul_comm first w) (omega arith) in
    ap (take count) (drop_rows row w 0 n first (omega arith)) ∙ take_rows row (λ q. q + w) (0 + first * w) (n - first) count (omega arith)
    ∙ ap (λ (q : ℕ). rows_at row (λ x. x + w) q count) p

-- ---- what an answer tells of the rows

-- the rows of a header row: it may be asked about, they stand in the table, and they are these
pub record OwnRows (cell cells : ℕ) (heads rows : Table) (head first count : ℕ) : Type 0 where
  pub may : may_ask cell cells heads rows head ≡ true
  pub begins : first ≡ first_row (cell_in cell) (rows_of head_cells heads) head
  pub inside : first + count ≤ rows.rows
  pub room : rows.rows ≤ row_room cells rows.bytes
  pub own : own_rows (cell_in cell) (rows_of head_cells heads) (rows_of cells rows) head ≡ rows_from cells rows.bytes first count

module _ (cell cells : ℕ) (heads rows : Table) (head : ℕ) where
  -- which of the two the tests choose
  chosen : (b : Bool) {first count f c : ℕ} → owns first count ≡ pick b (owns f c) (refusal 22) → (b ≡ true) × (first ≡ f) × (count ≡ c)
  chosen true h = (refl, cc, cc)
  chosen false h = cc

  -- where a refusal is told the tests failed, as rows are no refusal, and its number is 22
  was_refused : (b : Bool) {n : ℕ} (f c : ℕ) → refusal n ≡ pick b (owns f c) (refusal 22) → (b ≡ false) × (n ≡ 22)
  was_refused true f c h = cc
  was_refused false f c h = (refl, cc)

  -- a refusal says that the header row may not be asked about
  pub not_owned : {n : ℕ} → refusal n ≡ owned_rows cell cells heads rows head → (may_ask cell cells heads rows head ≡ false) × (n ≡ 22)
  unfolding owned_rows
  not_owned h = was_refused (may_ask cell cells heads rows head) _ _ h

  -- rows that are told are the header row's own: they stand in the table, as its count and those before it are not more than all
  pub own_rows_lem : {first count : ℕ} → owns first count ≡ owned_rows cell cells heads rows head → OwnRows cell cells heads rows head first count
  unfolding owned_rows may_ask is_counted
  own_rows_lem {first} {count} h =
      let hs = rows_of head_cells heads in
      let told = chosen (may_ask cell cells heads rows head) h in
      let tests = both_true told.0 in
      let tables = both_true tests.0 in
      let stated = both_true {a = is_stated head_cells heads} tables.0 in
      let added = eqb-true (total (cell_in cell) hs) (length (rows_of cells rows)) tables.1 in
      let within = total_part cell hs head (ltb-true head (length hs) tests.1) in
      let fits : first + count ≤ rows.rows = omega (arith, within, told.1, told.2, added, rows_stated cells rows.bytes rows.rows) in
      record {
        may = told.0;
        begins = told.1;
        inside = fits;
        room = leb-true rows.rows (row_room cells rows.bytes) (both_true {b = true} stated.1).0;
        own = rw (← told.1, ← told.2) (own_part cells rows.bytes rows.rows first count fits);
      }

  -- ---- a question whose tests these are

  -- the first test that fails refuses
  first_fails : (a b c : Bool) (x : Answer) → both (both a b) c ≡ false → refused 22 ≡ unless22 a (unless22 (both b c) x)
  first_fails true true true x h = cc
  first_fails true true false x h = refl
  first_fails true false c x h = refl
  first_fails false b c x h = refl

  -- where none does, the answer stands
  none_fails : (a b c : Bool) (x : Answer) → both (both a b) c ≡ true → x ≡ unless22 a (unless22 (both b c) x)
  none_fails true true true x h = refl
  none_fails true true false x h = cc
  none_fails true false c x h = cc
  none_fails false b c x h = cc

  -- the tests in a question's order, with the answer behind them
  abbrev pub behind_tests : Answer → Answer
  behind_tests x =
      unless22 (both (is_stated head_cells heads) (both (is_stated cells rows) true))
      (unless22 (both (add_up (cell_in cell) (rows_of head_cells heads) (rows_of cells rows)) (is_row head (rows_of head_cells heads))) x)

  -- where the rows are refused the question is refused by the same number, whatever its answer would be
  pub tests_fail : (x : Answer) {n : ℕ} → refusal n ≡ owned_rows cell cells heads rows head → refused n ≡ behind_tests x
  unfolding may_ask is_counted
  tests_fail x h =
      rw (not_owned h).1 (first_fails (both (is_stated head_cells heads) (both (is_stated cells rows) true)) (add_up (cell_in cell) (rows_of head_cells heads) (rows_of cells rows)) (is_row head (rows_of head_cells heads)) x (not_owned h).0)

  -- where they are told the question has its answer
  pub tests_pass : (x : Answer) {first count : ℕ} → owns first count ≡ owned_rows cell cells heads rows head → x ≡ behind_tests x
  unfolding may_ask is_counted
  tests_pass x h =
      none_fails (both (is_stated head_cells heads) (both (is_stated cells rows) true)) (add_up (cell_in cell) (rows_of head_cells heads) (rows_of cells rows)) (is_row head (rows_of head_cells heads)) x (own_rows_lem h).may

-- ---- a question of which counting is the last test

module _ (cell cells : ℕ) (heads rows : Table) (x : Answer) where
  -- the tests in a question's order, with the answer behind them
  abbrev pub behind_count : Answer
  behind_count =
      unless22 (both (is_stated head_cells heads) (both (is_stated cells rows) true)) (unless22 (add_up (cell_in cell) (rows_of head_cells heads) (rows_of cells rows)) x)

  -- of two tests, either that fails refuses by 22
  one_fails : (p q : Bool) → both p q ≡ false → refused 22 ≡ unless22 p (unless22 q x)
  one_fails true true h = cc
  one_fails true false h = refl
  one_fails false q h = refl

  -- where both pass, the answer stands
  both_pass : (p q : Bool) → both p q ≡ true → x ≡ unless22 p (unless22 q x)
  both_pass true true h = refl
  both_pass true false h = cc
  both_pass false q h = cc

  -- where the rows are not there or not counted the question is refused by 22
  pub count_fails : is_counted cell cells heads rows ≡ false → refused 22 ≡ behind_count
  unfolding is_counted
  count_fails h =
      one_fails (both (is_stated head_cells heads) (both (is_stated cells rows) true)) (add_up (cell_in cell) (rows_of head_cells heads) (rows_of cells rows)) h

  -- where they are, it has its answer
  pub count_passes : is_counted cell cells heads rows ≡ true → x ≡ behind_count
  unfolding is_counted
  count_passes h =
      both_pass (both (is_stated head_cells heads) (both (is_stated cells rows) true)) (add_up (cell_in cell) (rows_of head_cells heads) (rows_of cells rows)) h

-- ---- the tests, in their order

module _ (cell cells : ℕ) (heads rows : Table) where
  -- with more header rows stated than lent the rows are not counted
  pub no_heads : is_stated head_cells heads ≡ false → is_counted cell cells heads rows ≡ false
  unfolding is_counted
  no_heads h = rw h

  -- nor with more own rows stated than lent
  pub no_rows : is_stated head_cells heads ≡ true → is_stated cells rows ≡ false → is_counted cell cells heads rows ≡ false
  unfolding is_counted
  no_rows there h = rw (there, h)

  -- with both lent, they are where the counts add up to the stated rows
  pub counted_lem : {hs : Table} → (is_stated head_cells heads ≡ true) × (hs ≡ heads) → is_stated cells rows ≡ true
      → {sum : ℕ} → sum ≡ total (cell_in cell) (rows_of head_cells hs) → is_counted cell cells heads rows ≡ eqb sum rows.rows
  unfolding is_counted
  counted_lem h there all = rw (h.0, there, all, h.1, rows_stated cells rows.bytes rows.rows)

  -- ---- the rows of one header row

  module _ (head : ℕ) where
    -- rows that are not counted are refused
    pub not_counted : is_counted cell cells heads rows ≡ false → refusal 22 ≡ owned_rows cell cells heads rows head
    unfolding owned_rows may_ask
    not_counted h = rw h

    -- rows that are, with the header rows as they were told
    module _ {hs : Table} (h : (is_counted cell cells heads rows ≡ true) × (hs ≡ heads)) where
      -- those of a header row that is not one of the stated ones are refused
      pub no_head : hs.rows ≤ head → refusal 22 ≡ owned_rows cell cells heads rows head
      unfolding owned_rows may_ask
      no_head l = rw (h.0, rows_stated head_cells heads.bytes heads.rows, le-ltb head heads.rows (rw h.1 at l))

      -- all pass
      pub owned : head < hs.rows → {first count : ℕ} → first ≡ total (cell_in cell) (take head (rows_of head_cells hs))
          → count ≡ cell_in cell (get_or (rows_of head_cells hs) head []) → owns first count ≡ owned_rows cell cells heads rows head
      unfolding owned_rows may_ask
      owned l f c = rw (f, c, h.1, h.0, rows_stated head_cells heads.bytes heads.rows, lt-ltb head heads.rows (rw h.1 at l))
