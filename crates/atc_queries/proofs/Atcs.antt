-- STCs through their ATCs: by id while a loop goes over the ATCs, by packet while one goes over the STCs of an ATC, and the tests in front.
use Prim.Native.Nat.{ℕ, suc, ◌+◌, ◌*◌, ◌-◌, ◌^◌, ◌<◌, ◌≤◌}
use mathlib.Core.Path.{◌≡◌, refl, ◌∙◌}
use mathlib.Core.List.{List, [], map}
use mathlib.Core.Bool.{Bool, true, false}
use native.Mathlib.Omega.{arith}
use lib.Dec.{leb, ltb, lit<}
use native.Mathlib.Numerals.{add-one}
use lib.ListN.{length, get_or, drop}
use Rattle.std.proofs.Common.{drop-cons}
use Rattle.std.proofs.lemmas.List.{drop_all}
use Rattle.format.specs.Bytes.{both, pick}
use Rattle.format.specs.ClipRecord.{Row, atc_stc_count, offset_id, stc_packet}
use Rattle.format.specs.Questions.{stc_sequence_by_id, stc_sequence_for_spn, Answer, refused, none, number, last_where, stc_by_id, stc_by_spn, first_row, own_rows, of_atcs, of_atc, answer, ask}
use Rattle.format.specs.Tables.{Table, rows_of, clip_in, atc_cells, stc_cells}
use Rattle.format.proofs.Loops.{one_left, none_left}
use Rattle.cells.specs.Reads.{CellIs}
use Rattle.format.proofs.Cell.{row_cell}
use Rattle.queries.specs.Asked.{atcs_and_stcs}
use Rattle.table_rows.specs.OwnRows.{refusal, owns, owned_rows, rows_from}
use Rattle.table_rows.proofs.OwnRows.{own_rows_lem, behind_count, behind_tests, tests_fail, tests_pass}

-- ---- by id

module _ (xs : List Row) (id : ℕ) where
  -- what is found from ATC k on, with the STCs before it counted, is what is found of all
  pub record Ids (k first : ℕ) : Type 0 where
    pub small : first ≤ 4294967295 * k
    pub rest : stc_by_id (drop k xs) id first ≡ stc_by_id xs id 0

  -- before the first turn no STC is counted and all ATCs are left
  pub ids_first : Ids 0 0
  ids_first = record { small = omega arith; rest = refl }

  -- what was read of row k
  module _ (k first : ℕ) {row : Row} {b : Bool} (h : k < length xs) (read : row ≡ get_or xs k [])
      (is : b ≡ both (leb (offset_id row) id) (ltb (id - offset_id row) (atc_stc_count row))) (i : Ids k first) where
    -- an ATC without the id is passed, and its STCs are counted
    pub ids_turn : atc_stc_count row < 2 ^ 32 → b ≡ false → Ids (k + 1) (first + atc_stc_count row)
    unfolding stc_by_id
    ids_turn c f = record {
      small = omega (arith, i.small, c);
      rest = rw add-one (rw (drop-cons xs k [], ← read, ← is, f) at i.rest);
    }

    -- the first ATC that has the id answers: the STCs before it, and the id less its offset
    pub id_found : b ≡ true → number (first + (id - offset_id row)) ≡ stc_by_id xs id 0
    unfolding stc_by_id
    id_found f = rw (drop-cons xs k [], ← read, ← is, f) at i.rest

  -- after the last ATC there is none
  pub id_none : (k first : ℕ) → length xs ≤ k → Ids k first → none ≡ stc_by_id xs id 0
  unfolding stc_by_id
  id_none k first h i = rw (drop_all k xs h) at i.rest

-- rows as they were told answer
pub of_told : {t u : Table} (id : ℕ) {r : Answer} → u ≡ t → r ≡ stc_by_id (rows_of atc_cells u) id 0 → r ≡ stc_by_id (rows_of atc_cells t) id 0
of_told id same h = rw (← same) h

-- the answer behind the tests
pub id_asked : (atcs stcs : Table) (id : ℕ) → behind_count 1 stc_cells atcs stcs (stc_by_id (rows_of atc_cells atcs) id 0) ≡ ask (stc_sequence_by_id id) (atcs_and_stcs atcs stcs)
unfolding ask answer clip_in of_atcs
id_asked atcs stcs id = refl

-- ---- by packet

module _ (t : List ℕ) (first count spn : ℕ) where
  -- what is found of the rows seen and of those left is what is found of all
  abbrev pub Spns : ℕ → Answer → Type 0
  Spns k found =
      last_where (λ y. leb y spn) (first + k) (map stc_packet (rows_from stc_cells t (first + k) (count - k))) found ≡ stc_by_spn (rows_from stc_cells t first count) spn first

  -- before the first turn nothing is found and all rows are left
  pub spns_first : Spns 0 none
  unfolding stc_by_spn
  spns_first =
      let f : first + 0 ≡ first = omega arith in
      let c : count - 0 ≡ count = omega arith in
      rw (f, c)

  -- a row whose packet is at most the one given takes the place of what was found
  pub spns_turn : (k : ℕ) (found : Answer) {r : Answer} {v : ℕ} → k < count → CellIs t (16 * (first + k) + 4) v → r ≡ pick (leb v spn) (number (first + k)) found → Spns k found → Spns (k + 1) r
  spns_turn k found h c e i =
      let p : 4 * stc_cells * (first + k) + 16 ≡ 4 * stc_cells * suc (first + k) = omega arith in
      let s : first + (k + 1) ≡ suc (first + k) = omega arith in
      let is = row_cell t stc_cells (4 * stc_cells * (first + k)) 1 (lit< tt) (omega arith) c.same in
      rw (s, e) (rw (one_left count k h, p, ← is) at i)

  -- after the last turn what was found is the answer
  pub spns_done : (k : ℕ) (found : Answer) → count ≤ k → Spns k found → found ≡ stc_by_spn (rows_from stc_cells t first count) spn first
  spns_done k found h i = rw (none_left count k h) at i

module _ (atcs stcs : Table) (atc spn : ℕ) where
  -- the answer of the ATC's own STCs behind the tests
  spn_by_tests : behind_tests 1 stc_cells atcs stcs atc (stc_by_spn (own_rows atc_stc_count (rows_of atc_cells atcs) (rows_of stc_cells stcs) atc) spn (first_row atc_stc_count (rows_of atc_cells atcs) atc))
      ≡ ask (stc_sequence_for_spn atc spn) (atcs_and_stcs atcs stcs)
  unfolding ask answer clip_in of_atc
  spn_by_tests = refl

  -- a test that fails is the refusal
  pub spn_refused : {n : ℕ} → refusal n ≡ owned_rows 1 stc_cells atcs stcs atc → refused n ≡ ask (stc_sequence_for_spn atc spn) (atcs_and_stcs atcs stcs)
  spn_refused h = tests_fail 1 stc_cells atcs stcs atc _ h ∙ spn_by_tests

  module _ {first count : ℕ} (h : owns first count ≡ owned_rows 1 stc_cells atcs stcs atc) where
    -- the STCs of the ATC stand in the table
    pub stcs_inside : 16 * (first + count) ≤ length stcs.bytes
    stcs_inside = let o = own_rows_lem 1 stc_cells atcs stcs atc h in omega (arith, o.inside, o.room)

    -- where the tests pass, the ATC's rows in the table answer
    pub spn_answered : stc_by_spn (rows_from stc_cells stcs.bytes first count) spn first ≡ ask (stc_sequence_for_spn atc spn) (atcs_and_stcs atcs stcs)
    spn_answered =
        let o = own_rows_lem 1 stc_cells atcs stcs atc h in
        rw (← o.own, o.begins) (tests_pass 1 stc_cells atcs stcs atc _ h) ∙ spn_by_tests
