-- What the entries of a map answer, and the refusals in front of it.
use Prim.Native.Nat.{ℕ, ◌+◌, ◌*◌, ◌≤◌}
use mathlib.Core.Path.{◌≡◌, refl, sym, ap, ◌∙◌}
use mathlib.Core.List.{List, [], ◌∷◌}
use mathlib.Core.Bool.{Bool, true, false}
use native.Mathlib.Omega.{arith}
use lib.ListN.{length, get_or}
use Rattle.std.specs.Prelude.{Result, Ok, Err}
use Rattle.format.specs.Bytes.{pick}
use Rattle.format.specs.ClipRecord.{Row, entry_count, entry_cells, entry_size}
use Rattle.format.specs.Questions.{Question, parts_of, Answer, refused, of_row, first_row, own_rows, of_map, answer, ask}
use Rattle.format.specs.Questions as of
use Rattle.format.specs.Tables.{Table, rows_of, clip_in, map_cells}
use Rattle.queries.specs.Asked.{maps_and_entries}
use Rattle.nearest.specs.Nearest.{find_in, seek_in}
use Rattle.nearest.specs.declared.Side.{Side}
use Rattle.table_rows.specs.OwnRows.{refusal, owns, may_ask, owned_rows, cell_in}
use Rattle.table_rows.proofs.OwnRows.{own_rows_lem, not_owned, behind_tests, tests_fail, tests_pass}
use Rattle.entry_rows.specs.Entries.{entries_at}
use Rattle.ep_map_queries.specs.InMap.{owned_entries, find_question, seek_question}
use Rattle.ep_map_queries.specs.Rows.{own_entries}

-- ---- the rows of a map, or the refusal

module _ (maps entries : Table) (m : ℕ) where
  -- those that are told stand in the table and are the map's own
  pub rows_told : {first count : ℕ} → owns first count ≡ owned_entries maps entries m → Ok (entries_at entries.bytes (entry_size * first) count) ≡ own_entries maps entries m
  rows_told h = let o = own_rows_lem 2 entry_cells maps entries m h in rw o.may (ap Ok (sym o.own))

  -- a refusal is one by the definitions too
  pub refusal_told : {n : ℕ} → refusal n ≡ owned_entries maps entries m → Err n ≡ own_entries maps entries m
  refusal_told h = let o = not_owned 2 entry_cells maps entries m h in rw (o.0, o.1)

  -- the entries of a map stand in the table
  pub inside : {first count : ℕ} → owns first count ≡ owned_entries maps entries m → entry_size * first + entry_size * count ≤ length entries.bytes
  inside h = let o = own_rows_lem 2 entry_cells maps entries m h in omega (arith, o.inside, o.room)

-- ---- the questions about one map

-- a question about the entries of map m
pub record AsksMap (q : Question) (maps entries : Table) (m : ℕ) (f : List Row → Answer) : Type 0 where
  pub two : parts_of q ≡ of.maps ∷ of.entries ∷ []
  pub asks : answer q (clip_in (maps_and_entries maps entries)) ≡ of_map (rows_of map_cells maps) (rows_of entry_cells entries) m f

module _ {q : Question} {maps entries : Table} {m : ℕ} {f : List Row → Answer} (a : AsksMap q maps entries m f) where
  -- the rows that belong to map m
  abbrev own : List Row
  own = own_rows entry_count (rows_of map_cells maps) (rows_of entry_cells entries) m

  -- what is asked of the map's own entries, behind the tests
  by_tests : behind_tests 2 entry_cells maps entries m (f own) ≡ ask q (maps_and_entries maps entries)
  unfolding ask of_map
  by_tests = rw (a.two, a.asks)

  -- where the tests fail, the question is refused
  refused_by : may_ask 2 entry_cells maps entries m ≡ false → refused 22 ≡ ask q (maps_and_entries maps entries)
  unfolding owned_rows
  refused_by h = tests_fail 2 entry_cells maps entries m (f own) (rw h) ∙ by_tests

  -- where they pass, it has its answer
  answered_by : may_ask 2 entry_cells maps entries m ≡ true → f own ≡ ask q (maps_and_entries maps entries)
  unfolding owned_rows
  answered_by h =
      let told : owns (first_row (cell_in 2) (rows_of map_cells maps) m) (cell_in 2 (get_or (rows_of map_cells maps) m [])) ≡ owned_entries maps entries m = rw h in
      tests_pass 2 entry_cells maps entries m (f own) told ∙ by_tests

  -- where the entries of the map are refused, so is the question, by the same number
  pub not_asked : {n : ℕ} → Err n ≡ own_entries maps entries m → refused n ≡ ask q (maps_and_entries maps entries)
  not_asked {n} h = go (may_ask 2 entry_cells maps entries m) refl h
    where
      go : (b : Bool) → may_ask 2 entry_cells maps entries m ≡ b → ◌≡◌ {A = Result (List Row) ℕ} (Err n) (pick b (Ok own) (Err 22)) → refused n ≡ ask q (maps_and_entries maps entries)
      go true e g = cc
      go false e g = let is : n ≡ 22 = cc in rw is (refused_by e)

  -- where they are not, the question is answered from the rows that belong to the map
  pub asked : {es : List Row} → Ok es ≡ own_entries maps entries m → f es ≡ ask q (maps_and_entries maps entries)
  asked {es} h = go (may_ask 2 entry_cells maps entries m) refl h
    where
      go : (b : Bool) → may_ask 2 entry_cells maps entries m ≡ b → ◌≡◌ {A = Result (List Row) ℕ} (Ok es) (pick b (Ok own) (Err 22)) → f es ≡ ask q (maps_and_entries maps entries)
      go true e g = let is : es ≡ own = cc in rw is (answered_by e)
      go false e g = cc

-- the questions about one map
module _ (maps entries : Table) (m : ℕ) where
  -- the entry at or before a time, or after it, is asked of the entries of map m
  pub find_asks : (side : Side) (at : ℕ) → AsksMap (find_question side m at) maps entries m (λ es. find_in side es at)
  unfolding answer clip_in
  find_asks Side.After at = record { two = refl; asks = refl }
  find_asks Side.AtOrBefore at = record { two = refl; asks = refl }

  -- so is its packet
  pub seek_asks : (side : Side) (at : ℕ) → AsksMap (seek_question side m at) maps entries m (λ es. seek_in side es at)
  unfolding answer clip_in
  seek_asks Side.After at = record { two = refl; asks = refl }
  seek_asks Side.AtOrBefore at = record { two = refl; asks = refl }
