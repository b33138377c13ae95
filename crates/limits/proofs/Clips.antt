-- The tables of a record, one test behind the other, and `cells_fit` by its parts.
use Prim.Native.Nat.{ℕ, ◌<◌, ◌≤◌}
use mathlib.Core.Path.{◌≡◌, refl, ap, ◌∙◌}
use mathlib.Core.List.{List}
use mathlib.Core.Bool.{Bool, true, false}
use lib.Dec.{leb}
use borrow.Author.Tests.{le-leb, lt-leb}
use Rattle.format.specs.Bytes.{both, every}
use Rattle.format.specs.ClipRecord.{atc_stc_count, stream_count, entry_count, entry_cells}
use Rattle.format.specs.Refusals.{scalars_fit, cells_fit, all_stated, counts_add}
use Rattle.format.specs.Tables.{ClipTables, is_stated, add_up, rows_of, clip_in, table_rows_of, atc_cells, stc_cells, program_cells, stream_cells, map_cells}
use Rattle.table_rows.specs.OwnRows.{is_counted}
use Rattle.row_limits.specs.Kinds.{table_cells, fits_by}
use Rattle.row_limits.specs.declared.TableKind.{TableKind}
use Rattle.row_values.specs.declared.RowKind.{RowKind}
use Rattle.limits.specs.Clips.{entries_fit, heads_fit, groups_fit, tables_fit}
use Rattle.format.proofs.Tables.{rows_stated}
use Rattle.format.proofs.Tests.{both_true, both_assoc}

-- ---- the rows of a table

module _ (kind : TableKind) (t : List ℕ) (n : ℕ) where
  -- too many
  pub too_many : 255 < n → leb n 255 ≡ heads_fit kind (table_rows_of (table_cells kind) t n)
  too_many h = rw (rows_stated (table_cells kind) t n, lt-leb n 255 h)

  -- few enough
  pub few : {b : Bool} → n ≤ 255 → b ≡ every (fits_by kind) (table_rows_of (table_cells kind) t n) → b ≡ heads_fit kind (table_rows_of (table_cells kind) t n)
  few h is = rw (rows_stated (table_cells kind) t n, le-leb n 255 h) is

-- ---- the record

-- each cell of a record fits where the scalars do and the tables but that of the entries do, and the entries do
pub fields_and_entries : (l : ClipTables)
    → cells_fit (clip_in l)
    ≡ both (both (scalars_fit l.scalars) (tables_fit l)) (entries_fit (rows_of map_cells l.maps) (rows_of entry_cells l.entries))
unfolding cells_fit tables_fit clip_in
fields_and_entries l = simp both_assoc

-- ---- the tables, section by section

module _ (l : ClipTables) where
  -- the sequences, the programs, the maps, and all of them
  abbrev pub sequences_of : Bool
  sequences_of = groups_fit (TableKind.Info RowKind.Atc) (TableKind.Info RowKind.Stc) (rows_of atc_cells l.atcs) (rows_of stc_cells l.stcs)

  abbrev pub programs_of : Bool
  programs_of = groups_fit (TableKind.Info RowKind.Program) (TableKind.Info RowKind.Stream) (rows_of program_cells l.programs) (rows_of stream_cells l.streams)

  abbrev pub maps_of : Bool
  maps_of = heads_fit TableKind.Map (rows_of map_cells l.maps)

  abbrev pub all_of : Bool
  all_of = tables_fit l

  -- where all fit, the maps do
  pub maps_fit : all_of ≡ true → maps_of ≡ true
  unfolding tables_fit
  maps_fit h = (both_true {a = programs_of} (both_true {a = sequences_of} h).1).1

-- ---- what is tested before

-- tests of two pairs, in another order
cross : (x a y b : Bool) → both (both x a) (both y b) ≡ both (both x y) (both a b)
cross true true y b = refl
cross true false true b = refl
cross true false false b = refl
cross false a y b = refl

-- two tests before others
two_before : (x y b : Bool) → both (both x (both y true)) b ≡ both x (both y b)
two_before true true b = refl
two_before true false b = refl
two_before false y b = refl

-- the last two
two_last : (x y : Bool) → both x (both y true) ≡ both x y
two_last true true = refl
two_last true false = refl
two_last false y = refl

-- three times two tests and a third: first all pairs, then all thirds
regroup : (s1 s2 a s3 s4 b s5 s6 c : Bool)
    → both (both (both s1 (both s2 true)) a) (both (both (both s3 (both s4 true)) b) (both (both s5 (both s6 true)) c))
    ≡ both (both s1 (both s2 (both s3 (both s4 (both s5 s6))))) (both a (both b c))
regroup s1 s2 a s3 s4 b s5 s6 c =
    let one = both s1 (both s2 true) in
    let two = both s3 (both s4 true) in
    let three = both s5 (both s6 true) in
    ap (λ (x : Bool). both (both one a) x) (cross two b three c)
    ∙ cross one a (both two three) (both b c)
    ∙ ap (λ (x : Bool). both x (both a (both b c)))
    (two_before s1 s2 (both two three)
    ∙ ap (λ (x : Bool). both s1 (both s2 x)) (two_before s3 s4 three ∙ ap (λ (x : Bool). both s3 (both s4 x)) (two_last s5 s6)))

-- 22 refuses nothing exactly where the rows of each pair of tables are there and counted
pub all_counted : (l : ClipTables)
    → both (is_counted 1 stc_cells l.atcs l.stcs) (both (is_counted 2 stream_cells l.programs l.streams) (is_counted 2 entry_cells l.maps l.entries))
    ≡ both (all_stated l) (counts_add (clip_in l))
unfolding is_counted all_stated counts_add clip_in
all_counted l =
    regroup (is_stated atc_cells l.atcs) (is_stated stc_cells l.stcs) (add_up atc_stc_count (rows_of atc_cells l.atcs) (rows_of stc_cells l.stcs))
    (is_stated program_cells l.programs) (is_stated stream_cells l.streams) (add_up stream_count (rows_of program_cells l.programs) (rows_of stream_cells l.streams))
    (is_stated map_cells l.maps) (is_stated entry_cells l.entries) (add_up entry_count (rows_of map_cells l.maps) (rows_of entry_cells l.entries))
