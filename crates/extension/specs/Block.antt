-- What the passes over an extension block answer.
use Rattle.std.specs.Prelude.{ℕ, ◌+◌, ◌*◌, ◌≤◌, min, ◌≡◌, List, [], ◌∷◌, map, length, eqb, Option, Some, None}
use Rattle.std.proofs.lemmas.List.Edits.{sets}
use Rattle.format.specs.Bytes.{part, both, pick, gather}
use Rattle.format.specs.ClipRecord.{Row, Extension}
use Rattle.format.specs.Extensions.{block_end, extension_count, next_extension, kept_at, has_extensions, extension_of, Found, nothing, found, list_data}
use Rattle.format.specs.Tables.{table_bytes}
use Rattle.extension.specs.declared.BlockHead.{BlockHead}
use Rattle.extension.specs.declared.ExtensionDataEntry.{ExtensionDataEntry}
use Rattle.extension.specs.declared.ListData.{ListData}
use Rattle.extension.specs.declared.MeasuredBlock.{MeasuredBlock}

-- ---- the head

-- the number of entries and the smaller of block end and file end, where there are entries
unfoldable pub block_head : List ℕ → ℕ → Option BlockHead
block_head f start = pick (has_extensions f start) (Some (record { n = extension_count f start; end = min (block_end f start) (length f) })) None

-- what the passes over the entries rely on
pub record Block (f : List ℕ) (start n end : ℕ) : Type 0 where
  pub short : length f ≤ 536870912
  pub room : start + 12 + 12 * n ≤ length f
  pub few : n ≤ 255
  pub stop : end ≡ min (block_end f start) (length f)

-- what reading the entry at p relies on
pub record InBlock (f : List ℕ) (start end p : ℕ) : Type 0 where
  pub short : length f ≤ 536870912
  pub behind : start ≤ p
  pub room : p + 12 ≤ length f
  pub stop : end ≡ min (block_end f start) (length f)

-- the rows of the first n entries
abbrev pub rows_in : List ℕ → ℕ → ℕ → List Row
rows_in f start n = gather (kept_at f start) next_extension (start + 12) n

-- rows with their data
abbrev pub extensions_in : List ℕ → List Row → List Extension
extensions_in f rows = map (extension_of f) rows

-- ---- one entry

-- the rows that it gives: one where it is kept
abbrev pub entry_rows_of : Option ExtensionDataEntry → List Row
entry_rows_of (Some e) = (e.id1 ∷ e.id2 ∷ e.start ∷ e.len ∷ []) ∷ []
entry_rows_of None = []

-- where its data ends
abbrev pub entry_end : Option ExtensionDataEntry → ℕ
entry_end (Some e) = e.start + e.len
entry_end None = 0

-- the entry at p
pub record EntryIs (f : List ℕ) (start p : ℕ) (r : Option ExtensionDataEntry) : Type 0 where
  pub rows : entry_rows_of r ≡ kept_at f start p
  pub inside : entry_end r ≤ length f

-- ---- the list

-- the place of its data where it has the list's ids
abbrev pub entry_list : Option ExtensionDataEntry → Option ListData
entry_list (Some e) = pick (both (eqb e.id1 2) (eqb e.id2 5)) (Some (record { start = e.start; len = e.len })) None
entry_list None = None

-- the bytes that stand at the place of a list
abbrev pub found_in : List ℕ → Option ListData → Found
found_in f (Some list) = found (part f list.start list.len)
found_in f None = nothing

-- where they end
abbrev pub list_end : Option ListData → ℕ
list_end (Some list) = list.start + list.len
list_end None = 0

-- ---- the measuring pass

-- the rows are counted, and the list is that of their extensions and lies inside the file
pub record MeasuredIs (f : List ℕ) (all : List Row) (extensions : List Extension) (r : MeasuredBlock) : Type 0 where
  pub rows : r.rows ≡ length all
  pub few : r.rows ≤ 255
  pub list : found_in f r.list ≡ list_data extensions
  pub inside : list_end r.list ≤ length f

-- ---- the storing pass

-- the rows are stored in t from `at` on, and the next row goes behind them
pub record PutIs (rows : List Row) (at : ℕ) (t t' : List ℕ) (r : ℕ) : Type 0 where
  pub next : r ≡ at + length (table_bytes rows)
  pub stored : t' ≡ sets t at (table_bytes rows)
