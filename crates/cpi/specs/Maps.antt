-- The maps of the entry index, measured.
use Rattle.std.specs.Prelude.{ℕ, zero, suc, ◌+◌, ◌*◌, ◌≤◌, ◌≡◌, List, length, Option, Some, None, Result, Ok, Err}
use Rattle.format.specs.Bytes.{pick, unless, be_at}
use Rattle.format.specs.EntryPoints.{cpi_end, has_maps, map_count, cpi_in, map_refusal, maps_refusal, fine_count_at, maps_from, entries_from}
use Rattle.refusals.specs.declared.Refusal.{Refusal}
use Rattle.cpi.specs.declared.maps.Headers.{Headers}
use Rattle.cpi.specs.declared.maps.CpiCounts.{CpiCounts}

-- what the head of the section at c says
unfoldable pub cpi_head : List ℕ → ℕ → Result (Option Headers) Refusal
cpi_head f c = pick (cpi_in f c) (Ok (pick (has_maps f c) (Some (record { count = be_at f (c + 7) 1; end = cpi_end f c })) None)) (Err Refusal.Cpi)

-- what is told of a map by its refusal, 0 for none: its entries, or that number
abbrev pub map_told_by : (refusal entries : ℕ) → Result ℕ ℕ
map_told_by zero entries = Ok entries
map_told_by (suc n) entries = Err (suc n)

-- the map whose header is at p
unfoldable pub map_rows_of : List ℕ → ℕ → ℕ → Result ℕ ℕ
map_rows_of f c p = map_told_by (map_refusal f c p) (fine_count_at f p)

-- what is told of the section by a refusal, 0 for none: its rows in both tables, or that number
abbrev pub cpi_told_by : (refusal maps entries : ℕ) → Result CpiCounts ℕ
cpi_told_by zero maps entries = Ok (record { maps = maps; entries = entries })
cpi_told_by (suc n) maps entries = Err (suc n)

-- all maps
unfoldable pub maps_measured : List ℕ → ℕ → Result CpiCounts ℕ
maps_measured f c = cpi_told_by (maps_refusal f c) (length (maps_from f c)) (length (entries_from f c))

-- the refusal of the section and of its maps: 6 before any map is looked at
abbrev pub index_refusal : List ℕ → ℕ → ℕ
index_refusal f c = unless (cpi_in f c) 6 (maps_refusal f c)

-- the whole section
unfoldable pub cpi_measured : List ℕ → ℕ → Result CpiCounts ℕ
cpi_measured f c = cpi_told_by (index_refusal f c) (length (maps_from f c)) (length (entries_from f c))

-- a map's header is in the file, and the section ends there
pub record HeaderIn (f : List ℕ) (c end p : ℕ) : Type 0 where
  pub small : length f ≤ 536870912
  pub start_in : c ≤ length f
  pub end_is : end ≡ cpi_end f c
  pub end_in : end ≤ length f
  pub header : p + 12 ≤ length f

-- so are all its maps' headers
pub record HeadersIn (f : List ℕ) (c count end : ℕ) : Type 0 where
  pub small : length f ≤ 536870912
  pub counted : count ≡ map_count f c
  pub end_is : end ≡ cpi_end f c
  pub end_in : end ≤ length f
  pub headers : c + 8 + 12 * count ≤ length f
