-- What is wanted of a file's CPI section, and of the output, before the section is made anew.
use Rattle.std.specs.Prelude.{ℕ, ◌+◌, ◌*◌, ◌-◌, ◌^◌, ◌<◌, ◌≤◌, ◌≡◌, List, true, length}
use Rattle.format.specs.EntryPoints.{entries_of, maps_from, entries_from}
use Rattle.format.specs.Refusals.{every_map}
use Rattle.format.specs.Rewriting.{runs, body_bytes, bodies, cpi_bytes_by}
use Rattle.encode_cpi.specs.Cpi.{few_runs}
use Rattle.ep_entries.specs.Body.{CpiSection, MapAt}

-- map k of the section has not too many runs; its header stands in row k of the new section at `at`, its body at `body`, counted from six bytes on
pub record MapRoom (f : List ℕ) (c k size at body : ℕ) : Type 0 where
  pub map_in_lem : MapAt f c (c + 8 + 12 * k)
  pub runs_fit_lem : runs (entries_of f c (c + 8 + 12 * k)) < 2 ^ 16
  pub room : body + length (body_bytes (entries_of f c (c + 8 + 12 * k))) ≤ size
  pub header_room : at + 8 + 12 * k + 12 ≤ body
  pub address_fits : body - (at + 6) < 2 ^ 32

-- no map has too many runs, and there is room for headers and bodies, which begin eight bytes behind the section's start
pub record MapsRoom (f : List ℕ) (c count size at : ℕ) : Type 0 where
  pub section : CpiSection f c count
  pub few : count ≤ 255
  pub runs_few : every_map few_runs (maps_from f c) (entries_from f c) ≡ true
  pub room : at + 8 + 12 * count + length (bodies (maps_from f c) (entries_from f c)) ≤ size

-- the same of the section, of which the length is known
pub record CpiRoom (f : List ℕ) (c count len size at : ℕ) : Type 0 where
  pub section : CpiSection f c count
  pub runs_few : every_map few_runs (maps_from f c) (entries_from f c) ≡ true
  pub long : len ≡ length (cpi_bytes_by (maps_from f c) (entries_from f c))
  pub room : at + len ≤ size
