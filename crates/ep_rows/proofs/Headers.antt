-- A map's header and its body's first word that were read are what the file says.
use Prim.Native.Nat.{ℕ, ◌+◌, ◌≤◌}
use mathlib.Core.Path.{◌≡◌}
use mathlib.Core.List.{List}
use native.Mathlib.Omega.{arith}
use Rattle.format.specs.Bytes.{be_at, unpacked}
use Rattle.format.specs.EntryPoints.{header_widths, map_type_at, coarse_count_at, fine_count_at, body_at, fine_start}
use Rattle.ep_rows.specs.Rows.{header_of}
use Rattle.ep_rows.specs.declared.MapHeader.{MapHeader}

-- the fields of a header that was read
pub header_read : (f : List ℕ) (p w : ℕ) (h : MapHeader) → w ≡ be_at f (p + 2) 6 → h ≡ header_of (unpacked header_widths w)
    → (h.ep_stream_type ≡ map_type_at f p) × (h.num_coarse ≡ coarse_count_at f p) × (h.num_fine ≡ fine_count_at f p)
header_read f p w h e r = (rw (r, e), rw (r, e), rw (r, e))

-- the most that its counts can say
pub counts_small : (f : List ℕ) (p : ℕ) → (coarse_count_at f p ≤ 65535) × (fine_count_at f p ≤ 262143)
counts_small f p = (omega arith, omega arith)

-- the fine rows start as far behind the body's start as its first word says
pub fine_is : (f : List ℕ) (c p body r : ℕ) → body ≡ body_at f c p → r ≡ be_at f body 4 → body + r ≡ fine_start f c p
fine_is f c p body r e h = rw (h, e)
