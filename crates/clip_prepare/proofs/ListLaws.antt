-- The (2, 5) list measured.
use Prim.Native.Nat.{ℕ, ◌+◌, ◌-◌}
use mathlib.Core.Path.{◌≡◌, refl}
use mathlib.Core.List.{List}
use native.Mathlib.Omega.{arith}
use lib.ListN.{take, drop}
use Rattle.std.specs.Prelude.{Option, Some, None}
use Rattle.format.specs.Extensions.{list_in}
use Rattle.extension.specs.Block.{found_in}
use Rattle.extension.specs.declared.ListData.{ListData}
use Rattle.section_heads.specs.declared.Section.{Section}
use Rattle.info_sections.specs.Sections.{section_measured}
use Rattle.info_sections.specs.declared.SectionCounts.{SectionCounts}
use Rattle.clip_prepare.specs.Lists.{list_rows_of}

-- no data is no list
pub list_none : (f : List ℕ) → None ≡ list_rows_of (found_in f None)
unfolding list_rows_of
list_none f = refl

-- data is measured as programs from its front on
pub list_measured : (f : List ℕ) (list : ListData) {r : Option SectionCounts}
    → r ≡ section_measured Section.Programs (take (list.start + list.len - list.start) (drop list.start f)) 0 → r ≡ list_rows_of (found_in f (Some list))
unfolding list_rows_of list_in section_measured
list_measured f list h = let e : list.start + list.len - list.start ≡ list.len = omega arith in rw e at h
