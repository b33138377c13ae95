-- The claims are those of the contracts: both sides are the same clause.
use mathlib.Core.Path.{refl}
use seplogic.Ra.Ura.{Ura}
use base.Logic.{SProp}
use prog.Memory.{Memory}
use prog.Routine.{Routine}
use types.Logic.{Logic}
use contract.Monad.{Fun}
use Rattle.entry_theorems.specs.Claims.{Claimed}

-- each contract, written out, is the claim that the specification has for it
pub claimed : {M : Type 1} {𝓤 : Ura M} (𝓛 : Logic 𝓤) (mem : Memory → SProp 𝓤) (run : Routine → Fun 𝓤) → Claimed 𝓛 mem run
claimed 𝓛 mem run = record {
  entry_point_at_or_before = λ κs s t g r. (refl, refl);
  entry_point_after = λ κs s t g r. (refl, refl);
  seek_spn = λ κs s t g r. (refl, refl);
  next_seek_spn = λ κs s t g r. (refl, refl);
  indexed_span_90k = λ κs s g r. (refl, refl);
}
