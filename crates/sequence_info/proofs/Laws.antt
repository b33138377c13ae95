-- ATCs with their STCs: the place behind one.
use Prim.Native.Nat.{ℕ, ◌+◌, ◌*◌, ◌<◌}
use mathlib.Core.Path.{◌≡◌, ap, ◌∙◌}
use mathlib.Core.List.{List}
use native.Mathlib.Omega.{arith}
use lib.ListN.{length}
use Rattle.format.specs.Bytes.{be_at}
use Rattle.format.specs.ClipRecord.{next_atc}
use Rattle.format.proofs.Places.{atc_head}
use Rattle.format.proofs.Sweep.{end_steps}
use Rattle.std.specs.Prelude.{Option, None}
use Rattle.common.specs.Reader.{moved_to}
use Rattle.common.specs.declared.reader.Reader.{Reader}
use Rattle.common.proofs.Laws.{Got, beyond}

-- ---- the place behind an ATC

module _ (f : List ℕ) (p : ℕ) where
  -- each STC takes 14 bytes
  next_atc_lem : next_atc f p ≡ p + 6 + 14 * be_at f (p + 4) 1
  next_atc_lem = end_steps 14 (p + 6) (be_at f (p + 4) 1)

  -- the STC count was read, and a move by so many bytes leads behind the STCs
  pub atc_passed : {v : ℕ} {r : Reader} {m : Option Reader} → Got f (p + 4) 1 v r → m ≡ moved_to f (r.pos + (1 + 14 * v)) → m ≡ moved_to f (next_atc f p)
  atc_passed {v} {r} g e =
      let place : r.pos + (1 + 14 * v) ≡ next_atc f p = omega (arith, next_atc_lem, g.behind, g.value) in
      e ∙ ap (moved_to f) place

  -- the STC count passes the end
  pub atc_cut : length f < p + 4 + 1 → None ≡ moved_to f (next_atc f p)
  atc_cut h = beyond f (next_atc f p) (omega (arith, atc_head f p))
