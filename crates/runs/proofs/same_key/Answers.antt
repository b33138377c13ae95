-- Equal numbers are equal keys.
use mathlib.Core.Path.{◌∙◌, ap₂}
use native.Mathlib.Omega.{arith}
use lib.Dec.{eqb}
use Rattle.format.specs.Rewriting.{time_key, packet_key}
use Rattle.runs.proofs.Runs.{keys_same}
use Rattle.runs.proofs.same_key.Goals as goal

pub returns : goal.returns
returns c =
    let a = c.args in
    ap₂ eqb c.run_key.ensures c.run_key-2.ensures
    ∙ keys_same (time_key a.a.time) (packet_key a.a.packet) (time_key a.b.time) (packet_key a.b.packet) (omega arith) (omega arith)
