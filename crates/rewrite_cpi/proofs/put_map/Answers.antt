-- The body's runs go into the header.
use Prim.Native.Nat.{ℕ, ◌+◌, ◌*◌, ◌-◌}
use mathlib.Core.Path.{◌≡◌}
use lib.ListN.{length}
use Rattle.format.specs.Rewriting.{body_bytes}
use Rattle.format.specs.EntryPoints.{entries_of}
use Rattle.ep_entries.specs.declared.body.MapBody.{MapBody}
use Rattle.rewrite_cpi.proofs.Sections.{place_is, map_put}
use Rattle.rewrite_cpi.proofs.put_map.Goals as goal

pub returns : goal.returns
returns c =
    let m : MapBody = c.map_body-m.result in
    let q : ℕ = c.args.from.file + 8 + 12 * c.args.k in
    let behind : c.args.body + 4 + 8 * c.put_body-runs.result + 4 * m.num_fine ≡ c.args.body + length (body_bytes (entries_of c.args.file.now c.args.from.file q)) = place_is c.args.file.now c.args.from.file q m c.map_body-m.ensures c.put_body-runs.ensures.value c.args.body in
    let a = c.args in record {
      value = behind;
      out_after = map_put a.file.now a.from.file q m c.map_body-m.ensures c.put_body-runs.ensures.value a.out.now a.body (a.from.out + 8 + 12 * a.k) (a.body - (a.from.out + 6)) c.u32_at-pid.result
          c.u32_at-pid.ensures.same c.put_body-runs.ensures.out_after c.put_header.ensures;
    }
