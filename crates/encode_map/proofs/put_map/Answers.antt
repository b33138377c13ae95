-- The runs that go into the header are told by where the body starts.
use native.Mathlib.Omega.{arith}
use Rattle.encode_map.proofs.Bodies.{body_size, map_put}
use Rattle.encode_map.proofs.put_map.Goals as goal

pub overflow_sub-runs : goal.overflow_sub-runs
overflow_sub-runs c = let a = c.args in omega (arith, c.put_body-body.ensures.n_value, body_size a.entries.bytes.now a.entries.first a.entries.count)

pub overflow_sub-runs-2 : goal.overflow_sub-runs-2
overflow_sub-runs-2 c = let a = c.args in omega (arith, c.put_body-body.ensures.n_value, body_size a.entries.bytes.now a.entries.first a.entries.count)

pub overflow_sub-runs-3 : goal.overflow_sub-runs-3
overflow_sub-runs-3 c = let a = c.args in omega (arith, c.put_body-body.ensures.n_value, body_size a.entries.bytes.now a.entries.first a.entries.count)

pub put_header-requires : goal.put_header-requires
put_header-requires c =
    let a = c.args in
    let body = c.put_body-body in (
      omega (arith, c.requires.kind_fits, c.cell_at-kind.ensures.same),
      omega (arith, c.requires.runs_fit_lem, body.ensures.n_value, body_size a.entries.bytes.now a.entries.first a.entries.count),
      omega (arith, c.requires.body_room.few, c.requires.runs_fit_lem, body.ensures.n_value, body_size a.entries.bytes.now a.entries.first a.entries.count),
      omega (arith, c.requires.header_room, c.requires.body_room.room, body.auto),
    )

pub returns : goal.returns
returns c =
    let a = c.args in
    let put = c.put_body-body in record {
      n_value = put.ensures.n_value;
      out_after = map_put a.entries.bytes.now a.entries.first a.entries.count a.maps.now a.k a.out.now a.at put.result c.cell_at-pid.ensures c.cell_at-kind.ensures (omega (arith, put.ensures.n_value, body_size a.entries.bytes.now a.entries.first a.entries.count))
          put.ensures.out_after c.put_header.ensures;
    }
