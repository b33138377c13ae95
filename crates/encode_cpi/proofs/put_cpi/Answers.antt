-- Without maps a length of 0; else the top, and behind it headers and bodies.
use Prim.Native.Nat.{◌+◌, ◌*◌, ◌^◌, ◌<◌}
use mathlib.Core.Path.{◌≡◌, refl}
use native.Mathlib.Omega.{arith}
use lib.ListN.{length}
use Rattle.format.specs.Rewriting.{bodies}
use Rattle.encode_cpi.specs.Cpi.{map_rows_of, entry_rows_of}
use Rattle.encode_cpi.proofs.Section.{none_long, cpi_none, cpi_long, cpi_small, cpi_put}
use Rattle.encode_cpi.proofs.put_cpi.Goals as goal

pub put_u32-requires : goal.put_u32-requires
put_u32-requires c =
    let a = c.args in
    omega (arith, c.requires.room, none_long a.maps.bytes.now a.maps.rows a.entries.bytes.now a.entries.rows a.out.now a.at a.len c.if-maps-eq0.true c.requires.long)

pub returns-then-maps-eq0 : goal.returns-then-maps-eq0
returns-then-maps-eq0 c =
    let a = c.args in
    let r = cpi_none a.maps.bytes.now a.maps.rows a.entries.bytes.now a.entries.rows a.out.now a.at a.len c.if-maps-eq0.true c.requires.long c.put_u32.ensures in
    record { value = r.0; out_after = r.1 }

pub overflow_sub-len : goal.overflow_sub-len
overflow_sub-len c =
    let long : let a = c.args in a.len ≡ 8 + 12 * a.maps.rows + length (bodies (map_rows_of a.maps.bytes.now a.maps.rows) (entry_rows_of a.entries.bytes.now a.entries.rows)) = let a = c.args in cpi_long a.maps.bytes.now a.maps.rows a.entries.bytes.now a.entries.rows a.out.now a.at a.len c.requires c.if-maps-eq0.false in
    omega (arith, long)

pub overflow_cast-len : goal.overflow_cast-len
overflow_cast-len c =
    let small : c.args.len < 2 ^ 32 = let a = c.args in cpi_small a.maps.bytes.now a.maps.rows a.entries.bytes.now a.entries.rows a.out.now a.at a.len c.requires c.if-maps-eq0.false in
    record { fits = omega (arith, small) }

pub put_top-requires : goal.put_top-requires
put_top-requires c =
    let long : let a = c.args in a.len ≡ 8 + 12 * a.maps.rows + length (bodies (map_rows_of a.maps.bytes.now a.maps.rows) (entry_rows_of a.entries.bytes.now a.entries.rows)) = let a = c.args in cpi_long a.maps.bytes.now a.maps.rows a.entries.bytes.now a.entries.rows a.out.now a.at a.len c.requires c.if-maps-eq0.false in
    omega (arith, long, c.requires.room)

pub put_maps-requires : goal.put_maps-requires
put_maps-requires c =
    let long : let a = c.args in a.len ≡ 8 + 12 * a.maps.rows + length (bodies (map_rows_of a.maps.bytes.now a.maps.rows) (entry_rows_of a.entries.bytes.now a.entries.rows)) = let a = c.args in cpi_long a.maps.bytes.now a.maps.rows a.entries.bytes.now a.entries.rows a.out.now a.at a.len c.requires c.if-maps-eq0.false in
    record {
      rows_there = c.requires.rows_there;
      writable = c.requires.writable;
      long = omega (arith, long);
      room = omega (arith, c.requires.room, c.put_top.auto);
    }

pub returns : goal.returns
returns c =
    let a = c.args in
    record { value = refl; out_after = cpi_put a.maps.bytes.now a.maps.rows a.entries.bytes.now a.entries.rows a.out.now a.at a.len c.requires c.if-maps-eq0.false c.put_top.ensures c.put_maps.ensures }
