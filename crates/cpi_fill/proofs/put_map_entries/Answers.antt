-- The places that the header names are in the file, and the rows there are the map's entries.
use mathlib.Core.Path.{ap, ◌∙◌}
use native.Mathlib.Omega.{arith}
use lib.Seq.{sets}
use Rattle.format.specs.Tables.{table_bytes}
use Rattle.ep_entries.specs.Body.{entries_in}
use Rattle.ep_entries.specs.declared.body.MapBody.{MapBody}
use Rattle.ep_entries.proofs.Bodies.{rows_in_lem, own_count}
use Rattle.cpi_fill.proofs.put_map_entries.Goals as goal

pub put_entries-requires : goal.put_entries-requires
put_entries-requires c =
    let a = c.args in
    record {
      rows = rows_in_lem a.file.now a.start a.q c.map_body-m.result c.map_body-m.ensures c.requires.map_in_lem;
      fits = omega (arith, own_count a.file.now a.start a.q c.map_body-m.result c.map_body-m.ensures, c.requires.fits);
    }

pub returns : goal.returns
returns c =
    let a = c.args in
    let f = a.file.now in record { value = own_count f a.start a.q c.map_body-m.result c.map_body-m.ensures; table_after = c.put_entries.ensures ∙ ap (λ (x : MapBody). sets a.table.now a.at (table_bytes (entries_in f x))) c.map_body-m.ensures }
