-- The last row stands one before their number.
use Prim.Native.Nat.{suc}
use mathlib.Core.Path.{◌≡◌}
use native.Mathlib.Omega.{arith}
use lib.ListN.{length}
use Rattle.entry_rows.specs.Entries.{rows_in}
use Rattle.entry_rows.proofs.Laws.{entries_length}
use Rattle.ep_map_times.proofs.Lasts.{end_is}
use Rattle.ep_map_times.proofs.last_time.Goals as goal

pub returns : goal.returns
returns c =
    let es = c.args.entries in
    let last = c.in_ok-last.last in
    let all : suc last ≡ length (rows_in es) = rw (entries_length es.bytes.now es.first es.count) (omega (arith, c.in_ok-last.ensures)) in
    end_is (rows_in es) last all c.time_of.ensures
