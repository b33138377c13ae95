-- The answer's numbers, and the nine tables by reading's own equations.
use Prim.Native.Nat.{ℕ}
use mathlib.Core.Path.{ap, ◌∙◌}
use mathlib.Core.List.{List}
use Rattle.format.specs.Bytes.{IsBytes}
use Rattle.format.specs.Refusals.{read_numbers}
use Rattle.format.specs.Tables.{Nine}
use Rattle.clip_information.specs.Read.{nine_tables_of}
use Rattle.clpi_reading.proofs.Laws.{counts_fit, tables_are}
use Rattle.clpi.proofs.read.clpi_read.Goals as goal

pub reading_of-requires : goal.reading_of-requires
reading_of-requires c =
    let F : List ℕ = c.args.file.now in
    let T : Nine (List ℕ) = let a = c.args in
    nine_tables_of a.atcs.now a.stcs.now a.programs.now a.streams.now a.maps.now a.entries.now a.extensions.now a.programs2.now a.streams2.now in
    let bytes : IsBytes F = (λ i. (c.type_inv.file i).fits) in
    counts_fit F bytes T c.read.result c.read.ensures.result_value

pub returns : goal.returns
returns c =
    let F : List ℕ = c.args.file.now in
    let T : Nine (List ℕ) = let a = c.args in
    nine_tables_of a.atcs.now a.stcs.now a.programs.now a.streams.now a.maps.now a.entries.now a.extensions.now a.programs2.now a.streams2.now in
    let e = c.read.ensures in
    let n = c.read.new in
    let N : Nine (List ℕ) = nine_tables_of n.atcs n.stcs n.programs n.streams n.maps n.entries n.extensions n.programs2 n.streams2 in
    record {
      result_value = c.reading_of.ensures ∙ ap read_numbers e.result_value;
      streams2_after =
          tables_are F T N c.read.result e.result_value e.atcs_after e.stcs_after e.programs_after e.streams_after e.maps_after e.entries_after
          e.extensions_after e.programs2_after e.streams2_after;
    }
