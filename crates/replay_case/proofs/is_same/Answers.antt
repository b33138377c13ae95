-- A refusal has the number 1 alone; else the numbers, the tables and the extensions make up the whole.
use Prim.Native.Nat.{ℕ}
use mathlib.Core.Path.{◌≡◌, refl, ap, ◌∙◌}
use mathlib.Core.List.{List, [], ◌∷◌}
use lib.ListN.{get_or}
use Rattle.format.specs.Bytes.{IsBytes}
use Rattle.format.specs.Refusals.{read_answer, read_numbers, tables_after}
use Rattle.format.specs.Tables.{Nine, row_bytes_of}
use Rattle.clpi_reading.specs.declared.ClpiReading.{ClpiReading}
use Rattle.clpi_reading.specs.Numbers.{reading_numbers}
use Rattle.replay_case.specs.Expected.{sample_tables}
use Rattle.replay_case.proofs.FileLaws.{ends_same, refused_alone, extensions_held, file_same}
use Rattle.replay_case.proofs.is_same.Goals as goal

pub returns-then-r-ne0 : goal.returns-then-r-ne0
unfolding sample_tables
returns-then-r-ne0 c =
    let F : List ℕ = c.args.file.now in
    let A : List ℕ = c.args.answer.now in
    let R : ClpiReading = c.clpi_read-r.result in
    let numbers : reading_numbers R ≡ read_numbers (read_answer F sample_tables) = c.clpi_read-r.ensures.result_value in
    let alone = refused_alone F (read_answer F sample_tables) refl (λ e. c.if-r-ne0.true (ap (λ (l : List ℕ). get_or l 0 0) numbers ∙ e)) in
    rw alone (c.eq.ensures ∙ rw c.pass_numbers.ensures (ends_same A (row_bytes_of (1 ∷ []))))

pub pass_file-requires : goal.pass_file-requires
unfolding sample_tables
pass_file-requires c =
    let F : List ℕ = c.args.file.now in
    let bytes : IsBytes F = (λ i. (c.type_inv.file i).fits) in
    let R : ClpiReading = c.clpi_read-r.result in
    let n = c.clpi_read-r.new in
    let T : Nine (List ℕ) = record {
      atcs = n.atcs;
      stcs = n.stcs;
      programs = n.programs;
      streams = n.streams;
      maps = n.maps;
      entries = n.entries;
      extensions = n.extensions;
      list_programs = n.programs2;
      list_streams = n.streams2;
    } in
    let numbers : reading_numbers R ≡ read_numbers (read_answer F sample_tables) = c.clpi_read-r.ensures.result_value in
    let after : T ≡ tables_after F sample_tables = c.clpi_read-r.ensures.streams2_after in
    extensions_held F bytes R T numbers after c.if-r-ne0.false

pub returns : goal.returns
unfolding sample_tables
returns c =
    let F : List ℕ = c.args.file.now in
    let A : List ℕ = c.args.answer.now in
    let bytes : IsBytes F = (λ i. (c.type_inv.file i).fits) in
    let R : ClpiReading = c.clpi_read-r.result in
    let n = c.clpi_read-r.new in
    let T : Nine (List ℕ) = record {
      atcs = n.atcs;
      stcs = n.stcs;
      programs = n.programs;
      streams = n.streams;
      maps = n.maps;
      entries = n.entries;
      extensions = n.extensions;
      list_programs = n.programs2;
      list_streams = n.streams2;
    } in
    let numbers : reading_numbers R ≡ read_numbers (read_answer F sample_tables) = c.clpi_read-r.ensures.result_value in
    let after : T ≡ tables_after F sample_tables = c.clpi_read-r.ensures.streams2_after in
    c.eq-2.ensures ∙ file_same F bytes R T numbers after c.if-r-ne0.false A c.pass_file.ensures
