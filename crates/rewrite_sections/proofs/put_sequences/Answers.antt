-- The head is stored, and behind it the bytes of the file, which are the items.
use Prim.Native.Nat.{◌+◌, ◌*◌, ◌^◌, ◌<◌, ◌≤◌}
use mathlib.Core.Path.{refl, sym, ap, ◌∙◌}
use native.Mathlib.Omega.{arith}
use lib.ListN.{length}
use lib.Seq.{sets}
use Rattle.format.specs.Bytes.{part}
use Rattle.format.proofs.Stores.{part_then}
use Rattle.section_heads.proofs.Stored.{section_head, section_head_lem}
use Rattle.rewrite_sections.proofs.Groups.{sequences_end_lem, sequences_are}
use Rattle.rewrite_sections.proofs.Lengths.{sequences_short}
use borrow.Author.Rules.{rules}
use Rattle.rewrite_sections.proofs.put_sequences.Goals as goal

pub overflow_cast-items : goal.overflow_cast-items
overflow_cast-items c =
    let short : 6 + 6 * c.args.atcs + 14 * c.args.stcs < 2 ^ 32 =
    rw (c.requires.atcs_are, c.requires.stcs_are) (sequences_short c.args.file.now (λ i. (c.type_inv.file i).fits) c.args.from.file) in
    record { fits = omega (arith, short) }

pub overflow_cast-atcs : goal.overflow_cast-atcs
overflow_cast-atcs c =
    let short : 6 + 6 * c.args.atcs + 14 * c.args.stcs < 2 ^ 32 =
    rw (c.requires.atcs_are, c.requires.stcs_are) (sequences_short c.args.file.now (λ i. (c.type_inv.file i).fits) c.args.from.file) in
    record { fits = omega (arith, short) }

pub overflow_add-from : goal.overflow_add-from
overflow_add-from c =
    let within : c.args.from.file + 6 + (6 * c.args.atcs + 14 * c.args.stcs) ≤ length c.args.file.now = rw (c.requires.atcs_are, c.requires.stcs_are) (omega (arith, sequences_end_lem c.args.file.now c.args.from.file, c.requires.ends)) in
    omega (arith, within)

pub copy-requires : goal.copy-requires
copy-requires c =
    let within : c.args.from.file + 6 + (6 * c.args.atcs + 14 * c.args.stcs) ≤ length c.args.file.now = rw (c.requires.atcs_are, c.requires.stcs_are) (omega (arith, sequences_end_lem c.args.file.now c.args.from.file, c.requires.ends)) in (omega (arith, within), search rules)

pub returns : goal.returns
returns c =
    let a = c.args in
    let f = a.file.now in
    let items = 6 * a.atcs + 14 * a.stcs in
    let is = sequences_are f a.from.file (λ i. (c.type_inv.file i).fits) c.requires.ends c.requires.atcs_are c.requires.stcs_are in record {
      value = omega arith;
      out_after = part_then a.out.now a.from.out 6 (section_head (2 + items) a.atcs) (part f (a.from.file + 6) items) (section_head_lem (2 + items) a.atcs) refl
          c.put_head.ensures c.copy.ensures
          ∙ ap (sets a.out.now a.from.out) (sym is);
    }
