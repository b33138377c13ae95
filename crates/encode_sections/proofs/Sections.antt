-- Whole sections: those of a record, how long they are, and the two parts that are stored.
use Prim.Native.Nat.{ℕ, ◌+◌, ◌-◌, ◌≤◌}
use mathlib.Core.Path.{◌≡◌, refl, sym, ap, ◌∙◌}
use mathlib.Core.List.{List, ◌++◌}
use native.Mathlib.Omega.{arith}
use lib.ListN.{length}
use Rattle.format.specs.Bytes.{flat, total}
use Rattle.format.specs.ClipRecord.{Clip}
use Rattle.format.specs.Rewriting.{sequences_bytes, programs_bytes}
use Rattle.format.proofs.Tables.{rows_stated}
use Rattle.format.proofs.Sections.{section_length}
use Rattle.section_heads.proofs.Stored.{section_head}
use Rattle.row_values.specs.Kinds.{cells_of, bytes_by}
use Rattle.encode_sections.specs.Sections.{head_kind, row_kind, count_of, items_of, section_of, heads_in, own_in, items_in, section_in, Counted, Storable}
use Rattle.section_heads.specs.declared.Section.{Section}
use Rattle.encode_sections.proofs.Groups.{groups_length}

-- ---- the sections of a record

-- the sequences
pub sequences_are : (c : Clip) → sequences_bytes c ≡ section_of Section.Sequences c.atcs c.stcs
unfolding sequences_bytes
sequences_are c = refl

-- the programs
pub programs_are : (c : Clip) → programs_bytes c ≡ section_of Section.Programs c.programs c.streams
unfolding programs_bytes
programs_are c = refl

-- ---- a section in tables

module _ {section : Section} {heads : List ℕ} {n : ℕ} {rows : List ℕ} {m : ℕ} (c : Counted section heads n rows m) where
  -- six bytes, the header rows and the rows
  pub section_is_long : {a b : ℕ} → a ≡ length (flat (bytes_by (head_kind section)) (heads_in section heads n)) → b ≡ length (flat (bytes_by (row_kind section)) (own_in section rows m))
      → 6 + a + b ≡ length (section_in section heads n rows m)
  section_is_long ea eb =
      let hs = heads_in section heads n in
      let rs = own_in section rows m in
      let adds : total (count_of section) hs ≡ length rs = c.adds ∙ sym (rows_stated (cells_of (row_kind section)) rows m) in
      omega (arith, ea, eb, section_length (length hs) (items_of section hs rs), groups_length (bytes_by (head_kind section)) (count_of section) (bytes_by (row_kind section)) hs rs adds)

  -- the rows that the header rows count are those that are stated
  pub items_are : items_in section heads n rows ≡ items_of section (heads_in section heads n) (own_in section rows m)
  items_are = ap (λ (k : ℕ). items_of section (heads_in section heads n) (own_in section rows k)) c.adds

-- ---- the two parts that are stored

module _ {section : Section} {heads : List ℕ} {n : ℕ} {rows : List ℕ} {m len : ℕ} {out : List ℕ} {at : ℕ} (s : Storable section heads n rows m len out at) where
  -- its length: the six bytes, and the items
  pub items_long : len ≡ 6 + length (items_in section heads n rows)
  items_long =
      let items = items_of section (heads_in section heads n) (own_in section rows m) in
      omega (arith, s.is_long, section_length (length (heads_in section heads n)) items, ap length (items_are s.counted))

  -- the head with the length of what follows, and the items
  pub section_parts : section_head (len - 4) n ++ items_in section heads n rows ≡ section_in section heads n rows m
  section_parts =
      let items = items_of section (heads_in section heads n) (own_in section rows m) in
      let size : len - 4 ≡ 2 + length items = omega (arith, items_long, ap length (items_are s.counted)) in
      rw (items_are s.counted, size, rows_stated (cells_of (head_kind section)) heads n)

  -- there is room for both
  pub parts_room : at + length (section_head (len - 4) n ++ items_in section heads n rows) ≤ length out
  parts_room = rw (section_parts, ← s.is_long) s.room
