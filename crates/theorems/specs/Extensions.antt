-- Extensions: which entries of a block are kept and which are left out; the (2, 5) list absent, empty and filled.
use Rattle.std.specs.Prelude.{ℕ, ◌+◌, ◌*◌, ◌<◌, ◌≤◌, ◌≡◌, true, false, length, replicate}
use mathlib.Core.List.{List, [], ◌∷◌, ◌++◌, Memᴰ}
use Rattle.format.specs.Bytes.{be_at, part}
use Rattle.format.specs.ClipRecord.{Row, Extension}
use Rattle.format.specs.Programs.{programs_from, streams_from}
use Rattle.format.specs.Extensions.{extension_count, address_at, data_length_at, extension_at, has_extensions, extension_rows, data_of, extension_of, nothing, found, list_data, list_in}
use Rattle.format.specs.Reading.{record_of}
use Rattle.format.proofs.Lists.{All}

-- where entry k of the block at `start` stands
abbrev pub entry_at : ℕ → ℕ → ℕ
entry_at start k = start + 12 + 12 * k

-- an entry that is not left out: its address, counted from the block's start, is not 0, and its data ends within the block, whose length is
-- counted behind its own four bytes, and within the file
pub record Kept (f : List ℕ) (start p : ℕ) : Type 0 where
  pub address : address_at f p ≡ 0 → ⊥
  pub in_block : address_at f p + data_length_at f p ≤ 4 + be_at f start 4
  pub in_file : start + address_at f p + data_length_at f p ≤ length f

-- a row of table 7 is that of an entry which is kept, and its data is whole
pub record IsKept (f : List ℕ) (start : ℕ) (row : Row) : Type 0 where
  pub entry : ℕ
  pub one_of : entry < extension_count f start
  pub kept : Kept f start (entry_at start entry)
  pub row_is : row ≡ extension_at f start (entry_at start entry)
  pub whole : length (data_of f row) ≡ data_length_at f (entry_at start entry)

-- an extension with the ids of the list
abbrev pub IsList : Extension → Type 0
IsList x = (x.id1 ≡ 2) × (x.id2 ≡ 5)

-- a file of 29 bytes: one byte, a block whose length is 22, and two bytes. The block's entry, with ids 7 and 9, has n bytes of data from its byte 24 on
abbrev pub block_of : ℕ → List ℕ
block_of n =
    (0 ∷ 0 ∷ 0 ∷ 0 ∷ 22 ∷ 0 ∷ 0 ∷ 0 ∷ 0 ∷ 0 ∷ 0 ∷ 0 ∷ 1 ∷ [])
    ++ (0 ∷ 7 ∷ 0 ∷ 9 ∷ 0 ∷ 0 ∷ 0 ∷ 24 ∷ 0 ∷ 0 ∷ 0 ∷ n ∷ [])
    ++ (1 ∷ 2 ∷ 3 ∷ 4 ∷ [])

-- the rows of a block at any start are the entries that the rule keeps, and the list is that of the first (2, 5) entry
pub record Extensions (f : List ℕ) : Type 0 where
  -- every row is kept by the rule
  pub rows : (start : ℕ) → All (IsKept f start) (extension_rows f start)
  -- and every entry that the rule keeps has its row
  pub all : (start k : ℕ) → has_extensions f start ≡ true → k < extension_count f start → Kept f start (entry_at start k)
      → Memᴰ (extension_at f start (entry_at start k)) (extension_rows f start)
  -- in the record an entry counts by its two ids and its data's bytes
  pub as_record : (start p : ℕ) → extension_of f (extension_at f start p) ≡ record { id1 = be_at f p 2; id2 = be_at f (p + 2) 2; bytes = part f (start + address_at f p) (data_length_at f p) }
  -- a block with a failed read, and a start without a block, have no rows
  pub no_block : (start : ℕ) → has_extensions f start ≡ false → extension_rows f start ≡ []
  -- the (2, 5) list is read from the first entry kept with these ids, whatever stands behind it
  pub first : (before : List Extension) (x : Extension) (behind : List Extension) → All (λ y. IsList y → ⊥) before → IsList x
      → list_data (before ++ (x ∷ behind)) ≡ found x.bytes
  pub without : {xs : List Extension} → All (λ y. IsList y → ⊥) xs → list_data xs ≡ nothing
  -- with no list there are no rows of it; six zero bytes are an empty list, which is there; five bytes are none
  pub absent : (record_of f).has_list ≡ false → ((record_of f).list_programs ≡ []) × ((record_of f).list_streams ≡ [])
  pub empty : (list_in (found (replicate 6 0)) ≡ true) × (programs_from (replicate 6 0) 0 ≡ []) × (streams_from (replicate 6 0) 0 ≡ [])
  pub none : list_in (found (replicate 5 0)) ≡ false
  -- a block of 26 bytes with two bytes behind it: an entry whose data ends with the block is kept, one whose data has a byte more is not
  pub ends_with_block : extension_rows (block_of 2) 1 ≡ (7 ∷ 9 ∷ 25 ∷ 2 ∷ []) ∷ []
  pub past_block : extension_rows (block_of 3) 1 ≡ []
