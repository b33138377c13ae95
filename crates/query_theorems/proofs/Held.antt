-- What the definitions answer from tables that hold the old file's rows and from tables that hold the new one's is the same.
use Prim.Native.Nat.{ℕ, ◌<◌}
use mathlib.Core.Path.{◌≡◌, sym, ap}
use mathlib.Core.List.{List, [], ◌∷◌}
use lib.Dec.{lit<}
use Rattle.format.specs.ClipRecord.{Row, Clip, Record, entry_cells}
use Rattle.format.specs.Reading.{record_of}
use Rattle.format.specs.Tables.{Table, HoldsRows, stc_cells, stream_cells}
use Rattle.format.specs.Questions.{Question, parts_of, ask}
use Rattle.format.specs.Questions as of
use Rattle.format.proofs.Lists.{All, none, more}
use Rattle.format.proofs.Tables.{Cells}
use Rattle.format.proofs.ClipTables.{Shaped, rows_held, is_stated_lem}
use Rattle.queries.specs.Asked.{only_stcs, only_programs, only_streams, only_maps, maps_and_entries, atcs_and_stcs}
use Rattle.table_rows.specs.OwnRows.{head_cells, is_counted, may_ask, owned_rows}
use Rattle.theorems.specs.Rewriting.{Rewritable, rewritten, RewritingKeeps}
use Rattle.theorems.proofs.Rewriting.{rewriting_keeps, file_shaped}

-- the rows of a header row depend on the rows held alone
own_held : (cell cells : ℕ) → 0 < cells → {heads rows : List Row} → All (Cells head_cells) heads → All (Cells cells) rows → (old₁ old₂ new₁ new₂ : Table) (head : ℕ)
    → HoldsRows old₁ heads → HoldsRows old₂ rows → HoldsRows new₁ heads → HoldsRows new₂ rows → owned_rows cell cells old₁ old₂ head ≡ owned_rows cell cells new₁ new₂ head
unfolding owned_rows may_ask is_counted
own_held cell cells pos hs rs old₁ old₂ new₁ new₂ head a b c d =
    rw (
      rows_held head_cells old₁ hs a,
      rows_held cells old₂ rs b,
      rows_held head_cells new₁ hs c,
      rows_held cells new₂ rs d,
      is_stated_lem head_cells old₁ hs a (lit< tt),
      is_stated_lem cells old₂ rs b pos,
      is_stated_lem head_cells new₁ hs c (lit< tt),
      is_stated_lem cells new₂ rs d pos,
    )

module _ (f : List ℕ) (h : Rewritable f) where
  -- demand 3, of which the third and the fourth part are used
  keeps : RewritingKeeps f
  keeps = rewriting_keeps f h

  -- every row of the record has the cells of its table
  shaped : Shaped (record_of f).clip
  shaped = file_shaped f h

  -- the two records, which are one
  abbrev old : Clip
  old = (record_of f).clip

  abbrev new : Clip
  new = (record_of (rewritten f)).clip

  -- rewriting keeps the scalars and the rows
  one_record : old ≡ new
  one_record = sym (ap (λ (r : Record). r.clip) keeps.same)

  -- the same numbers
  pub rate : old.scalars.rate ≡ new.scalars.rate
  rate = ap (λ (c : Clip). c.scalars.rate) one_record

  -- the packet count is kept as the rate is
  pub packets : old.scalars.packets ≡ new.scalars.packets
  packets = ap (λ (c : Clip). c.scalars.packets) one_record

  -- a question about the STCs
  pub of_stcs : (q : Question) → parts_of q ≡ of.stcs ∷ [] → (s t : Table) → HoldsRows s old.stcs → HoldsRows t new.stcs → ask q (only_stcs s) ≡ ask q (only_stcs t)
  of_stcs q one s t hs ht = keeps.alike q (only_stcs s) (only_stcs t) (rw one (more hs none)) (rw one (more ht none))

  -- about the programs
  pub of_programs : (q : Question) → parts_of q ≡ of.programs ∷ [] → (s t : Table) → HoldsRows s old.programs → HoldsRows t new.programs → ask q (only_programs s) ≡ ask q (only_programs t)
  of_programs q one s t hs ht = keeps.alike q (only_programs s) (only_programs t) (rw one (more hs none)) (rw one (more ht none))

  -- about the streams
  pub of_streams : (q : Question) → parts_of q ≡ of.streams ∷ [] → (s t : Table) → HoldsRows s old.streams → HoldsRows t new.streams → ask q (only_streams s) ≡ ask q (only_streams t)
  of_streams q one s t hs ht = keeps.alike q (only_streams s) (only_streams t) (rw one (more hs none)) (rw one (more ht none))

  -- about the maps
  pub of_maps_lem : (q : Question) → parts_of q ≡ of.maps ∷ [] → (s t : Table) → HoldsRows s old.maps → HoldsRows t new.maps → ask q (only_maps s) ≡ ask q (only_maps t)
  of_maps_lem q one s t hs ht = keeps.alike q (only_maps s) (only_maps t) (rw one (more hs none)) (rw one (more ht none))

  -- about the maps and their entries
  pub of_entries : (q : Question) → parts_of q ≡ of.maps ∷ of.entries ∷ [] → (s₁ t₁ s₂ t₂ : Table)
      → HoldsRows s₁ old.maps → HoldsRows t₁ new.maps → HoldsRows s₂ old.entries → HoldsRows t₂ new.entries
      → ask q (maps_and_entries s₁ s₂) ≡ ask q (maps_and_entries t₁ t₂)
  of_entries q two s₁ t₁ s₂ t₂ a b c d = keeps.alike q (maps_and_entries s₁ s₂) (maps_and_entries t₁ t₂) (rw two (more a (more c none))) (rw two (more b (more d none)))

  -- about the ATCs and their STCs
  pub of_atcs_lem : (q : Question) → parts_of q ≡ of.atcs ∷ of.stcs ∷ [] → (s₁ t₁ s₂ t₂ : Table)
      → HoldsRows s₁ old.atcs → HoldsRows t₁ new.atcs → HoldsRows s₂ old.stcs → HoldsRows t₂ new.stcs
      → ask q (atcs_and_stcs s₁ s₂) ≡ ask q (atcs_and_stcs t₁ t₂)
  of_atcs_lem q two s₁ t₁ s₂ t₂ a b c d = keeps.alike q (atcs_and_stcs s₁ s₂) (atcs_and_stcs t₁ t₂) (rw two (more a (more c none))) (rw two (more b (more d none)))

  -- the STCs of an ATC
  pub own_stcs : (head : ℕ) (s₁ t₁ s₂ t₂ : Table) → HoldsRows s₁ old.atcs → HoldsRows t₁ new.atcs → HoldsRows s₂ old.stcs → HoldsRows t₂ new.stcs
      → owned_rows 1 stc_cells s₁ s₂ head ≡ owned_rows 1 stc_cells t₁ t₂ head
  own_stcs head s₁ t₁ s₂ t₂ a b c d = own_held 1 stc_cells (lit< tt) shaped.atcs shaped.stcs s₁ s₂ t₁ t₂ head a c (rw (← one_record) at b) (rw (← one_record) at d)

  -- the streams of a program
  pub own_streams : (head : ℕ) (s₁ t₁ s₂ t₂ : Table) → HoldsRows s₁ old.programs → HoldsRows t₁ new.programs → HoldsRows s₂ old.streams → HoldsRows t₂ new.streams
      → owned_rows 2 stream_cells s₁ s₂ head ≡ owned_rows 2 stream_cells t₁ t₂ head
  own_streams head s₁ t₁ s₂ t₂ a b c d = own_held 2 stream_cells (lit< tt) shaped.programs shaped.streams s₁ s₂ t₁ t₂ head a c (rw (← one_record) at b) (rw (← one_record) at d)

  -- the entries of a map
  pub own_entries : (head : ℕ) (s₁ t₁ s₂ t₂ : Table) → HoldsRows s₁ old.maps → HoldsRows t₁ new.maps → HoldsRows s₂ old.entries → HoldsRows t₂ new.entries
      → owned_rows 2 entry_cells s₁ s₂ head ≡ owned_rows 2 entry_cells t₁ t₂ head
  own_entries head s₁ t₁ s₂ t₂ a b c d = own_held 2 entry_cells (lit< tt) shaped.maps shaped.entries s₁ s₂ t₁ t₂ head a c (rw (← one_record) at b) (rw (← one_record) at d)
