-- The sequences and the programs are read back from their bytes.
use Prim.Native.Nat.{ℕ, ◌+◌, ◌*◌, ◌/◌, ◌<◌, ◌≤◌}
use mathlib.Core.Path.{◌≡◌, refl, ap, ◌∙◌}
use mathlib.Core.List.{List, [], ◌∷◌, map}
use mathlib.Core.Bool.{Bool, true, false}
use native.Mathlib.Nat.{add_assoc}
use native.Mathlib.Omega.{arith}
use lib.ListN.{length, get_or, length-append}
use lib.Dec.{eqb}
use borrow.Author.Tests.{eqb-true}
use Rattle.format.specs.Bytes.{pick, be_at, bytes_of, field_bytes}
use Rattle.format.specs.ClipRecord.{Row, Clip, atc_stc_count, stream_count, coding_type_of, aspect, language, atc_at, stc_at, next_stc, atcs_from, stcs_from, sequences_end}
use Rattle.format.specs.Programs.{is_video, lower, lowered, stream_at, next_stream, program_at, programs_from, streams_from, programs_end, lowered_stream}
use Rattle.format.specs.Rewriting.{groups, section_bytes, atc_bytes, stc_bytes, sequences_bytes, program_bytes, stream_bytes_by, stream_bytes, programs_bytes}
use Rattle.format.proofs.Fields.{Fit, one}
use Rattle.format.proofs.Good.{GoodAtc, GoodStc, GoodProgram, GoodStream, GoodClip}
use Rattle.format.proofs.Numbers.{Stands, left, right, bytes_length, Fill, fill, fields_back, fields_length}
use Rattle.format.proofs.Rows.{as_is, map_as_is, groups_back}

-- no language is still none when lowered
lowered_zero : lowered 0 ≡ 0
unfolding lowered lower
lowered_zero = refl

-- ---- rows

module _ (s : List ℕ) (p : ℕ) where
  -- a good ATC is read back from its six bytes
  pub atc_back : (row : Row) → GoodAtc row → Stands s p (atc_bytes row) → (atc_at s p ≡ row) × (length (atc_bytes row) ≡ 6)
  atc_back row (one {v = a} ha (one {v = b} hb (one {v = c} hc Fit.none))) t =
      let f = fill 4 a ha (fill 1 b hb (fill 1 c hc Fill.none)) in
      let e : p + 4 + 1 ≡ p + 5 = omega arith in
      (rw e at (fields_back p f t), fields_length f)

  -- a good STC is read back, and the next one stands behind its bytes
  pub stc_back : (row : Row) → GoodStc row → Stands s p (stc_bytes row) → (stc_at s p ≡ row) × (next_stc p ≡ p + length (stc_bytes row))
  stc_back row (one {v = a} ha (one {v = b} hb (one {v = c} hc (one {v = d} hd Fit.none)))) t =
      let f = fill 2 a ha (fill 4 b hb (fill 4 c hc (fill 4 d hd Fill.none))) in
      let e : p + 2 + 4 ≡ p + 6 = omega arith in
      let e' : p + 6 + 4 ≡ p + 10 = omega arith in
      (rw (e, e') at (fields_back p f t), rw (fields_length f))

  -- a good program is read back from its eight bytes
  pub program_back : (row : Row) → GoodProgram row → Stands s p (program_bytes row) → (program_at s p ≡ row) × (length (program_bytes row) ≡ 8)
  program_back row (one {v = a} ha (one {v = b} hb (one {v = c} hc Fit.none))) t =
      let f = fill 4 a ha (fill 2 b hb (fill 1 c hc Fill.none)) in
      let e : p + 4 + 2 ≡ p + 6 = omega arith in
      let bytes = field_bytes (4 ∷ 2 ∷ 1 ∷ []) (a ∷ b ∷ c ∷ []) in (
        rw e at (fields_back p f (left bytes (bytes_of 1 0) t)),
        length-append bytes (bytes_of 1 0) ∙ omega (arith, fields_length f, bytes_length 1 0),
      )

  -- a stream is read back, its language lowered, from each kind of body: video, without a language, with one
  stream_go : (row : Row) (v z : Bool) → Fit (16 ∷ 8 ∷ 8 ∷ 4 ∷ 24 ∷ []) row → is_video (coding_type_of row) ≡ v → eqb (language row) 0 ≡ z
      → pick v (eqb (language row) 0) (eqb (aspect row) 0) ≡ true
      → Stands s p (stream_bytes_by v z row) → (stream_at s p ≡ lowered_stream row) × (next_stream s p ≡ p + length (stream_bytes_by v z row))
  stream_go row true z (one {v = pid} ha (one {v = coding} hb (one {v = format} hc (one {v = aspect} hd (one {v = lang} he Fit.none))))) video lz only t =
      let f : Fill (2 ∷ 1 ∷ 1 ∷ 1 ∷ 1 ∷ []) (pid ∷ 3 ∷ coding ∷ format ∷ aspect * 16 ∷ []) =
      fill 2 pid ha (fill 1 3 (omega arith) (fill 1 coding hb (fill 1 format hc (fill 1 (aspect * 16) (omega arith) Fill.none)))) in
      let b = fields_back p f t in
      let size : be_at s (p + 2) 1 ≡ 3 = ap (λ (l : List ℕ). get_or l 1 0) b in
      let i : p + 2 + 1 ≡ p + 3 = omega arith in
      let j : p + 3 + 1 + 1 ≡ p + 3 + 2 = omega arith in
      let b' = rw (i, j) at b in
      let c0 : be_at s p 2 ≡ pid = ap (λ (l : List ℕ). get_or l 0 0) b' in
      let c1 : be_at s (p + 3) 1 ≡ coding = ap (λ (l : List ℕ). get_or l 2 0) b' in
      let c2 : be_at s (p + 3 + 1) 1 ≡ format = ap (λ (l : List ℕ). get_or l 3 0) b' in
      let c3 : be_at s (p + 3 + 2) 1 ≡ aspect * 16 = ap (λ (l : List ℕ). get_or l 4 0) b' in
      let c4 : aspect * 16 / 16 ≡ aspect = omega arith in
      let c5 : lang ≡ 0 = eqb-true lang 0 only in
      (rw (size, c0, c1, c2, video, c3, c4, c5, lowered_zero), rw (size, fields_length f) (omega arith))
  stream_go row false true (one {v = pid} ha (one {v = coding} hb (one {v = format} hc (one {v = aspect} hd (one {v = lang} he Fit.none))))) video lz only t =
      let f : Fill (2 ∷ 1 ∷ 1 ∷ 1 ∷ []) (pid ∷ 2 ∷ coding ∷ format ∷ []) =
      fill 2 pid ha (fill 1 2 (omega arith) (fill 1 coding hb (fill 1 format hc Fill.none))) in
      let b = fields_back p f t in
      let size : be_at s (p + 2) 1 ≡ 2 = ap (λ (l : List ℕ). get_or l 1 0) b in
      let i : p + 2 + 1 ≡ p + 3 = omega arith in
      let b' = rw i at b in
      let c0 : be_at s p 2 ≡ pid = ap (λ (l : List ℕ). get_or l 0 0) b' in
      let c1 : be_at s (p + 3) 1 ≡ coding = ap (λ (l : List ℕ). get_or l 2 0) b' in
      let c2 : be_at s (p + 3 + 1) 1 ≡ format = ap (λ (l : List ℕ). get_or l 3 0) b' in
      let c4 : aspect ≡ 0 = eqb-true aspect 0 only in
      let c5 : lang ≡ 0 = eqb-true lang 0 lz in
      (rw (size, c0, c1, c2, video, c4, c5, lowered_zero), rw (size, fields_length f) (omega arith))
  stream_go row false false (one {v = pid} ha (one {v = coding} hb (one {v = format} hc (one {v = aspect} hd (one {v = lang} he Fit.none))))) video lz only t =
      let f : Fill (2 ∷ 1 ∷ 1 ∷ 1 ∷ 3 ∷ []) (pid ∷ 5 ∷ coding ∷ format ∷ lang ∷ []) =
      fill 2 pid ha (fill 1 5 (omega arith) (fill 1 coding hb (fill 1 format hc (fill 3 lang he Fill.none)))) in
      let b = fields_back p f t in
      let size : be_at s (p + 2) 1 ≡ 5 = ap (λ (l : List ℕ). get_or l 1 0) b in
      let i : p + 2 + 1 ≡ p + 3 = omega arith in
      let j : p + 3 + 1 + 1 ≡ p + 3 + 2 = omega arith in
      let b' = rw (i, j) at b in
      let c0 : be_at s p 2 ≡ pid = ap (λ (l : List ℕ). get_or l 0 0) b' in
      let c1 : be_at s (p + 3) 1 ≡ coding = ap (λ (l : List ℕ). get_or l 2 0) b' in
      let c2 : be_at s (p + 3 + 1) 1 ≡ format = ap (λ (l : List ℕ). get_or l 3 0) b' in
      let c3 : be_at s (p + 3 + 2) 3 ≡ lang = ap (λ (l : List ℕ). get_or l 4 0) b' in
      let c4 : aspect ≡ 0 = eqb-true aspect 0 only in
      (rw (size, c0, c1, c2, video, c3, c4), rw (size, fields_length f) (omega arith))

  -- a good stream is read back, its language lowered, and the next one stands behind its bytes
  pub stream_back : (row : Row) → GoodStream row → Stands s p (stream_bytes row) → (stream_at s p ≡ lowered_stream row) × (next_stream s p ≡ p + length (stream_bytes row))
  stream_back row g t = stream_go row (is_video (coding_type_of row)) (eqb (language row) 0) g.cells refl refl g.only t

  -- ---- a section's header
  -- the count of a section is read back, and its items stand six bytes behind its start
  pub section_back : (count : ℕ) (items : List ℕ) → count ≤ 255 → length items < 4294967000 → Stands s p (section_bytes count items)
      → (be_at s (p + 5) 1 ≡ count) × Stands s (p + 6) items
  section_back count items few short t =
      let f : Fill (4 ∷ 1 ∷ 1 ∷ []) ((2 + length items) ∷ 0 ∷ count ∷ []) =
      fill 4 (2 + length items) (omega arith) (fill 1 0 (omega arith) (fill 1 count (omega arith) Fill.none)) in
      let head = field_bytes (4 ∷ 1 ∷ 1 ∷ []) ((2 + length items) ∷ 0 ∷ count ∷ []) in
      let e : p + 4 + 1 ≡ p + 5 = omega arith in (
        ap (λ (l : List ℕ). get_or l 2 0) (rw e at (fields_back p f (left head items t))),
        right head items (p + 6) (rw (fields_length f)) t,
      )

-- ---- sections

-- a section has six bytes before its items
pub section_length : (count : ℕ) (items : List ℕ) → length (section_bytes count items) ≡ 6 + length items
section_length count items = simp (length-append, bytes_length)

module _ (s : List ℕ) (p most : ℕ) (c : Clip) (g : GoodClip most c) where
  -- a good record's ATCs and STCs are read back from its sequences, which end where their bytes do
  pub sequences_back : length (sequences_bytes c) < 4294967000 → Stands s p (sequences_bytes c)
      → (atcs_from s p ≡ c.atcs) × (stcs_from s p ≡ c.stcs) × (sequences_end s p ≡ p + length (sequences_bytes c))
  unfolding sequences_bytes atcs_from stcs_from sequences_end
  sequences_back short t =
      let items = groups atc_bytes atc_stc_count stc_bytes c.atcs c.stcs in
      let size = section_length (length c.atcs) items in
      let h = section_back s p (length c.atcs) items g.atcs_few (omega arith) t in
      let b = groups_back s (atc_at s) 6 atc_bytes atc_stc_count GoodAtc (atc_back s) (stc_at s) next_stc stc_bytes as_is GoodStc (stc_back s)
      g.atcs_good g.stcs_good g.stcs_add (p + 6) h.1 in
      (rw h.0 b.0, rw h.0 (b.1 ∙ map_as_is c.stcs), rw h.0 (b.2 ∙ rw size (add_assoc p 6 (length items))))

  -- a good record's programs are read back, and its streams with their languages lowered; the section ends where its bytes do
  pub programs_back : length (programs_bytes c) < 4294967000 → Stands s p (programs_bytes c)
      → (programs_from s p ≡ c.programs) × (streams_from s p ≡ map lowered_stream c.streams) × (programs_end s p ≡ p + length (programs_bytes c))
  unfolding programs_bytes programs_from streams_from programs_end
  programs_back short t =
      let items = groups program_bytes stream_count stream_bytes c.programs c.streams in
      let size = section_length (length c.programs) items in
      let h = section_back s p (length c.programs) items g.programs_few (omega arith) t in
      let b = groups_back s (program_at s) 8 program_bytes stream_count GoodProgram (program_back s) (stream_at s) (next_stream s) stream_bytes lowered_stream GoodStream (stream_back s)
      g.programs_good g.streams_good g.streams_add (p + 6) h.1 in
      (rw h.0 b.0, rw h.0 b.1, rw h.0 (b.2 ∙ rw size (add_assoc p 6 (length items))))
