-- The new file is accepted, and reads to the record that was written.
use Prim.Native.Nat.{ℕ, ◌+◌, ◌^◌, ◌<◌, ◌≤◌}
use mathlib.Core.Path.{◌≡◌, refl, sym, ap, ◌∙◌}
use mathlib.Core.List.{List, [], ◌∷◌, ◌++◌, append-nil, map}
use mathlib.Core.Bool.{true, false}
use native.Mathlib.Omega.{arith}
use lib.ListN.{length, get_or, length-append}
use lib.Dec.{leb, lit<}
use borrow.Author.Tests.{le-leb}
use Rattle.format.specs.Bytes.{be_at, field_bytes, fields_at}
use Rattle.format.specs.ClipRecord.{Clip, letters_right, sequences_start, programs_start, cpi_start, marks_start, scalars_of, clip_info_in, atcs_from, stcs_from, sequences_end, marks_from, marks_in}
use Rattle.format.specs.EntryPoints.{maps_from, entries_from, cpi_in, maps_in, maps_refusal}
use Rattle.format.specs.Extensions.{extension_rows, extensions_from, list_data, list_in}
use Rattle.format.specs.Programs.{programs_from, streams_from, programs_end, lowered_stream, lowered_clip}
use Rattle.format.specs.Reading.{clip_of, record_of}
use Rattle.format.specs.Refusals.{refusal_of}
use Rattle.format.specs.Rewriting.{sequences_bytes, programs_bytes, cpi_bytes, head_widths, head_values, head_bytes, marks_bytes, encode}
use Rattle.format.proofs.Cpi.{is_present, cpi_back}
use Rattle.format.proofs.Fields.{Fit, one}
use Rattle.format.proofs.Good.{IsWord, letters_are, Writable}
use Rattle.format.proofs.Lengths.{sequences_bound, programs_bound, cpi_bound}
use Rattle.format.proofs.Numbers.{Stands, left, right, bytes_length, Fill, fill, fields_back, fields_length}
use Rattle.format.proofs.Sections.{sequences_back, programs_back}
use Rattle.format.proofs.Tests.{true_both, pass, pass_on}
use Rattle.format.proofs.MapRefusals.{maps_pass}

-- either word is a number of 32 bits
word_below : {l : ℕ} → IsWord l → l < 2 ^ 32
word_below IsWord.is_hdmv = lit< tt
word_below IsWord.is_clpi = lit< tt

-- each value of the first 220 bytes fits its field: the letters and scalars of a record that can be written do, and so do starts below 2 ^ 32
head_fill : (c : Clip) (pr cp mk : ℕ) → Writable c → pr < 2 ^ 32 → cp < 2 ^ 32 → mk < 2 ^ 32 → Fill head_widths (head_values c.scalars pr cp mk)
head_fill c pr cp mk w h0 h1 h2 = go w.good.scalars
  where
    go : Fit (32 ∷ 8 ∷ 8 ∷ 32 ∷ 32 ∷ 8 ∷ 32 ∷ []) (c.scalars.version ∷ c.scalars.stream_type ∷ c.scalars.application_type ∷ c.scalars.rate ∷ c.scalars.packets ∷ c.scalars.validity_flags ∷ c.scalars.format_id ∷ [])
        → Fill head_widths (head_values c.scalars pr cp mk)
    go (one v0 (one v1 (one v2 (one v3 (one v4 (one v5 (one v6 Fit.none))))))) =
        fill 4 c.scalars.letters (word_below (letters_are c.scalars.letters w.letters)) (fill 4 c.scalars.version v0 (fill 4 220 (lit< tt) (fill 4 pr h0 (fill 4 cp h1 (fill 4 mk h2 (fill 4 0 (lit< tt)
        (fill 12 0 (lit< tt) (fill 4 176 (lit< tt) (fill 2 0 (lit< tt) (fill 1 c.scalars.stream_type v1 (fill 1 c.scalars.application_type v2 (fill 4 0 (lit< tt)
        (fill 4 c.scalars.rate v3 (fill 4 c.scalars.packets v4 (fill 128 0 (lit< tt) (fill 1 c.scalars.validity_flags v5 (fill 1 0 (lit< tt) (fill 4 c.scalars.format_id v6
        (fill 26 0 (lit< tt) Fill.none)))))))))))))))))))

-- a list of bytes stands in itself at 0
itself : (g : List ℕ) → Stands g 0 g
itself g = record { before = []; behind = []; place = refl; whole = sym (append-nil g) }

-- ---- the file of a record

-- how long the file g of a record is, what its first 220 bytes say, and where the bytes of each section stand
record Facts (c : Clip) (g : List ℕ) (pr cp mk : ℕ) : Type 0 where
  long : length g ≡ mk + 6
  head : fields_at g 0 head_widths ≡ head_values c.scalars pr cp mk
  sequences_at : Stands g 220 (sequences_bytes c)
  programs_at : Stands g pr (programs_bytes c)
  cpi_at : Stands g cp (cpi_bytes c)
  marks_at : Stands g mk marks_bytes

module _ (c : Clip) (w : Writable c) where
  -- where the programs, the CPI and the marks start, each behind the section before it
  abbrev pr : ℕ
  pr = 220 + length (sequences_bytes c)

  abbrev cp : ℕ
  cp = pr + length (programs_bytes c)

  abbrev mk : ℕ
  mk = cp + length (cpi_bytes c)

  -- the new file of such a record has its sections at these places: none is so long that a start passes 32 bits
  facts : Facts c (encode c) pr cp mk
  unfolding encode head_bytes
  facts =
      let sb = sequences_bound c w.good in
      let pb = programs_bound c w.good in
      let cb = cpi_bound c w.good in
      let f = head_fill c pr cp mk w (omega arith) (omega arith) (omega arith) in
      let h = field_bytes head_widths (head_values c.scalars pr cp mk) in
      let hl : length h ≡ 220 = fields_length f in
      let sq = sequences_bytes c in
      let pg = programs_bytes c in
      let ci = cpi_bytes c in
      let r3 = ci ++ marks_bytes in
      let r2 = pg ++ r3 in
      let r1 = sq ++ r2 in
      let all : Stands (h ++ r1) 0 (h ++ r1) = itself (h ++ r1) in
      let t1 : Stands (h ++ r1) 220 r1 = right h r1 220 (rw hl) all in
      let t2 : Stands (h ++ r1) pr r2 = right sq r2 pr refl t1 in
      let t3 : Stands (h ++ r1) cp r3 = right pg r3 cp refl t2 in
      let ml : length marks_bytes ≡ 6 = simp (length-append, bytes_length) in
      record {
        long = length-append h r1 ∙ rw (hl, length-append sq r2, length-append pg r3, length-append ci marks_bytes, ml) (omega arith);
        head = fields_back 0 f (left h r1 all);
        sequences_at = left sq r2 t1;
        programs_at = left pg r3 t2;
        cpi_at = left ci marks_bytes t3;
        marks_at = right ci marks_bytes mk refl t3;
      }

-- ---- what is read of it

module _ (c : Clip) (w : Writable c) where
  -- each field of the first 220 bytes is read as the value that was written
  at : (i : ℕ) → get_or (fields_at (encode c) 0 head_widths) i 0 ≡ get_or (head_values c.scalars (pr c w) (cp c w) (mk c w)) i 0
  at i = ap (λ (l : List ℕ). get_or l i 0) (facts c w).head

  -- the new file stays below 536,870,912 bytes: no refusal 20
  pub is_short : length (encode c) ≤ 402515706
  is_short =
      let sb = sequences_bound c w.good in
      let pb = programs_bound c w.good in
      let cb = cpi_bound c w.good in
      let l = (facts c w).long in
      omega arith

  -- its sequences read to the ATCs and STCs of the record, and end where their bytes do
  sequences : (atcs_from (encode c) 220 ≡ c.atcs) × (stcs_from (encode c) 220 ≡ c.stcs) × (sequences_end (encode c) 220 ≡ 220 + length (sequences_bytes c))
  sequences = let sb = sequences_bound c w.good in sequences_back (encode c) 220 65535 c w.good (omega arith) (facts c w).sequences_at

  -- its programs read to those of the record, the streams with their languages lowered, and end where their bytes do
  programs : (programs_from (encode c) (pr c w) ≡ c.programs) × (streams_from (encode c) (pr c w) ≡ map lowered_stream c.streams)
      × (programs_end (encode c) (pr c w) ≡ pr c w + length (programs_bytes c))
  programs = let pb = programs_bound c w.good in programs_back (encode c) (pr c w) 65535 c w.good (omega arith) (facts c w).programs_at

  -- its CPI reads to the maps and entries of the record, and passes the tests of refusal 6 and those of each map
  cpi : (maps_from (encode c) (cp c w) ≡ c.maps) × (entries_from (encode c) (cp c w) ≡ c.entries)
      × (cpi_in (encode c) (cp c w) ≡ true) × (maps_in (encode c) (cp c w) ≡ true)
  unfolding cpi_bytes
  cpi =
      let sb = sequences_bound c w.good in
      let pb = programs_bound c w.good in
      let cb = cpi_bound c w.good in
      cpi_back (encode c) (cp c w) (omega arith) w.good.maps_good w.good.maps_few (omega arith) (facts c w).cpi_at

  -- its first 220 bytes read to the scalars of the record
  scalars : scalars_of (encode c) ≡ c.scalars
  unfolding scalars_of
  scalars = λ i. record {
    letters = at 0 i;
    version = at 1 i;
    stream_type = at 10 i;
    application_type = at 11 i;
    rate = at 13 i;
    packets = at 14 i;
    validity_flags = at 16 i;
    format_id = at 18 i;
  }

  -- the record, with its languages lowered
  pub reads_back : clip_of (encode c) ≡ lowered_clip c
  unfolding clip_of lowered_clip
  reads_back =
      let a : atcs_from (encode c) (sequences_start (encode c)) ≡ c.atcs = rw (at 2) sequences.0 in
      let b : stcs_from (encode c) (sequences_start (encode c)) ≡ c.stcs = rw (at 2) sequences.1 in
      let d : programs_from (encode c) (programs_start (encode c)) ≡ c.programs = rw (at 3) programs.0 in
      let e : streams_from (encode c) (programs_start (encode c)) ≡ map lowered_stream c.streams = rw (at 3) programs.1 in
      let m : maps_from (encode c) (cpi_start (encode c)) ≡ c.maps = rw (at 4) cpi.0 in
      let n : entries_from (encode c) (cpi_start (encode c)) ≡ c.entries = rw (at 4) cpi.1 in
      λ i. record { scalars = scalars i; atcs = a i; stcs = b i; programs = d i; streams = e i; maps = m i; entries = n i }

  -- no marks, and no extensions
  marks : marks_from (encode c) (mk c w) ≡ 0
  unfolding marks_from
  marks =
      let l = (facts c w).long in
      let f : Fill (4 ∷ 2 ∷ []) (2 ∷ 0 ∷ []) = fill 4 2 (lit< tt) (fill 2 0 (lit< tt) Fill.none) in
      let b : be_at (encode c) (mk c w + 4) 2 ≡ 0 = ap (λ (l : List ℕ). get_or l 1 0) (fields_back (mk c w) f (facts c w).marks_at) in
      rw (is_present (encode c) (mk c w) (λ e. omega arith) (omega arith)) b

  -- the whole that is read of it: the clip with its languages lowered, and neither marks, extensions nor a (2, 5) list
  pub record_back : record_of (encode c)
      ≡ record { clip = lowered_clip c; marks = 0; extensions = []; has_list = false; list_programs = []; list_streams = [] }
  unfolding record_of extensions_from extension_rows list_data list_in
  record_back = rw (reads_back, at 5, at 6, marks)

  -- the new file passes every test of reading
  pub is_accepted : refusal_of (encode c) ≡ 0
  unfolding refusal_of letters_right clip_info_in marks_in
  is_accepted =
      let n = length (encode c) in
      let bound = is_short in
      let l = (facts c w).long in
      let t2 : letters_right (encode c) ≡ true = rw (at 0) w.letters in
      let t3 : clip_info_in (encode c) ≡ true = true_both (le-leb 194 n (omega arith)) (rw (at 8) (le-leb 220 n (omega arith))) in
      let t4 : leb (sequences_end (encode c) (sequences_start (encode c))) n ≡ true =
      rw (at 2, sequences.2) (le-leb (220 + length (sequences_bytes c)) n (omega arith)) in
      let t5 : leb (programs_end (encode c) (programs_start (encode c))) n ≡ true =
      rw (at 3, programs.2) (le-leb (pr c w + length (programs_bytes c)) n (omega arith)) in
      let t6 : cpi_in (encode c) (cpi_start (encode c)) ≡ true = rw (at 4) cpi.2 in
      let t7 : maps_refusal (encode c) (cpi_start (encode c)) ≡ 0 = maps_pass (encode c) (cpi_start (encode c)) (rw (at 4) cpi.3) in
      let t8 : marks_in (encode c) (marks_start (encode c)) ≡ true =
      rw (at 5, is_present (encode c) (mk c w) (λ e. omega arith) (omega arith)) (le-leb (mk c w + 6) n (omega arith)) in
      pass 20 (le-leb n 536870912 (omega arith))
      (pass 1 (le-leb 8 n (omega arith))
      (pass 2 t2
      (pass 1 (le-leb 40 n (omega arith))
      (pass 3 t3
      (pass 4 t4 (pass 5 t5 (pass 6 t6 (pass_on t7 (pass 8 t8 refl)))))))))
