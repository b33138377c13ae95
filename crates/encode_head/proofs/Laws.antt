-- The head in its two parts.
use Prim.Native.Nat.{ℕ, suc, ◌+◌, ◌-◌, ◌^◌, ◌<◌, ◌≤◌}
use mathlib.Core.Path.{◌≡◌, refl, sym, ap, ◌∙◌}
use mathlib.Core.List.{List, [], ◌∷◌, ◌++◌, append_assoc}
use native.Mathlib.Nat.{add_assoc, zero-div}
use native.Mathlib.Numerals.{one-add}
use native.Mathlib.Omega.{arith}
use lib.ListN.{length, length-append}
use lib.Seq.{sets}
use Rattle.format.specs.Bytes.{bytes_of, field_bytes}
use Rattle.format.specs.ClipRecord.{Scalars}
use Rattle.format.specs.Rewriting.{head_bytes, marks_bytes}
use Rattle.format.proofs.Numbers.{bytes_length, widths_length}
use Rattle.format.proofs.Loops.{one_left, put_more}
use Rattle.format.proofs.Stores.{sets_append, bytes_parts}
use Rattle.encode_head.specs.Heads.{header_widths, header_numbers, info_widths, info_numbers}

-- fields, and more fields behind them
fields_append : (ws vs more values : List ℕ) → length ws ≡ length vs → field_bytes (ws ++ more) (vs ++ values) ≡ field_bytes ws vs ++ field_bytes more values
fields_append [] [] more values e = refl
fields_append [] (v ∷ vs) more values e = absurd (omega (arith, e))
fields_append (w ∷ ws) [] more values e = absurd (omega (arith, e))
fields_append (w ∷ ws) (v ∷ vs) more values e =
    rw (fields_append ws vs more values (omega (arith, e)), append_assoc (bytes_of w v) (field_bytes ws vs) (field_bytes more values))

-- the header, and ClipInfo behind it
pub head_parts : (s : Scalars) (programs cpi marks : ℕ)
    → head_bytes s programs cpi marks ≡ field_bytes header_widths (header_numbers s.letters s.version programs cpi marks) ++ field_bytes info_widths (info_numbers s)
unfolding head_bytes
head_parts s programs cpi marks = fields_append header_widths (header_numbers s.letters s.version programs cpi marks) info_widths (info_numbers s) refl

-- 220 bytes
pub head_length : (s : Scalars) (programs cpi marks : ℕ) → length (head_bytes s programs cpi marks) ≡ 220
head_length s programs cpi marks =
    let front = field_bytes header_widths (header_numbers s.letters s.version programs cpi marks) in
    let info = field_bytes info_widths (info_numbers s) in
    let forty : length front ≡ 40 = widths_length header_widths (header_numbers s.letters s.version programs cpi marks) refl in
    let rest : length info ≡ 180 = widths_length info_widths (info_numbers s) refl in
    rw (head_parts s programs cpi marks, length-append front info, forty, rest)

-- the header stored, and ClipInfo behind it
pub head_stored : (s : Scalars) (programs cpi marks : ℕ) (l : List ℕ) {l' l'' : List ℕ}
    → l' ≡ sets l 0 (field_bytes header_widths (header_numbers s.letters s.version programs cpi marks)) → l'' ≡ sets l' 40 (field_bytes info_widths (info_numbers s))
    → l'' ≡ sets l 0 (head_bytes s programs cpi marks)
head_stored s programs cpi marks l e f =
    let front = field_bytes header_widths (header_numbers s.letters s.version programs cpi marks) in
    let forty : length front ≡ 40 = widths_length header_widths (header_numbers s.letters s.version programs cpi marks) refl in
    let long : 0 + length front ≡ 40 = omega (arith, forty) in
    f ∙ rw (e, head_parts s programs cpi marks, sets_append l 0 front (field_bytes info_widths (info_numbers s)), long)

-- empty marks have 6 bytes
pub marks_length : length marks_bytes ≡ 6
marks_length = widths_length (4 ∷ 2 ∷ []) (2 ∷ 0 ∷ []) refl
