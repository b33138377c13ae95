-- The numbers of an answer are the definition's, and its counts fit their cells.
use Prim.Native.Nat.{ℕ}
use mathlib.Core.Path.{◌≡◌, refl, sym, ap, ◌∙◌}
use mathlib.Core.List.{List}
use mathlib.Core.Bool.{Bool, true, false}
use lib.Dec.{lit≤}
use mir.Val.{bool_byte}
use Rattle.std.specs.Prelude.{Result, Ok, Err}
use Rattle.format.specs.Bytes.{IsBytes}
use Rattle.format.specs.Refusals.{Stated, read_answer, flag, tables_of, stated_of, table_by, tables_after}
use Rattle.format.specs.Tables.{Nine}
use Rattle.format.proofs.Counts.{tables_few, needed_few}
use Rattle.format.proofs.Listing.{accepted_is}
use Rattle.clip_information.specs.Read.{read_answer_of}
use Rattle.clip_prepare.specs.declared.ReadError.{ReadError}
use Rattle.clip_information.specs.declared.read.Accepted.{Accepted}
use Rattle.clpi_reading.specs.Numbers.{CountsFit}

-- a flag's number
pub flag_is : (b : Bool) → bool_byte b ≡ flag b
flag_is true = refl
flag_is false = refl

-- no count of an answer is above 66,846,465
pub counts_fit : (f : List ℕ) → IsBytes f → (t : Nine (List ℕ)) (a : Result Accepted ReadError) → read_answer_of a ≡ read_answer f t → CountsFit a
unfolding stated_of
counts_fit f bytes t (Err (ReadError.Refused refusal)) h = lit≤ tt
counts_fit f bytes t (Err (ReadError.TableShort short)) h = needed_few f t (tables_few f bytes) (sym h)
counts_fit f bytes t (Ok answer) h =
    let e = (accepted_is f t (sym h)).1 in
    rw (ap (λ (s : Stated). s.rows) e) (tables_few f bytes)

-- nine equations for the tables are one
pub tables_are : (f : List ℕ) (t x : Nine (List ℕ)) (a : Result Accepted ReadError) → read_answer_of a ≡ read_answer f t
    → x.atcs ≡ table_by (read_answer_of a) (tables_of f).atcs t.atcs
    → x.stcs ≡ table_by (read_answer_of a) (tables_of f).stcs t.stcs
    → x.programs ≡ table_by (read_answer_of a) (tables_of f).programs t.programs
    → x.streams ≡ table_by (read_answer_of a) (tables_of f).streams t.streams
    → x.maps ≡ table_by (read_answer_of a) (tables_of f).maps t.maps
    → x.entries ≡ table_by (read_answer_of a) (tables_of f).entries t.entries
    → x.extensions ≡ table_by (read_answer_of a) (tables_of f).extensions t.extensions
    → x.list_programs ≡ table_by (read_answer_of a) (tables_of f).list_programs t.list_programs
    → x.list_streams ≡ table_by (read_answer_of a) (tables_of f).list_streams t.list_streams
    → x ≡ tables_after f t
unfolding tables_after
tables_are f t x a h e1 e2 e3 e4 e5 e6 e7 e8 e9 =
    let rows = tables_of f in
    let g1 = e1 ∙ ap (λ r. table_by r rows.atcs t.atcs) h in
    let g2 = e2 ∙ ap (λ r. table_by r rows.stcs t.stcs) h in
    let g3 = e3 ∙ ap (λ r. table_by r rows.programs t.programs) h in
    let g4 = e4 ∙ ap (λ r. table_by r rows.streams t.streams) h in
    let g5 = e5 ∙ ap (λ r. table_by r rows.maps t.maps) h in
    let g6 = e6 ∙ ap (λ r. table_by r rows.entries t.entries) h in
    let g7 = e7 ∙ ap (λ r. table_by r rows.extensions t.extensions) h in
    let g8 = e8 ∙ ap (λ r. table_by r rows.list_programs t.list_programs) h in
    let g9 = e9 ∙ ap (λ r. table_by r rows.list_streams t.list_streams) h in
    λ i. record {
      atcs = g1 i;
      stcs = g2 i;
      programs = g3 i;
      streams = g4 i;
      maps = g5 i;
      entries = g6 i;
      extensions = g7 i;
      list_programs = g8 i;
      list_streams = g9 i;
    }
