-- Text stored into a lent output.
use Rattle.std.specs.Prelude.{ℕ, ◌+◌, ◌*◌, ◌≤◌, ◌≡◌, List, length}
use Rattle.std.proofs.lemmas.List.Edits.{sets}
use Rattle.text_lines.specs.declared.Text.{Text}

-- s was stored behind the text, in the same output
pub record Puts (old : Text) (s : List ℕ) (new : Text) : Type 0 where
  pub place : new.len ≡ old.len + length s
  pub bytes : new.out.now ≡ sets old.out.now old.len s
  pub size : length new.out.now ≡ length old.out.now
  pub same : new.out.ghost_name ≡ old.out.ghost_name

-- the same with room for it: at most so many bytes
pub record PutsIn (most : ℕ) (old : Text) (s : List ℕ) (new : Text) : Type 0 where
  pub text : Puts old s new
  pub short : new.len ≤ old.len + most

-- bytes for a line: a space and at most ten digits for a number of 32 bits
abbrev pub line_room : List ℕ → List ℕ → ℕ
line_room word numbers = length word + 11 * length numbers + 1
