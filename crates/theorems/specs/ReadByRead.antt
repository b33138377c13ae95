-- A section is refused exactly where the place at which it ends passes the file's end: the same as "some read passes it".
use Rattle.std.specs.Prelude.{ℕ, ◌≡◌, List}
use Rattle.format.specs.Extensions.{found, list_in, has_extensions}
use Rattle.format.specs.Refusals.{refusal_of}
use Rattle.format.specs.ReadByRead.{refusal_read, extensions_read, programs_read}

-- testing each read of a file before its value is used, and testing where its sections end, tell the same
pub record ReadByRead (f : List ℕ) : Type 0 where
  -- every refusal of the file, read by read
  pub refusal : refusal_read f ≡ refusal_of f
  -- and whether the extension block at any start gives entries
  pub extensions : (start : ℕ) → extensions_read f start ≡ has_extensions f start
  -- and whether these bytes, as the data of a (2, 5) entry, are a list of programs
  pub list : programs_read f 0 ≡ list_in (found f)
