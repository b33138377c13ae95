-- The listing of the bytes that were read, in the output's buffer.
use Rattle.std.specs.Prelude.{ℕ, ◌≤◌, ◌≡◌, List, length, take, Result, Ok, Err}
use Rattle.format.specs.Listing.{listing}
use Rattle.listing.specs.Text.{Shows}
use Rattle.listing_io.specs.declared.ListError.{ListError}
use Rattle.listing_io.specs.declared.ListedInput.{ListedInput}

-- the output shows the listing of the bytes at the input's front
abbrev pub ShowsFront : List ℕ → List ℕ → List ℕ → ℕ → ℕ → Type 0
ShowsFront input old out read len = (read ≤ length input) × Shows old (listing (take read input)) len out

-- where the read failed the output is as it was, and where the write failed it shows the listing all the same
abbrev pub ShowsFailed : List ℕ → List ℕ → List ℕ → ListError → Type 0
ShowsFailed input old out (ListError.Read e) = out ≡ old
ShowsFailed input old out (ListError.Write listed e) = ShowsFront input old out listed.read listed.len

-- the output shows the listing of the bytes at the input's front; where the read failed it is as it was
abbrev pub ShowsInput : List ℕ → List ℕ → List ℕ → Result ListedInput ListError → Type 0
ShowsInput input old out (Ok listed) = ShowsFront input old out listed.read listed.len
ShowsInput input old out (Err error) = ShowsFailed input old out error
