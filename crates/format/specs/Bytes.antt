-- Tests, big-endian numbers, bit fields, and items that stand one behind the other: the words that the sections are told in.
use Rattle.std.specs.Prelude.{ℕ, zero, suc, ◌+◌, ◌*◌, ◌/◌, ◌%◌, ◌^◌, ◌<◌, List, [], ◌∷◌, ◌++◌, Bool, true, false, get_or, take, drop, ltb}

-- a file, a table and an output are lists of bytes
abbrev pub IsBytes : List ℕ → Type 0
IsBytes f = (i : ℕ) → get_or f i 0 < 256

-- the n bytes of f from place p, or as many as there are
abbrev pub part : List ℕ → ℕ → ℕ → List ℕ
part f p n = take n (drop p f)

-- ---- tests

-- one and the other
abbrev pub both : Bool → Bool → Bool
both true b = b
both false b = false

-- one or the other
abbrev pub either : Bool → Bool → Bool
either true b = true
either false b = b

-- the first where the test passes, else the second
abbrev pub pick : {A : Type 0} → Bool → A → A → A
pick true a b = a
pick false a b = b

-- each element passes
abbrev pub every : {A : Type 0} → (A → Bool) → List A → Bool
every test [] = true
every test (x ∷ xs) = both (test x) (every test xs)

-- a refusal's number where the test fails, else what the later tests answer; 0 is no refusal
abbrev pub unless : Bool → ℕ → ℕ → ℕ
unless true number later = later
unless false number later = number

-- the refusal, or what the later tests answer where it is 0
abbrev pub or_later : ℕ → ℕ → ℕ
or_later zero later = later
or_later (suc n) later = suc n

-- the first refusal of those given; 0 where none is
abbrev pub first_refusal : List ℕ → ℕ
first_refusal [] = 0
first_refusal (refusal ∷ later) = or_later refusal (first_refusal later)

-- ---- numbers: integers in files are big-endian

-- the number of the n bytes of f from place p; a byte past the end counts 0
unfoldable pub be_at : List ℕ → ℕ → ℕ → ℕ
be_at f p zero = 0
be_at f p (suc n) = be_at f p n * 256 + get_or f (p + n) 0

-- the n bytes of v, the highest first
unfoldable pub bytes_of : ℕ → ℕ → List ℕ
bytes_of zero v = []
bytes_of (suc n) v = bytes_of n (v / 256) ++ (v % 256 ∷ [])

-- the bytes of values in fields that are `widths` bytes wide; of a value that does not fit, its low bytes
abbrev pub field_bytes : List ℕ → List ℕ → List ℕ
field_bytes [] values = []
field_bytes (w ∷ widths) [] = []
field_bytes (w ∷ widths) (v ∷ values) = bytes_of w v ++ field_bytes widths values

-- the values of the fields that are `widths` bytes wide and stand one behind the other from p
abbrev pub fields_at : List ℕ → ℕ → List ℕ → List ℕ
fields_at f p [] = []
fields_at f p (w ∷ widths) = be_at f p w ∷ fields_at f (p + w) widths

-- ---- bit fields of one number, the first field highest

-- the width of all fields together
abbrev pub width_of : List ℕ → ℕ
width_of [] = 0
width_of (w ∷ widths) = w + width_of widths

-- the values of the fields of x
abbrev pub unpacked : List ℕ → ℕ → List ℕ
unpacked [] x = []
unpacked (w ∷ widths) x = x / 2 ^ width_of widths % 2 ^ w ∷ unpacked widths x

-- the number whose fields have these values, where each fits its field
abbrev pub packed : List ℕ → List ℕ → ℕ
packed [] values = 0
packed (w ∷ widths) [] = 0
packed (w ∷ widths) (v ∷ values) = v * 2 ^ width_of widths + packed widths values

-- as many values as fields, each below 2 ^ its field's width
abbrev pub fits : List ℕ → List ℕ → Bool
fits [] [] = true
fits [] (v ∷ values) = false
fits (w ∷ widths) [] = false
fits (w ∷ widths) (v ∷ values) = both (ltb v (2 ^ w)) (fits widths values)

-- ---- items one behind the other: `next p` is where the item behind the one at p stands

-- what `row` reads at each of n items from p
abbrev pub rows_at : {A : Type 0} → (ℕ → A) → (ℕ → ℕ) → ℕ → ℕ → List A
rows_at row next p zero = []
rows_at row next p (suc n) = row p ∷ rows_at row next (next p) n

-- the lists that `rows` reads at each of n items from p, joined
abbrev pub gather : {A : Type 0} → (ℕ → List A) → (ℕ → ℕ) → ℕ → ℕ → List A
gather rows next p zero = []
gather rows next p (suc n) = rows p ++ gather rows next (next p) n

-- where n items from p end
abbrev pub end_of : (ℕ → ℕ) → ℕ → ℕ → ℕ
end_of next p zero = p
end_of next p (suc n) = end_of next (next p) n

-- ---- rows that stand in a list

-- the bytes of each row, joined
abbrev pub flat : {A : Type 0} → (A → List ℕ) → List A → List ℕ
flat bytes [] = []
flat bytes (row ∷ rows) = bytes row ++ flat bytes rows

-- the counts of the rows, added up
abbrev pub total : {A : Type 0} → (A → ℕ) → List A → ℕ
total count [] = 0
total count (row ∷ rows) = count row + total count rows
