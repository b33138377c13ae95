-- The sections of a clip file, measured in the order of their refusals.
use Rattle.std.specs.Prelude.{ℕ, List, length, leb, eqb, Result, Ok, Err}
use Rattle.format.specs.Bytes.{pick, unless}
use Rattle.format.specs.ClipRecord.{letters_right, clip_info_in}
use Rattle.format.specs.Reading.{clip_of}
use Rattle.format.specs.Refusals.{refusal_of}
use Rattle.clip_sections.specs.declared.sections.Sections.{Sections}

-- the refusals up to ClipInfo
unfoldable pub front_of : List ℕ → ℕ
front_of f =
    unless (leb (length f) 536870912) 20
    (unless (leb 8 (length f)) 1
    (unless (letters_right f) 2
    (unless (leb 40 (length f)) 1
    (unless (clip_info_in f) 3 0))))

-- the rows of tables 1 to 6
abbrev pub counted_of : List ℕ → Sections
counted_of f = record {
  atcs = length (clip_of f).atcs;
  stcs = length (clip_of f).stcs;
  programs = length (clip_of f).programs;
  streams = length (clip_of f).streams;
  maps = length (clip_of f).maps;
  entries = length (clip_of f).entries;
}

-- those of a file that is accepted, or its refusal
unfoldable pub sections_of : List ℕ → Result Sections ℕ
sections_of f = pick (eqb (refusal_of f) 0) (Ok (counted_of f)) (Err (refusal_of f))
