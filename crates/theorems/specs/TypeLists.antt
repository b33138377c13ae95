-- The kinds of streams and maps as lists: a type is of the kind exactly where it stands in the list.
use Rattle.std.specs.Prelude.{ℕ, ◌≡◌, Bool, true}
use mathlib.Core.List.{List, [], ◌∷◌, Memᴰ}
use Rattle.format.specs.Programs.{is_video}
use Rattle.format.specs.Questions.{is_audio, is_video_map}

-- coding types of video: MPEG-2, AVC, MVC, HEVC, VC-1
abbrev pub video_types : List ℕ
video_types = 0x02 ∷ 0x1B ∷ 0x20 ∷ 0x24 ∷ 0xEA ∷ []

-- coding types of audio: LPCM, AC-3, DTS, TrueHD, AC-3 Plus, DTS-HD and its master form; the two of secondary audio
abbrev pub audio_types : List ℕ
audio_types = 0x80 ∷ 0x81 ∷ 0x82 ∷ 0x83 ∷ 0x84 ∷ 0x85 ∷ 0x86 ∷ 0xA1 ∷ 0xA2 ∷ []

-- map types of video, of four bits
abbrev pub video_map_types : List ℕ
video_map_types = 1 ∷ 5 ∷ 6 ∷ 8 ∷ []

-- a test that the members of a list pass, and nothing else
pub record PassedBy (test : ℕ → Bool) (members : List ℕ) : Type 0 where
  pub each : (x : ℕ) → Memᴰ x members → test x ≡ true
  pub no_other : (x : ℕ) → test x ≡ true → Memᴰ x members

-- the three tests
pub record TypeLists : Type 0 where
  pub video : PassedBy is_video video_types
  pub audio : PassedBy is_audio audio_types
  pub video_map : PassedBy is_video_map video_map_types
