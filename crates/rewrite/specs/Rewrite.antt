-- Rewriting in one go: reading's refusals, then 31, then 23, and the very bytes that writing gives for the record that reading gives.
use Rattle.std.specs.Prelude.{ℕ, ◌≡◌, List, [], ◌∷◌, Result, Ok, Err, length, eqb}
use Rattle.format.specs.Bytes.{pick, unless}
use Rattle.format.specs.ClipRecord.{Clip}
use Rattle.format.specs.Reading.{clip_of}
use Rattle.format.specs.Rewriting.{encode}
use Rattle.format.specs.Refusals.{refusal_of, runs_fit, WriteAnswer, unless_refused, written_in}
use Rattle.encode_measure.specs.Places.{places_of, Placed}
use Rattle.refusals.specs.Numbers.{number_of}
use Rattle.refusals.specs.declared.Refusal.{Refusal}
use Rattle.rewrite.specs.declared.measure.Plan.{Plan}

-- the refusal of a file: that of reading into tables long enough, else 31; the record of an accepted file is never refused by 22, 40 or 30
abbrev pub rewrite_refusal : List ℕ → ℕ
rewrite_refusal f = pick (eqb (refusal_of f) 0) (unless (runs_fit (clip_of f)) 31 0) (refusal_of f)

-- the answer, for an output
unfoldable pub rewrite_answer : List ℕ → List ℕ → WriteAnswer
rewrite_answer f out = unless_refused (rewrite_refusal f) (written_in (length (encode (clip_of f))) (length out))

-- the length of the new file, or the refusal
pub data LengthAnswer : Type 0 where
  refused : ℕ → LengthAnswer
  bytes : ℕ → LengthAnswer

-- the refusal where there is one, else how many bytes writing gives for the record of the file
unfoldable pub length_answer : List ℕ → LengthAnswer
length_answer f = pick (eqb (rewrite_refusal f) 0) (bytes (length (encode (clip_of f)))) (refused (rewrite_refusal f))

-- the code's answer as that of the definition
abbrev pub length_of : Result ℕ Refusal → LengthAnswer
length_of (Ok n) = bytes n
length_of (Err refusal) = refused (number_of refusal)

-- 01's numbers of that answer: the refusal, the length. Other numbers are 0
abbrev pub length_numbers : LengthAnswer → List ℕ
length_numbers (refused n) = n ∷ 0 ∷ []
length_numbers (bytes n) = 0 ∷ n ∷ []

-- the length that an answer tells; none beside a refusal
abbrev pub length_in : LengthAnswer → ℕ
length_in (refused n) = 0
length_in (bytes n) = n

-- the counts and places of a file's record
abbrev pub plan_of : Clip → Plan
plan_of c = record {
  atcs = length c.atcs;
  stcs = length c.stcs;
  maps = length c.maps;
  places = places_of c;
}

-- the refusal, or the counts and places
unfoldable pub planned_of : List ℕ → Result Plan ℕ
planned_of f = pick (eqb (rewrite_refusal f) 0) (Ok (plan_of (clip_of f))) (Err (rewrite_refusal f))

-- a file that can be rewritten, its counts, the places of the new sections, and room for them in an output of so many bytes
pub record Ready (f : List ℕ) (plan : Plan) (size : ℕ) : Type 0 where
  pub rewritable : rewrite_refusal f ≡ 0
  pub atcs_are : plan.atcs ≡ length (clip_of f).atcs
  pub stcs_are : plan.stcs ≡ length (clip_of f).stcs
  pub maps_are : plan.maps ≡ length (clip_of f).maps
  pub placed : Placed (clip_of f) plan.places.programs plan.places.cpi plan.places.marks size
