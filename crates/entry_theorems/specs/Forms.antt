-- The two forms of an entry lookup, the C call on tables and the call on a row of records, answer alike, of what their own contracts claim: a call on tables in
-- which the entries of the map are these records has the very result of a call on these records at the same time.
use Rattle.std.specs.Prelude.{ℕ, ◌≡◌, List}
use Rattle.format.specs.Questions.{Answer}
use Rattle.clpi_answers.specs.declared.ClpiAnswer.{ClpiAnswer}
use Rattle.ep_entry_steps.specs.declared.EpEntry.{EpEntry}
use Rattle.ep_entry_steps.specs.Alike.{HasEntries}
use Rattle.query_theorems.specs.Calls.{Call, WithParts, table_of_parts, behind_parts}
use Rattle.entry_theorems.specs.Claims.{Tells, at_or_before_of, after_of, seek_of, next_seek_of, span_answer}
use Rattle.clpi.proofs.maps.clpi_entry_point_at_or_before.Reads as clpi_entry_point_at_or_before
use Rattle.clpi.proofs.maps.clpi_entry_point_after.Reads as clpi_entry_point_after
use Rattle.clpi.proofs.maps.clpi_seek_spn.Reads as clpi_seek_spn
use Rattle.clpi.proofs.maps.clpi_next_seek_spn.Reads as clpi_next_seek_spn
use Rattle.clpi.proofs.maps.clpi_indexed_span_90k.Reads as clpi_indexed_span_90k

-- a call on maps and entries, with the row of a map and a time; `answer` is what is claimed of the call on records
abbrev pub SameAt : {L : Type 0} {E : L → Type 0} (Post : (κs : L) → WithParts (WithParts (ℕ × (ℕ × Unit {0}))) → ClpiAnswer → E κs → Type 0) (answer : List EpEntry → ℕ → Answer) → Type 0
SameAt Post answer =
    (x : Call Post) (es : List EpEntry) (r : ClpiAnswer)
    → HasEntries (table_of_parts x.arguments) (table_of_parts (behind_parts x.arguments)) (behind_parts (behind_parts x.arguments)).0 es
    → Tells r (answer es (behind_parts (behind_parts x.arguments)).1.0) → x.result ≡ r

-- the same without a time
abbrev pub Same : {L : Type 0} {E : L → Type 0} (Post : (κs : L) → WithParts (WithParts (ℕ × Unit {0})) → ClpiAnswer → E κs → Type 0) (answer : List EpEntry → Answer) → Type 0
Same Post answer =
    (x : Call Post) (es : List EpEntry) (r : ClpiAnswer)
    → HasEntries (table_of_parts x.arguments) (table_of_parts (behind_parts x.arguments)) (behind_parts (behind_parts x.arguments)).0 es
    → Tells r (answer es) → x.result ≡ r

-- of each call on tables, by the name of the call on records
pub record SameResults : Type 0 where
  pub entry_point_at_or_before : SameAt clpi_entry_point_at_or_before.Post at_or_before_of
  pub entry_point_after : SameAt clpi_entry_point_after.Post after_of
  pub seek_spn : SameAt clpi_seek_spn.Post seek_of
  pub next_seek_spn : SameAt clpi_next_seek_spn.Post next_seek_of
  pub indexed_span_90k : Same clpi_indexed_span_90k.Post span_answer
