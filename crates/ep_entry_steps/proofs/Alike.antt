-- The two forms answer alike: behind the refusals both look at the same rows.
use Prim.Native.Nat.{ℕ}
use mathlib.Core.List.{List}
use Rattle.format.specs.Tables.{Table, clip_in}
use Rattle.format.specs.Questions.{ask, answer, of_map}
use Rattle.ep_entry_steps.specs.declared.EpEntry.{EpEntry}
use Rattle.ep_entry_steps.specs.Alike.{HasEntries, FormsAlike}

-- where the entries of map m are these records, tables and records answer all five questions alike
pub forms_alike : (maps entries : Table) (m : ℕ) (es : List EpEntry) → HasEntries maps entries m es → FormsAlike maps entries m es
unfolding ask answer of_map clip_in
forms_alike maps entries m es h = record {
  at_or_before_is = λ at. rw (h.maps_there, h.entries_there, h.adds_up, h.map_there, h.own);
  after_is = λ at. rw (h.maps_there, h.entries_there, h.adds_up, h.map_there, h.own);
  seek_is = λ at. rw (h.maps_there, h.entries_there, h.adds_up, h.map_there, h.own);
  next_seek_is = λ at. rw (h.maps_there, h.entries_there, h.adds_up, h.map_there, h.own);
  span_is = rw (h.maps_there, h.entries_there, h.adds_up, h.map_there, h.own);
}
