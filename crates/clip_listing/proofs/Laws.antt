-- What reading answered, told as text, is the listing.
use Prim.Native.Nat.{ℕ, ◌+◌, ◌*◌, ◌^◌, ◌<◌, ◌≤◌}
use mathlib.Core.Path.{◌≡◌, sym, ap, subst, ◌∙◌}
use mathlib.Core.List.{List, [], ◌∷◌}
use native.Mathlib.Omega.{arith}
use lib.ListN.{length, get_or}
use lib.Dec.{lit≤}
use borrow.Author.Tests.{le-leb, lt-leb}
use Rattle.std.specs.Prelude.{Result, Ok, Err}
use Rattle.format.specs.Bytes.{IsBytes}
use Rattle.format.specs.ClipRecord.{Row, time, entry_cells, entry_size}
use Rattle.format.specs.Reading.{clip_of, record_of}
use Rattle.format.specs.Refusals.{tables_of, stated_of, read_answer, table_by, entry_bits}
use Rattle.format.specs.Tables.{table_bytes, table_rows_of, cells_at, overwritten}
use Rattle.format.specs.Listing.{line, refused_word, lines_by, listing, listing_tables}
use Rattle.format.proofs.Cell.{item_at}
use Rattle.format.proofs.Fields.{Fit, one}
use Rattle.format.proofs.Good.{Maps}
use Rattle.format.proofs.Lists.{All, none, all_map, all_append, all_at}
use Rattle.format.proofs.Read.{good_clip}
use Rattle.format.proofs.Listing.{accepted_is, maps_back, entries_back, entries_add, maps_room, entries_room, few}
use Rattle.clip_information.specs.Read.{read_answer_of}
use Rattle.clip_prepare.specs.declared.ReadError.{ReadError}
use Rattle.clip_information.specs.declared.read.Accepted.{Accepted}
use Rattle.listing.specs.Text.{TimesFit, numbers, numbers_of}
use Rattle.listing.proofs.Laws.{record_text_lem, room_4096}
use Rattle.clip_listing.specs.Told.{answer_text, listing_room, numbers_by, Shown, Tellable}

-- what an answer states of an accepted file is what reading states of it
stated : (f : List ℕ) (a : Accepted) → read_answer_of (Ok a) ≡ read_answer f listing_tables
    → (numbers_by a ≡ numbers_of (record_of f)) × (a.rows.maps ≡ length (clip_of f).maps) × (a.rows.entries ≡ length (clip_of f).entries)
unfolding stated_of tables_of record_of
stated f a h =
    let e = (accepted_is f listing_tables (sym h)).1 in
    (λ i. numbers (e i).scalars.stream_type (e i).scalars.application_type (e i).scalars.rate (e i).scalars.packets (e i).rows.atcs (e i).rows.stcs (e i).rows.programs (e i).rows.streams (e i).marks, ap (λ s. s.rows.maps) e, ap (λ s. s.rows.entries) e)

-- its counts have at most 32 bits
shown : (f : List ℕ) (a : Accepted) → read_answer_of (Ok a) ≡ read_answer f listing_tables → Shown a.rows
unfolding stated_of
shown f a h =
    let p = accepted_is f listing_tables (sym h) in
    let e = p.1 in
    let r = few (tables_of f) p.0 in
    record {
      atcs = omega (arith, ap (λ s. s.rows.atcs) e, r.atcs);
      stcs = omega (arith, ap (λ s. s.rows.stcs) e, r.stcs);
      programs = omega (arith, ap (λ s. s.rows.programs) e, r.programs);
      streams = omega (arith, ap (λ s. s.rows.streams) e, r.streams);
      maps = omega (arith, ap (λ s. s.rows.maps) e, r.maps);
      entries = omega (arith, ap (λ s. s.rows.entries) e, r.entries);
    }

-- an entry that fits has a time of 32 bits
time_fits : (e : Row) → Fit entry_bits e → time e < 2 ^ 32
time_fits e (one a (one i (one t (one u f)))) = omega arith

-- so have the entries of good maps
times_few : {most : ℕ} {ms es : List Row} → Maps most ms es → All (λ e. time e < 2 ^ 32) es
times_few Maps.none = none
times_few (Maps.more g size good few later) = all_append (all_map (λ e h. time_fits e h.cells) good) (times_few later)

-- so have those that stand in a table that was filled
times_back : (f : List ℕ) → IsBytes f → (t : List ℕ) → TimesFit (overwritten (table_bytes (clip_of f).entries) t) 0 (length (clip_of f).entries)
unfolding table_rows_of
times_back f bytes t = record { narrow = narrow }
  where
    es : List Row
    es = (clip_of f).entries

    narrow : (k : ℕ) → k < length es → time (cells_at (overwritten (table_bytes es) t) entry_cells (0 + entry_size * k)) < 2 ^ 32
    narrow k h =
        let row = item_at (cells_at (overwritten (table_bytes es) t) entry_cells) [] entry_size 0 (length es) k h in
        let same = ap (λ (rows : List Row). get_or rows k []) (entries_back f bytes t) in
        subst (λ (e : Row). time e < 2 ^ 32) (sym same ∙ row) (all_at [] (times_few (good_clip f bytes).maps_good) k h)

module _ (f : List ℕ) (bytes : IsBytes f) (maps entries : List ℕ) where
  -- the maps and the entries after reading
  abbrev maps_by : Result Accepted ReadError → List ℕ
  maps_by a = table_by (read_answer_of a) (tables_of f).maps maps

  abbrev entries_by : Result Accepted ReadError → List ℕ
  entries_by a = table_by (read_answer_of a) (tables_of f).entries entries

  -- what was answered can be told
  pub tellable : (a : Result Accepted ReadError) (out : List ℕ) → read_answer_of a ≡ read_answer f listing_tables → listing_room ≤ length out → Tellable a (maps_by a) (entries_by a) out
  unfolding tables_of record_of
  tellable (Err error) out h room = record { room = room; rows = lit≤ tt }
  tellable (Ok a) out h room =
      let e = stated f a h in
      let s = shown f a h in
      record {
        room = room;
        rows = (
          s,
          record {
            map_rows_of = rw e.1 (maps_room f bytes maps);
            entry_rows_of = rw e.2 (entries_room f bytes entries);
            counts = rw (e.1, e.2, maps_back f bytes maps) (omega (arith, entries_add f bytes));
            times_fit = rw e.2 (times_back f bytes entries);
            room = omega (arith, room_4096 a.rows.maps a.rows.entries s.maps s.entries);
          },
        );
      }

  -- and its text is that of the answer on the record
  pub told : (a : Result Accepted ReadError) → read_answer_of a ≡ read_answer f listing_tables
      → answer_text a (maps_by a) (entries_by a) ≡ lines_by (read_answer f listing_tables) (record_of f)
  unfolding tables_of record_of
  told (Err (ReadError.Refused refusal)) h = ap (λ r. lines_by r (record_of f)) h
  told (Err (ReadError.TableShort short)) h = ap (λ r. lines_by r (record_of f)) h
  told (Ok a) h =
      let e = stated f a h in
      record_text_lem (record_of f) e.0 (rw e.1 (maps_back f bytes maps)) (rw e.2 (entries_back f bytes entries)) ∙ ap (λ r. lines_by r (record_of f)) h

-- an input within the limit is read
pub listing_within : (f : List ℕ) → length f ≤ 65536 → listing f ≡ lines_by (read_answer f listing_tables) (record_of f)
unfolding listing
listing_within f h = rw (le-leb (length f) 65536 h)

-- a longer one is refused
pub listing_over : (f : List ℕ) → 65537 ≤ length f → listing f ≡ line refused_word (20 ∷ [])
unfolding listing
listing_over f h = rw (lt-leb (length f) 65536 (omega arith))
