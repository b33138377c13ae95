-- The loops that walk over runs of entries and test each entry.
use Rattle.std.proofs.Common.{Option, Some, None}
use Prim.Native.Nat.{ℕ, suc, ◌+◌, ◌*◌, ◌-◌, ◌<◌, ◌≤◌}
use mathlib.Core.Path.{◌≡◌, refl, sym, ap, ◌∙◌}
use mathlib.Core.List.{List, ◌∷◌}
use mathlib.Core.Bool.{Bool, true, false}
use native.Mathlib.Numerals.{add-one}
use native.Mathlib.Omega.{arith}
use borrow.Author.Tests.{eq-eqb}
use lib.ListN.{length, take, drop}
use Rattle.format.specs.Bytes.{both, pick, every}
use Rattle.format.specs.ClipRecord.{Row, time, packet, entry_cells, entry_size}
use Rattle.format.specs.Refusals.{entry_fits}
use Rattle.format.specs.Rewriting.{time_key, packet_key, same_run, coarse_row, coarse_after, runs}
use Rattle.format.specs.Tables.{cells_at}
use Rattle.format.proofs.Rows.{rows_length, drop_rows, left_all, left_turn, left_done}
use Rattle.format.proofs.Tests.{both_true, true_both, left_fails, picked, not_picked}
use Rattle.entry_rows.specs.declared.Words.{Words}
use Rattle.entry_rows.specs.Reads.{WordsAre}
use Rattle.entry_rows.specs.Entries.{entries_at}
use Rattle.runs.specs.Runs.{entries_from, run_end, end_from, coarse_from}
use Rattle.runs.proofs.Runs.{run_ends, after_run, coarse_all}
use Rattle.entry_runs.specs.Fitting.{fit_until, end_fit, count_fit, goes_on}
use Rattle.entry_runs.proofs.Choices.{every_parts}
use Rattle.entry_runs.proofs.Words.{words_go_on}

-- an entry is in its own run
same_self : (e : Row) → same_run e e ≡ true
same_self e = true_both (eq-eqb (time_key (time e)) (time_key (time e)) refl) (eq-eqb (packet_key (packet e)) (packet_key (packet e)) refl)

module _ (t : List ℕ) (p n type : ℕ) where
  -- row k
  abbrev pub row_at : ℕ → Row
  row_at k = cells_at t entry_cells (p + entry_size * k)

  -- those behind some of them
  left_drop : (k r : ℕ) → k ≤ r → r ≤ n → drop (r - k) (entries_from t p n k) ≡ entries_from t p n r
  left_drop k r h g =
      let e : p + entry_size * k + (r - k) * entry_size ≡ p + entry_size * r = omega arith in
      let m : n - k - (r - k) ≡ n - r = omega arith in
      rw (← e, ← m) (drop_rows (cells_at t entry_cells) entry_size (p + entry_size * k) (n - k) (r - k) (omega arith))

  -- ---- the search for the end of the run that begins at row `from`

  module _ (from : ℕ) where
    -- where it ends
    abbrev pub its_end : ℕ
    its_end = end_from from (entries_from t p n from)

    -- up to row k the run goes on, and its entries fit
    pub record Along (k : ℕ) : Type 0 where
      pub past : from ≤ k
      pub within : k ≤ n
      pub rest : run_end (row_at from) k (entries_from t p n k) ≡ its_end
      pub fit : fit_until type its_end k (entries_from t p n k) ≡ end_fit type from (entries_from t p n from)

    -- before its first entry nothing is known
    along_first : from < n → Along from
    unfolding run_end end_fit
    along_first h = record { past = omega arith; within = omega arith; rest = rw (left_turn (cells_at t entry_cells) entry_size p n from h, same_self (row_at from)); fit = refl }

    -- where it ends, its end is told
    at_end : (k : ℕ) → Along k → k ≡ its_end → Some k ≡ end_fit type from (entries_from t p n from)
    at_end k i e =
        let none : its_end - k ≡ 0 = omega arith in
        ap Some e ∙ rw none at i.fit

    module _ (k : ℕ) (i : Along k) (h : k < n) where
      -- row k is the first behind the run
      along_stop : same_run (row_at from) (row_at k) ≡ false → Some k ≡ end_fit type from (entries_from t p n from)
      unfolding run_end
      along_stop differs = at_end k i (rw (left_turn (cells_at t entry_cells) entry_size p n k h, differs) at i.rest)

      module _ (same : same_run (row_at from) (row_at k) ≡ true) where
        -- it is in the run
        later : run_end (row_at from) (suc k) (entries_from t p n (k + 1)) ≡ its_end
        unfolding run_end
        later = rw (left_turn (cells_at t entry_cells) entry_size p n k h, same) at i.rest

        -- so it is tested with those behind it
        tested : pick (both (entry_fits type (row_at k)) (every (entry_fits type) (take (its_end - (k + 1)) (entries_from t p n (k + 1))))) (Some its_end) None
            ≡ end_fit type from (entries_from t p n from)
        tested =
            let e = later in
            let more : its_end - k ≡ suc (its_end - (k + 1)) = omega (arith, (run_ends (row_at from) (suc k) (entries_from t p n (k + 1))).past) in
            rw (left_turn (cells_at t entry_cells) entry_size p n k h, more) at i.fit

        -- it does not fit
        along_unfit : entry_fits type (row_at k) ≡ false → None ≡ end_fit type from (entries_from t p n from)
        along_unfit fails = rw fails at tested

        -- it fits
        along_fit : entry_fits type (row_at k) ≡ true → Along (k + 1)
        along_fit fits = record { past = omega (arith, i.past); within = omega arith; rest = rw add-one (rw add-one at later); fit = rw fits at tested }

    module _ (h : from < n) where
      -- the run's first entry does not fit
      pub first_unfit : {f : Bool} → f ≡ entry_fits type (row_at from) → f ≡ false → None ≡ end_fit type from (entries_from t p n from)
      first_unfit {f} is y = along_unfit from (along_first h) h (same_self (row_at from)) (sym is ∙ y)

      -- it fits
      pub first_fit : {f : Bool} → f ≡ entry_fits type (row_at from) → f ≡ true → Along (from + 1)
      first_fit {f} is y = along_fit from (along_first h) h (same_self (row_at from)) (sym is ∙ y)

    -- row k is compared with the run's first entry: g says whether it is in the run and fits
    pub record Compared (k : ℕ) (g : Bool) : Type 0 where
      pub along : Along k
      pub there : k < n
      pub both_are : g ≡ both (same_run (row_at from) (row_at k)) (entry_fits type (row_at k))

    -- by the words of both, where the run's first entry fits
    pub words_compared : (k : ℕ) → Along k → k < n → {a b : Words} {f g : Bool} → WordsAre t (p + entry_size * from) a → WordsAre t (p + entry_size * k) b
        → f ≡ entry_fits type (row_at from) → f ≡ true → g ≡ goes_on a b → Compared k g
    words_compared k i h {f = f} are those fits y is = record {
      along = i;
      there = h;
      both_are = is ∙ words_go_on t (p + entry_size * from) (p + entry_size * k) are those type (sym fits ∙ y);
    }

    module _ (k : ℕ) {g : Bool} (c : Compared k g) where
      -- it is in the run and fits
      pub along_turn : g ≡ true → Along (k + 1)
      along_turn y = let parts = both_true (sym c.both_are ∙ y) in along_fit k c.along c.there parts.0 parts.1

      -- it isn't, or doesn't: which, is told
      pub along_stopped : g ≡ false → {r : Option ℕ} → r ≡ pick (same_run (row_at from) (row_at k)) None (Some k) → r ≡ end_fit type from (entries_from t p n from)
      along_stopped y {r} said = said ∙ go (same_run (row_at from) (row_at k)) refl
        where
          go : (s : Bool) → same_run (row_at from) (row_at k) ≡ s → pick s None (Some k) ≡ end_fit type from (entries_from t p n from)
          go true same = along_unfit k c.along c.there same (rw same at (sym c.both_are ∙ y))
          go false differs = along_stop k c.along c.there differs

    -- the run ends with the entries
    pub along_done : (k : ℕ) → Along k → n ≤ k → Some n ≡ end_fit type from (entries_from t p n from)
    unfolding run_end
    along_done k i h =
        let e : n ≡ k = omega (arith, i.within) in
        ap Some e ∙ at_end k i (rw (left_done (cells_at t entry_cells) entry_size p n k h) at i.rest)

  -- ---- from run to run

  -- row r, where the run ends that begins at row k: its entries fit, and the coarse rows from row k on are its own and those from row r on
  pub record NextRun (k r : ℕ) : Type 0 where
    pub past : k < r
    pub within : r ≤ n
    pub rows : coarse_from k (entries_from t p n k) ≡ coarse_row k (row_at k) ∷ coarse_from r (entries_from t p n r)
    pub fit : every (entry_fits type) (entries_from t p n k) ≡ every (entry_fits type) (entries_from t p n r)

  module _ (k : ℕ) (h : k < n) {x : Option ℕ} (is : x ≡ end_fit type k (entries_from t p n k)) where
    -- one run, and those behind it
    pub next_run : {r : ℕ} → x ≡ Some r → NextRun k r
    unfolding end_fit
    next_run {r} told =
        let es = entries_from t p n k in
        let p' = picked (every (entry_fits type) (take (end_from k es - k) es)) (λ e. let z : ◌≡◌ {A = ℕ} 0 1 = cc in omega arith) (sym is ∙ told) in
        let e : r ≡ end_from k es = cc p'.1 in
        let first = row_at k in
        let xs = entries_from t p n (k + 1) in
        let end : r ≡ run_end first (suc k) xs = rw (left_turn (cells_at t entry_cells) entry_size p n k h) at e in
        let ends = run_ends first (suc k) xs in
        let size : length xs ≡ n - (k + 1) = rows_length (cells_at t entry_cells) (λ q. q + entry_size) (p + entry_size * (k + 1)) (n - (k + 1)) in
        let past : k < r = omega (arith, end, ends.past) in
        let within : r ≤ n = omega (arith, end, ends.within, size) in
        let left : r - suc k ≡ r - (k + 1) = omega arith in
        let behind : coarse_after first (suc k) xs ≡ coarse_from r (entries_from t p n r) =
        after_run first (suc k) xs ∙ rw (← end, left, left_drop (k + 1) r (omega arith) within) in
        let own : every (entry_fits type) (take (r - k) es) ≡ true = rw e p'.0 in
        record {
          past = past;
          within = within;
          rows = rw (left_turn (cells_at t entry_cells) entry_size p n k h) (ap (λ (l : List Row). coarse_row k first ∷ l) behind);
          fit = sym (every_parts (entry_fits type) (r - k) es) ∙ rw (own, left_drop k r (omega arith) within);
        }

    -- an entry of the run does not fit
    pub run_unfit : x ≡ None → every (entry_fits type) (entries_from t p n k) ≡ false
    unfolding end_fit
    run_unfit told =
        let es = entries_from t p n k in
        let m = end_from k es - k in
        let fails = (not_picked (every (entry_fits type) (take m es)) (λ e. let z : ◌≡◌ {A = ℕ} 0 1 = cc in omega arith) (sym is ∙ told)).0 in
        sym (every_parts (entry_fits type) m es) ∙ left_fails (every (entry_fits type) (drop m es)) fails

  -- the runs that were counted up to row k, where every entry fits, and those from there on
  pub record Counted (count k : ℕ) : Type 0 where
    pub within : k ≤ n
    pub small : count ≤ k
    pub rest : count + length (coarse_from k (entries_from t p n k)) ≡ runs (entries_at t p n)
    pub fit : every (entry_fits type) (entries_from t p n k) ≡ every (entry_fits type) (entries_at t p n)

  -- before the first run none is counted
  pub counted_first : Counted 0 0
  unfolding runs
  counted_first = record {
    within = omega arith;
    small = omega arith;
    rest = rw (left_all (cells_at t entry_cells) entry_size p n, coarse_all (entries_at t p n)) (omega arith);
    fit = rw (left_all (cells_at t entry_cells) entry_size p n);
  }

  module _ (count k : ℕ) (i : Counted count k) where
    -- one more is counted
    pub counted_turn : {r : ℕ} → NextRun k r → Counted (count + 1) r
    counted_turn next =
        let rest = rw next.rows at i.rest in
        record { within = next.within; small = omega (arith, next.past, i.small); rest = omega arith; fit = sym next.fit ∙ i.fit }

    -- an entry does not fit
    pub counted_unfit : every (entry_fits type) (entries_from t p n k) ≡ false → None ≡ count_fit type (entries_at t p n)
    unfolding count_fit
    counted_unfit fails = rw (← i.fit, fails)

    -- all are counted
    pub counted_done : n ≤ k → Some count ≡ count_fit type (entries_at t p n)
    unfolding count_fit
    counted_done h =
        let rest = rw (left_done (cells_at t entry_cells) entry_size p n k h) at i.rest in
        let fits = rw (left_done (cells_at t entry_cells) entry_size p n k h) at i.fit in
        let e : count ≡ runs (entries_at t p n) = omega arith in
        rw (← fits, e)
