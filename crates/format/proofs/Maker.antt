-- A record that the writer does not refuse is a good one.
use Prim.Native.Nat.{ℕ, ◌%◌}
use mathlib.Core.Path.{◌≡◌}
use mathlib.Core.List.{List, [], ◌∷◌}
use mathlib.Core.Bool.{true}
use native.Mathlib.Omega.{arith}
use lib.ListN.{length, take, drop, take-append-drop, length-drop}
use lib.Seq.{length-take-le}
use lib.Dec.{leb}
use borrow.Author.Tests.{eqb-true, leb-true}
use Rattle.format.specs.Bytes.{every, unless, fits, total}
use Rattle.format.specs.ClipRecord.{Row, Clip, are_letters, atc_stc_count, stream_count, map_type_of, entry_count, time, entry_type_of}
use Rattle.format.specs.Refusals.{counts_add, stream_fits, entry_bits, entry_fits, every_map, cells_fit, runs_fit, write_refusal}
use Rattle.format.specs.Rewriting.{runs}
use Rattle.format.proofs.Fields.{Fit, fits_fit}
use Rattle.format.proofs.Good.{GoodStream, Maps, Writable}
use Rattle.format.proofs.Join.{GoodEntry}
use Rattle.format.proofs.Lists.{All, every_all, all_map}
use Rattle.format.proofs.Tests.{both_true, passed}

-- an entry that passes the writer's tests has cells that fit, a multiple of 512 as its time, and its map's type
entry_made : (type : ℕ) (e : Row) → entry_fits type e ≡ true → GoodEntry type e
entry_made type e h =
    let a = both_true h in
    let b = both_true a.1 in
    record {
      cells = fits_fit entry_bits e a.0;
      step = eqb-true (time e % 512) 0 b.0;
      type_same = eqb-true (entry_type_of e) type b.1;
    }

-- where counts add up and the tests of 30 and 31 pass, each map has its own entries, in at most 65,535 runs
maps_made : (ms es : List Row) → every (fits (16 ∷ 4 ∷ 18 ∷ [])) ms ≡ true → total entry_count ms ≡ length es
    → every_map (λ m own. every (entry_fits (map_type_of m)) own) ms es ≡ true → every_map (λ m own. leb (runs own) 65535) ms es ≡ true → Maps 65535 ms es
maps_made [] [] f e h k = Maps.none
maps_made [] (x ∷ es) f e h k = absurd (omega arith)
maps_made (m ∷ ms) es f e h k =
    let n = entry_count m in
    let own = take n es in
    let rest = drop n es in
    let left : total entry_count ms ≡ length rest = omega (arith, length-drop n es) in
    let size = length-take-le n es (omega arith) in
    let ff = both_true f in
    let hh = both_true h in
    let kk = both_true k in
    let own_good : All (GoodEntry (map_type_of m)) own = all_map (entry_made (map_type_of m)) (every_all (entry_fits (map_type_of m)) own hh.0) in
    rw (take-append-drop n es) at
    (Maps.more (fits_fit (16 ∷ 4 ∷ 18 ∷ []) m ff.0) size own_good
    (leb-true (runs own) 65535 kk.0) (maps_made ms rest ff.1 left hh.1 kk.1))

-- a stream that passes has cells that fit, no language on video and no aspect on anything else
stream_made : (s : Row) → stream_fits s ≡ true → GoodStream s
stream_made s h =
    let b = both_true h in
    record { cells = fits_fit (16 ∷ 8 ∷ 8 ∷ 4 ∷ 24 ∷ []) s b.0; only = b.1 }

-- rows that pass the test of these widths fit them
fit_rows : (ws : List ℕ) (rows : List Row) → every (fits ws) rows ≡ true → All (Fit ws) rows
fit_rows ws rows h = all_map (λ row k. fits_fit ws row k) (every_all (fits ws) rows h)

-- what none of 22, 40, 30 and 31 refuses: counts add up, the letters are right, cells fit, and no map has over 65,535 runs
pub good_made : (c : Clip) → write_refusal c ≡ 0 → Writable c
unfolding write_refusal counts_add cells_fit runs_fit
good_made c h =
    let p0 = passed (counts_add c) 21 (unless (are_letters c.scalars.letters) 40 (unless (cells_fit c) 30 (unless (runs_fit c) 31 0))) h in
    let letters = passed (are_letters c.scalars.letters) 39 (unless (cells_fit c) 30 (unless (runs_fit c) 31 0)) p0.1 in
    let p1 = passed (cells_fit c) 29 (unless (runs_fit c) 31 0) letters.1 in
    let p2 = passed (runs_fit c) 30 0 p1.1 in
    let a0 = both_true p0.0 in
    let a1 = both_true a0.1 in
    let b0 = both_true p1.0 in
    let b1 = both_true b0.1 in
    let b2 = both_true b1.1 in
    let b3 = both_true b2.1 in
    let b4 = both_true b3.1 in
    let b5 = both_true b4.1 in
    let b6 = both_true b5.1 in
    let b7 = both_true b6.1 in
    let b8 = both_true b7.1 in
    record {
      letters = letters.0;
      good = record {
        scalars = fits_fit (32 ∷ 8 ∷ 8 ∷ 32 ∷ 32 ∷ 8 ∷ 32 ∷ []) (c.scalars.version ∷ c.scalars.stream_type ∷ c.scalars.application_type ∷ c.scalars.rate ∷ c.scalars.packets ∷ c.scalars.validity_flags ∷ c.scalars.format_id ∷ []) b0.0;
        atcs_few = leb-true (length c.atcs) 255 b1.0;
        atcs_good = fit_rows (32 ∷ 8 ∷ 8 ∷ []) c.atcs b2.0;
        stcs_good = fit_rows (16 ∷ 32 ∷ 32 ∷ 32 ∷ []) c.stcs b3.0;
        stcs_add = eqb-true (total atc_stc_count c.atcs) (length c.stcs) a0.0;
        programs_few = leb-true (length c.programs) 255 b4.0;
        programs_good = fit_rows (32 ∷ 16 ∷ 8 ∷ []) c.programs b5.0;
        streams_good = all_map stream_made (every_all stream_fits c.streams b6.0);
        streams_add = eqb-true (total stream_count c.programs) (length c.streams) a1.0;
        maps_few = leb-true (length c.maps) 255 b7.0;
        maps_good = maps_made c.maps c.entries b8.0 (eqb-true (total entry_count c.maps) (length c.entries) a1.1) b8.1 p2.0;
      };
    }
