-- What the head of the section says, test by test.
use Prim.Native.Nat.{ℕ, ◌+◌, ◌*◌, ◌<◌, ◌≤◌}
use mathlib.Core.Path.{◌≡◌}
use mathlib.Core.List.{List}
use mathlib.Core.Bool.{true, false, not}
use native.Mathlib.Omega.{arith}
use lib.ListN.{length}
use lib.Dec.{eqb}
use borrow.Author.Tests.{eq-eqb, ne_eqb, le-leb, lt-leb, le-ltb}
use Rattle.format.specs.Bytes.{be_at}
use Rattle.format.specs.ClipRecord.{present}
use Rattle.format.specs.EntryPoints.{cpi_length, cpi_end, cpi_type, has_maps, map_count, cpi_in}
use Rattle.format.proofs.Tests.{right_fails}
use Rattle.format.proofs.Cpi.{is_present}
use Rattle.std.specs.Prelude.{Some, None, Ok, Err}
use Rattle.refusals.specs.declared.Refusal.{Refusal}
use Rattle.cpi.specs.Maps.{cpi_head}

module _ (f : List ℕ) (c : ℕ) where
  -- a start at which no section stands
  absent : present f c ≡ false → Ok None ≡ cpi_head f c
  unfolding cpi_head cpi_in has_maps map_count
  absent h = rw h

  -- a start of 0 is no section, so there are no maps
  pub head_zero : c ≡ 0 → Ok None ≡ cpi_head f c
  head_zero h = absent (rw (eq-eqb c 0 h))

  -- nor is a start at or past the file's end
  pub head_far : length f ≤ c → Ok None ≡ cpi_head f c
  head_far h = absent (right_fails (not (eqb c 0)) (le-ltb c (length f) h))

  module _ (some : c ≡ 0 → ⊥) (near : c < length f) where
    -- a length that passes the file's end
    pub head_past : length f < cpi_end f c → Err Refusal.Cpi ≡ cpi_head f c
    unfolding cpi_head cpi_in
    head_past h = rw (is_present f c some near, lt-leb (cpi_end f c) (length f) h)

    module _ (inside : cpi_end f c ≤ length f) where
      -- no maps: N below 2, another type, N below 4
      none : has_maps f c ≡ false → Ok None ≡ cpi_head f c
      unfolding cpi_head cpi_in
      none h = rw (is_present f c some near, le-leb (cpi_end f c) (length f) inside, h)

      -- a length below 2 ends before the type does, so there are no maps
      pub head_two : cpi_length f c < 2 → Ok None ≡ cpi_head f c
      unfolding has_maps
      head_two h = none (rw (is_present f c some near, lt-leb 2 (cpi_length f c) h))

      -- a section of another type than 1 has no maps
      pub head_type : 2 ≤ cpi_length f c → (cpi_type f c ≡ 1 → ⊥) → Ok None ≡ cpi_head f c
      unfolding has_maps
      head_type h t = none (rw (is_present f c some near, le-leb 2 (cpi_length f c) h, ne_eqb (cpi_type f c) 1 t))

      -- a length below 4 ends before the count of maps, so there are none
      pub head_four : 2 ≤ cpi_length f c → cpi_type f c ≡ 1 → cpi_length f c < 4 → Ok None ≡ cpi_head f c
      unfolding has_maps
      head_four h t l = none (rw (is_present f c some near, le-leb 2 (cpi_length f c) h, eq-eqb (cpi_type f c) 1 t, lt-leb 4 (cpi_length f c) l))

      module _ (one : cpi_type f c ≡ 1) (four : 4 ≤ cpi_length f c) where
        -- a section of type 1 whose length is at least 4 has a count of maps
        pub has_maps_lem : has_maps f c ≡ true
        unfolding has_maps
        has_maps_lem = rw (is_present f c some near, le-leb 2 (cpi_length f c) (omega arith), eq-eqb (cpi_type f c) 1 one, le-leb 4 (cpi_length f c) four)

        -- headers that pass the file's end, and headers that do not
        pub head_headers : length f < c + 8 + 12 * be_at f (c + 7) 1 → Err Refusal.Cpi ≡ cpi_head f c
        unfolding cpi_head cpi_in map_count
        head_headers h =
            rw (is_present f c some near, le-leb (cpi_end f c) (length f) inside, has_maps_lem, lt-leb (c + 8 + 12 * be_at f (c + 7) 1) (length f) h)

        -- of headers within the file the count is told, and where the section ends
        pub head_maps : c + 8 + 12 * be_at f (c + 7) 1 ≤ length f → Ok (Some (record { count = be_at f (c + 7) 1; end = cpi_end f c })) ≡ cpi_head f c
        unfolding cpi_head cpi_in map_count
        head_maps h =
            rw (is_present f c some near, le-leb (cpi_end f c) (length f) inside, has_maps_lem, le-leb (c + 8 + 12 * be_at f (c + 7) 1) (length f) h)
