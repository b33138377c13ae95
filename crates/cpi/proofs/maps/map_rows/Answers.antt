-- Each return, by the tests that led to it.
use Prim.Native.Nat.{ℕ, ◌+◌, ◌*◌, ◌≤◌, ◌<◌}
use mathlib.Core.Path.{◌≡◌, ap, ◌∙◌}
use native.Mathlib.Omega.{arith}
use lib.ListN.{length}
use Rattle.std.specs.Prelude.{Ok}
use Rattle.format.specs.EntryPoints.{map_type_at, coarse_count_at, fine_count_at, body_at, fine_start, cpi_end}
use Rattle.ep_rows.proofs.Headers.{header_read, fine_is}
use Rattle.cpi.proofs.Sections.{address_past, coarse_past, fine_address_past, fine_past, map_fits_lem}
use Rattle.cpi.proofs.maps.map_rows.Goals as goal
use Rattle.cpi.proofs.maps.map_rows.Goals.{After-u32_at, Else-end-body, After-u32_at-2, Else-end-fine}

-- the header's counts are the map's
counts : (c : After-u32_at) → let h = c.map_header-header.result in let f = c.args.file.now in let q = c.args.q in
    (h.ep_stream_type ≡ map_type_at f q) × (h.num_coarse ≡ coarse_count_at f q) × (h.num_fine ≡ fine_count_at f q)
counts c = header_read c.args.file.now c.args.q c.be_at.result c.map_header-header.result c.be_at.ensures.same c.map_header-header.ensures

-- its body stands where the map says
body_is : (c : After-u32_at) → c.args.start + 6 + c.u32_at.result ≡ body_at c.args.file.now c.args.start c.args.q
body_is c = ap (λ (x : ℕ). c.args.start + 6 + x) c.u32_at.ensures.same

pub returns-then-end-body : goal.returns-then-end-body
returns-then-end-body c =
    let a = c.args in
    address_past a.file.now a.start a.q (omega (arith, body_is (goal.at.returns-then-end-body c).After-u32_at, c.requires.end_is))

-- before the section's end
address : (c : Else-end-body) → body_at c.args.file.now c.args.start c.args.q < cpi_end c.args.file.now c.args.start
address c = omega (arith, body_is (goal.at.Else-end-body c).After-u32_at, c.requires.end_is, c.if-end-body.false)

pub returns-then-file-body : goal.returns-then-file-body
returns-then-file-body c =
    let a = c.args in
    let s = goal.at.returns-then-file-body c in
    let counted = counts s.After-u32_at in
    coarse_past a.file.now a.start a.q (address s.Else-end-body) (omega (arith, body_is s.After-u32_at, counted.1))

-- its coarse rows are in the file
coarse : (c : After-u32_at-2) → let f = c.args.file.now in body_at f c.args.start c.args.q + 4 + 8 * coarse_count_at f c.args.q ≤ length f
coarse c =
    let s = goal.at.After-u32_at-2 c in
    let counted = counts s.After-u32_at in
    omega (arith, body_is s.After-u32_at, counted.1, c.if-file-body.false)

-- its fine rows stand where its body says
fine_at : (c : After-u32_at-2) → c.args.start + 6 + c.u32_at.result + c.u32_at-2.result ≡ fine_start c.args.file.now c.args.start c.args.q
fine_at c =
    let a = c.args in
    let body = a.start + 6 + c.u32_at.result in
    fine_is a.file.now a.start a.q body c.u32_at-2.result (body_is (goal.at.After-u32_at-2 c).After-u32_at) c.u32_at-2.ensures.same

pub returns-then-end-fine : goal.returns-then-end-fine
returns-then-end-fine c =
    let a = c.args in
    let s = goal.at.returns-then-end-fine c in
    fine_address_past a.file.now a.start a.q (address s.Else-end-body) (coarse s.After-u32_at-2) (omega (arith, fine_at s.After-u32_at-2, c.requires.end_is))

-- not behind the section's end
fine : (c : Else-end-fine) → fine_start c.args.file.now c.args.start c.args.q ≤ cpi_end c.args.file.now c.args.start
fine c = omega (arith, fine_at (goal.at.Else-end-fine c).After-u32_at-2, c.requires.end_is, c.if-end-fine.false)

pub returns-then-file-fine : goal.returns-then-file-fine
returns-then-file-fine c =
    let a = c.args in
    let s = goal.at.returns-then-file-fine c in
    let counted = counts s.After-u32_at in
    fine_past a.file.now a.start a.q (address s.Else-end-body) (coarse s.After-u32_at-2) (fine s.Else-end-fine) (omega (arith, fine_at s.After-u32_at-2, counted.2))

pub returns : goal.returns
returns c =
    let a = c.args in
    let s = goal.at.returns c in
    let n = (counts s.After-u32_at).2 in
    ap (λ (m : ℕ). Ok m) n
    ∙ map_fits_lem a.file.now a.start a.q (address s.Else-end-body) (coarse s.After-u32_at-2) (fine s.Else-end-fine) (omega (arith, fine_at s.After-u32_at-2, n))
