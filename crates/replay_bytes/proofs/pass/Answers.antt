-- What one of both has not is none; else the library's test decides.
use Prim.Native.Nat.{◌+◌, ◌<◌}
use mathlib.Core.Path.{sym, ◌∙◌}
use mathlib.Core.Logic.{inl, inr}
use native.Mathlib.Omega.{arith}
use lib.ListN.{length}
use Rattle.std.specs.Prelude.{Some}
use Rattle.std.proofs.lemmas.Slice.{between_to_end}
use Rattle.replay_bytes.proofs.PartLaws.{part_outside, part_beyond, part_stands, part_differs, cut_part}
use Rattle.replay_bytes.proofs.pass.Goals as goal

pub returns-in_err-get : goal.returns-in_err-get
returns-in_err-get c =
    let a = c.args in
    let h : length a.other.now < a.from + a.n = elim c.in_err-get.ensures.lookup.0 [ inl x ↦ omega arith | inr x ↦ omega arith ] in
    c.from_residual.ensures ∙ part_outside a.answer.now (Some a.at) a.other.now a.from a.n h

pub returns-in_err-part : goal.returns-in_err-part
returns-in_err-part c =
    let a = c.args in
    let rest = c.in_ok-get.ensures.lookup.0 in
    let h : length a.other.now < a.from + a.n = elim c.in_err-part.ensures.lookup.0 [ inl x ↦ omega arith | inr x ↦ omega arith ] in
    c.from_residual-in_err-part.ensures ∙ part_outside a.answer.now (Some a.at) a.other.now a.from a.n h

pub returns-in_err-get-2 : goal.returns-in_err-get-2
returns-in_err-get-2 c =
    let a = c.args in
    let rest = c.in_ok-get.ensures.lookup.0 in
    let part = c.in_ok-part.ensures.lookup.0 in
    let h : length a.answer.now < a.at = elim c.in_err-get-2.ensures.lookup.0 [ inl x ↦ omega arith | inr x ↦ omega arith ] in
    c.from_residual-in_err-get-2.ensures ∙ part_beyond a.answer.now a.at a.other.now a.from a.n h (omega arith)

pub returns-then-starts_with : goal.returns-then-starts_with
returns-then-starts_with c =
    let a = c.args in
    let rest = c.in_ok-get.ensures.lookup.0 in
    let part = c.in_ok-part.ensures.lookup.0 in
    let left = c.in_ok-get-2.ensures.lookup.0 in
    let cut = cut_part a.other.now a.from a.n rest.2 part.2 in
    let behind = left.2 ∙ between_to_end a.answer.now a.at (length a.answer.now) (omega arith) in
    part_stands a.answer.now a.at a.other.now a.from a.n (omega arith) cut behind (omega arith) (sym c.starts_with.ensures.value ∙ c.if-starts_with.true)

pub returns-else-starts_with : goal.returns-else-starts_with
returns-else-starts_with c =
    let a = c.args in
    let rest = c.in_ok-get.ensures.lookup.0 in
    let part = c.in_ok-part.ensures.lookup.0 in
    let left = c.in_ok-get-2.ensures.lookup.0 in
    let cut = cut_part a.other.now a.from a.n rest.2 part.2 in
    let behind = left.2 ∙ between_to_end a.answer.now a.at (length a.answer.now) (omega arith) in
    part_differs a.answer.now a.at a.other.now a.from a.n (omega arith) cut behind (sym c.starts_with.ensures.value ∙ c.if-starts_with.false)
