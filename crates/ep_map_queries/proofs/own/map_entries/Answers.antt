-- What is told of the rows is the definition's, and they stand in the table.
use native.Mathlib.Omega.{arith}
use Rattle.std.proofs.lemmas.Result.{err_from_is_err_and}
use Rattle.format.specs.Tables.{stated}
use Rattle.ep_map_queries.proofs.Answers.{rows_told, refusal_told, inside}
use Rattle.ep_map_queries.proofs.own.map_entries.Goals as goal

pub returns-in_err-own : goal.returns-in_err-own
returns-in_err-own c =
    let a = c.args in
    let p = err_from_is_err_and c.from_residual.result c.from_residual.ensures.1 in
    rw (p.1, p.2) (refusal_told (stated a.maps.bytes.now a.maps.rows) (stated a.entries.bytes.now a.entries.rows) a.map c.in_err-own.ensures)

pub invariant_of-result : goal.invariant_of-result
invariant_of-result c =
    let a = c.args in
    record { inside = inside (stated a.maps.bytes.now a.maps.rows) (stated a.entries.bytes.now a.entries.rows) a.map c.in_ok-own.ensures }

pub returns : goal.returns
returns c = let a = c.args in rows_told (stated a.maps.bytes.now a.maps.rows) (stated a.entries.bytes.now a.entries.rows) a.map c.in_ok-own.ensures

pub overflow_mul-result : goal.overflow_mul-result
overflow_mul-result c =
    let a = c.args in
    omega (arith, inside (stated a.maps.bytes.now a.maps.rows) (stated a.entries.bytes.now a.entries.rows) a.map c.in_ok-own.ensures)
