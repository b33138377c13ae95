-- The two parts are the file and the answer.
use Prim.Native.Nat.{◌+◌}
use native.Mathlib.Nat.{add-sub_cancel_left}
use Rattle.replay_cases.proofs.is_case_same.Goals as goal

pub returns : goal.returns
returns c =
    let a = c.args in
    rw (add-sub_cancel_left 8 a.n, add-sub_cancel_left (8 + a.n) a.m) at c.is_same.ensures
