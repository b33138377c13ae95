-- The parts of the choice of the primary map.
use Rattle.std.specs.Prelude.{ℕ, List, map, Bool, true, Option, None, Some, ltb}
use Rattle.format.specs.ClipRecord.{map_pid}
use Rattle.format.specs.Questions.{next_video_ep_map, Answer, none, Best, nothing, best, best_of, row_or, or_else, ask}
use Rattle.format.specs.Tables.{Table, rows_of, map_cells}
use Rattle.queries.specs.Asked.{only_maps}
use Rattle.cpi_queries.specs.declared.PidRow.{PidRow}

-- of two PIDs the lesser one is better
abbrev pub less_pid : ℕ → ℕ → Bool
less_pid y z = ltb y z

-- a row with its PID, as the best so far
abbrev pub as_best : Option PidRow → Best
as_best None = nothing
as_best (Some r) = best r.row r.pid

-- the least, the earliest among equals
abbrev pub least_pid : List ℕ → Answer
least_pid pids = row_or none (best_of (λ y. true) less_pid 0 pids nothing)

-- the first video map, else the one with the least PID
abbrev pub video_or_least : Table → Answer
video_or_least maps = or_else (ask (next_video_ep_map 0) (only_maps maps)) (least_pid (map map_pid (rows_of map_cells maps)))
