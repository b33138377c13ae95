-- Runs of entries that are tested to fit: where one ends, and how many there are.
use Rattle.std.specs.Prelude.{ℕ, ◌-◌, List, Bool, take, Option, Some, None}
use Rattle.format.specs.Bytes.{both, pick, every}
use Rattle.format.specs.ClipRecord.{Row}
use Rattle.format.specs.Refusals.{entry_fits}
use Rattle.format.specs.Rewriting.{runs, same_keys}
use Rattle.entry_rows.specs.declared.Words.{Words}
use Rattle.entry_rows.specs.Reads.{words_packet, words_type, words_row}
use Rattle.runs.specs.Runs.{end_from}

-- the end of a run whose entries are the first of these, the first of them number k, where each of them fits a map of this type; else none
abbrev pub fit_until : ℕ → ℕ → ℕ → List Row → Option ℕ
fit_until type end k es = pick (every (entry_fits type) (take (end - k) es)) (Some end) None

-- that of the run that begins with the first of these entries, which is number k
unfoldable pub end_fit : ℕ → ℕ → List Row → Option ℕ
end_fit type k es = fit_until type (end_from k es) k es

-- how many runs these entries have, where each of them fits a map of this type
unfoldable pub count_fit : ℕ → List Row → Option ℕ
count_fit type es = pick (every (entry_fits type) es) (Some (runs es)) None

-- two entries by their words have equal keys
abbrev pub words_same : Words → Words → Bool
words_same a b = same_keys a.time (words_packet a) b.time (words_packet b)

-- one is in the run of the other, and fits a map of the other's type
abbrev pub goes_on : Words → Words → Bool
goes_on a b = both (words_same a b) (entry_fits (words_type a) (words_row b))
