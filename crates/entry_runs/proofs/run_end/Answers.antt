-- Each turn passes an entry that is in the run of the first and fits.
use Rattle.entry_runs.proofs.Runs.{Compared, first_unfit, first_fit, words_compared, along_turn, along_stopped, along_done}
use Rattle.entry_runs.proofs.Words.{words_fit, tested}
use Rattle.entry_runs.proofs.run_end.Goals as goal
use Rattle.entry_runs.proofs.run_end.Goals.{After-goes_on}

pub returns-then-not-entry_fits : goal.returns-then-not-entry_fits
returns-then-not-entry_fits c =
    let a = c.args in
    first_unfit a.entries.bytes.now a.entries.first a.entries.count a.map_type a.from c.requires (tested c.args.map_type c.entry.ensures c.entry_fits.ensures) c.if-not-entry_fits.true

pub loop-k-init : goal.loop-k-init
loop-k-init c =
    let a = c.args in
    first_fit a.entries.bytes.now a.entries.first a.entries.count a.map_type a.from c.requires (tested c.args.map_type c.entry.ensures c.entry_fits.ensures) c.if-not-entry_fits.false

pub goes_on-requires : goal.goes_on-requires
goes_on-requires c =
    let a = c.args in
    words_fit a.entries.bytes.now _ a.map_type c.words-first.ensures (tested c.args.map_type c.entry.ensures c.entry_fits.ensures) c.if-not-entry_fits.false

-- row k is compared with the first
compared : (c : After-goes_on) → let a = c.args in Compared a.entries.bytes.now a.entries.first a.entries.count a.map_type a.from c.loop-k.k c.goes_on.result
compared c =
    let a = c.args in
    words_compared a.entries.bytes.now a.entries.first a.entries.count a.map_type a.from c.loop-k.k c.loop-k.invariant c.loop-k-test.true c.words-first.ensures c.words.ensures (tested c.args.map_type c.entry.ensures c.entry_fits.ensures) c.if-not-entry_fits.false c.goes_on.ensures

pub returns-then-not-goes_on : goal.returns-then-not-goes_on
returns-then-not-goes_on c =
    let a = c.args in
    along_stopped a.entries.bytes.now a.entries.first a.entries.count a.map_type a.from c.loop-k.k (compared (goal.at.returns-then-not-goes_on c).After-goes_on) c.if-not-goes_on.true c.stopped.ensures

pub loop-k-preserved : goal.loop-k-preserved
loop-k-preserved c =
    let a = c.args in
    along_turn a.entries.bytes.now a.entries.first a.entries.count a.map_type a.from c.loop-k.k (compared (goal.at.loop-k-preserved c).After-goes_on) c.if-not-goes_on.false

pub returns : goal.returns
returns c = let a = c.args in along_done a.entries.bytes.now a.entries.first a.entries.count a.map_type a.from c.loop-k.k c.loop-k.invariant c.loop-k-test.false
