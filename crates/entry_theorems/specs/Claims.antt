-- What the contracts of the lookups on records claim of a result. That they claim this and nothing else, and require nothing, is `Claimed`.
use Rattle.std.specs.Prelude.{ℕ, ◌≡◌, List, map}
use seplogic.Ra.Ura.{Ura}
use base.Logic.{SProp, emp}
use prog.Memory.{Memory}
use prog.Routine.{Routine}
use types.Logic.{Logic}
use contract.Lifetimes.{Lfts}
use contract.Monad.{Fun, fact}
use Rattle.std.specs.Borrow.{Bor}
use denote.Triple.Clauses.{Clauses}
use Rattle.format.specs.ClipRecord.{time}
use Rattle.format.specs.Questions.{Answer, answer_numbers, ticks90, at_or_before, after, seek, next_seek, span_of}
use Rattle.clpi_answers.specs.declared.ClpiAnswer.{ClpiAnswer}
use Rattle.clpi_answers.specs.Numbers.{found_numbers}
use Rattle.ep_entry_steps.specs.declared.EpEntry.{EpEntry}
use Rattle.ep_entry_steps.specs.Records.{as_rows}
use Rattle.ep_entry_queries.specs.contracts.entry_point_at_or_before as at_or_before_call
use Rattle.ep_entry_queries.specs.contracts.entry_point_after as behind_call
use Rattle.ep_entry_queries.specs.contracts.seek_spn as seek_call
use Rattle.ep_entry_queries.specs.contracts.next_seek_spn as next_seek_call
use Rattle.ep_entry_queries.specs.contracts.indexed_span_90k as span_call

-- a result whose numbers are those of an answer
abbrev pub Tells : ClpiAnswer → Answer → Type 0
Tells r a = found_numbers r ≡ answer_numbers a

-- what each answers of these records
abbrev pub at_or_before_of : List EpEntry → ℕ → Answer
at_or_before_of es t = at_or_before (map time (as_rows es)) t

abbrev pub after_of : List EpEntry → ℕ → Answer
after_of es t = after (map time (as_rows es)) t

abbrev pub seek_of : List EpEntry → ℕ → Answer
seek_of es t = seek (as_rows es) t

abbrev pub next_seek_of : List EpEntry → ℕ → Answer
next_seek_of es t = next_seek (as_rows es) t

abbrev pub span_answer : List EpEntry → Answer
span_answer es = ticks90 (span_of (as_rows es))

-- wherever contracts are read
module _ {M : Type 1} {𝓤 : Ura M} (𝓛 : Logic 𝓤) (mem : Memory → SProp 𝓤) (run : Routine → Fun 𝓤) where
  -- nothing is required, and the `ensures` of a call, at any row s of records, time and result
  abbrev pub ClaimsAt : Clauses 𝓤 at_or_before_call.ended → (List EpEntry → ℕ → Answer) → Type 2
  ClaimsAt contract answer = (κs : Lfts 1) (s : Bor (List EpEntry)) (t : ℕ) (g : (contract κs (s, (t, tt))).ghost) (r : ClpiAnswer)
      → ((contract κs (s, (t, tt))).requires g ≡ emp 𝓤) × ((contract κs (s, (t, tt))).ensures g r ≡ (λ end. fact 𝓤 (Tells r (answer s.now t))))

  -- the same without a time
  abbrev pub Claims : Clauses 𝓤 span_call.ended → (List EpEntry → Answer) → Type 2
  Claims contract answer = (κs : Lfts 1) (s : Bor (List EpEntry)) (g : (contract κs (s, tt)).ghost) (r : ClpiAnswer)
      → ((contract κs (s, tt)).requires g ≡ emp 𝓤) × ((contract κs (s, tt)).ensures g r ≡ (λ end. fact 𝓤 (Tells r (answer s.now))))

  -- each call claims this of its result and nothing else, and requires nothing
  pub record Claimed : Type 2 where
    pub entry_point_at_or_before : ClaimsAt (at_or_before_call.clauses 𝓛 mem run) at_or_before_of
    pub entry_point_after : ClaimsAt (behind_call.clauses 𝓛 mem run) after_of
    pub seek_spn : ClaimsAt (seek_call.clauses 𝓛 mem run) seek_of
    pub next_seek_spn : ClaimsAt (next_seek_call.clauses 𝓛 mem run) next_seek_of
    pub indexed_span_90k : Claims (span_call.clauses 𝓛 mem run) span_answer
