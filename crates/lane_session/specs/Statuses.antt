-- The status of a session by its answers.
use Rattle.std.specs.Prelude.{◌≡◌, ◌≤◌, ◌⊎◌, ℕ, List, [], length, max, Result, Ok, Err}
use Rattle.world_model.specs.declared.answer.Answer.{Answer}
use Rattle.world_model.specs.declared.answer.Answer.TheVariants.{Done, Refused}
use Rattle.world_model.specs.declared.answer.Fault.{Fault}
use Rattle.world_model.specs.declared.answer.Fault.TheVariants as faults
use Rattle.world_model.specs.declared.entry.Entry.{Entry}
use Rattle.world_model.specs.declared.entry.Entry.TheVariants.{Answered}
use Rattle.world_model.specs.Entries.{At}
use Rattle.lane_session.specs.declared.halt.Halt.{Halt}
use Rattle.lane_session.specs.declared.halt.Halt.TheVariants as halts

-- after one more answer: 6 if it is lost, 1 at any other refusal unless a link was lost before
abbrev pub after_answer : ℕ → Answer → ℕ
after_answer status (Done value) = status
after_answer status (Refused faults.Lost) = 6
after_answer status (Refused fault) = max status 1

abbrev pub of_halt : Halt → ℕ
of_halt halts.Output = 5
of_halt halts.Memory = 7

-- an operation was answered so
pub record IsAnswered (h : List Entry) (answer : Answer) : Type 0 where
  pub at : ℕ
  pub lane : ℕ
  pub line : ℕ
  pub is : At h at (Answered lane line answer)

-- Status 6 if an answer is that the session is lost; else 1 if one is another refusal; else 0.
pub data HasStatus (h : List Entry) (status : ℕ) : Type 0 where
  lost : status ≡ 6 → IsAnswered h (Refused faults.Lost) → HasStatus h status
  refused : status ≡ 1 → (fault : Fault) → IsAnswered h (Refused fault) → (IsAnswered h (Refused faults.Lost) → ⊥) → HasStatus h status
  well : status ≡ 0 → ((fault : Fault) → IsAnswered h (Refused fault) → ⊥) → HasStatus h status

-- 5, a fault of the sink, or 7, out of memory: these end a session where they come
abbrev pub IsCutOff : ℕ → Type 0
IsCutOff status = (status ≡ 5) ⊎ (status ≡ 7)

-- the status by all answers
abbrev pub IsSessionStatus : ℕ → Type 0
IsSessionStatus status = (status ≡ 0) ⊎ (status ≡ 1) ⊎ (status ≡ 6)

-- a session ends with one of these
abbrev pub IsEnding : ℕ → Type 0
IsEnding status = (status ≡ 0) ⊎ (status ≡ 1) ⊎ (status ≡ 6) ⊎ IsCutOff status

-- a session is cut off by the sink only with this cause
abbrev pub CausedBy : {T : Type 0} → Result T Halt → Type 0 → Type 0
CausedBy (Ok x) P = Unit {0}
CausedBy (Err halts.Output) P = P
CausedBy (Err halts.Memory) P = Unit {0}

-- A reading that wasn't noted is left only for want of memory.
abbrev pub IsLeft : Halt → List ℕ → Type 0
IsLeft halts.Output last = last ≡ []
IsLeft halts.Memory last = length last ≤ 1
