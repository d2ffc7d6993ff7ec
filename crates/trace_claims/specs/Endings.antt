-- Where operations of a history end: at the first answer of their lane and line.
use Rattle.std.specs.Prelude.{◌≡◌, ℕ, List, length, Option, Some, None, slice_get}
use Rattle.world_model.specs.declared.answer.Answer.{Answer}
use Rattle.world_model.specs.declared.answer.Answer.TheVariants.{Done, Refused}
use Rattle.world_model.specs.declared.entry.Entry.{Entry}
use Rattle.world_model.specs.declared.entry.Entry.TheVariants.{Began, Answered, Dialed, Sent, Executed, Foreign, Flushed, Reboot, Delivered, Failed, Clock}
use Rattle.world_model.specs.declared.op.Op.{Op}
use Rattle.world_model.specs.Operations.{Ended, AnsweredBefore}
use Rattle.trace_claims.specs.declared.endings.Outcome.{Outcome}
use Rattle.trace_claims.specs.declared.endings.Outcome.TheVariants as outcomes
use Rattle.trace_claims.specs.declared.endings.Ending.{Ending}

-- what an answer says
abbrev pub outcome_of : Answer → Outcome
outcome_of (Done value) = outcomes.Done
outcome_of (Refused fault) = outcomes.Refused

abbrev pub outcome_by : Entry → Outcome
outcome_by (Answered of at answer) = outcome_of answer
outcome_by (Began of at op) = outcomes.Unanswered
outcome_by (Dialed port) = outcomes.Unanswered
outcome_by (Sent bytes) = outcomes.Unanswered
outcome_by (Executed xid call reply) = outcomes.Unanswered
outcome_by (Foreign call reply) = outcomes.Unanswered
outcome_by (Flushed file from len) = outcomes.Unanswered
outcome_by (Reboot verf) = outcomes.Unanswered
outcome_by (Delivered bytes) = outcomes.Unanswered
outcome_by Failed = outcomes.Unanswered
outcome_by (Clock ms) = outcomes.Unanswered

abbrev pub outcome_there : Option Entry → Outcome
outcome_there None = outcomes.Unanswered
outcome_there (Some e) = outcome_by e

unfoldable pub outcome_at : List Entry → ℕ → Outcome
outcome_at h i = outcome_there (slice_get h i)

-- The operation that began at the place x ended there and so: with its answer, or with the history.
pub data EndsSo (h : List Entry) (x : ℕ) (e : Ending) : Type 0 where
  answered : (lane : ℕ) (op : Op) (answer : Answer) → Ended h lane x op e.end answer → e.outcome ≡ outcome_of answer → EndsSo h x e
  unanswered : (AnsweredBefore h x (length h) → ⊥) → e.end ≡ length h → e.outcome ≡ outcomes.Unanswered → EndsSo h x e
