-- Where an operation ends, and how.
use Rattle.std.proofs.Common.{◌≡◌, ◌<◌, ℕ, List, length, ap, ◌∙◌}
use Rattle.world_model.specs.declared.answer.Answer.{Answer}
use Rattle.world_model.specs.declared.entry.Entry.{Entry}
use Rattle.world_model.specs.declared.entry.Entry.TheVariants.{Answered}
use Rattle.world_model.specs.Entries.{At}
use Rattle.world_model.proofs.Places.{At-below}
use Rattle.trace_answers.specs.Ends.{EndsThere, NeverEnds}
use Rattle.trace_claims.specs.declared.endings.Ending.{Ending}
use Rattle.trace_claims.specs.declared.endings.Outcome.TheVariants as outcomes
use Rattle.trace_claims.specs.Endings.{outcome_of, outcome_there, outcome_at, EndsSo, answered, unanswered}

pub ends-within : (h : List Entry) (x y : ℕ) → EndsThere h x y → y < length h
ends-within h x y e = At-below h y (Answered e.0 e.3.line e.2) e.3.answered

-- what the answer says that stands there
outcome-at : (h : List Entry) (lane line y : ℕ) (a : Answer) → At h y (Answered lane line a) → outcome_at h y ≡ outcome_of a
unfolding outcome_at
outcome-at h lane line y a at = ap outcome_there at

pub ends-there : (h : List Entry) (x : ℕ) (e : Ending) → EndsThere h x e.end → e.outcome ≡ outcome_at h e.end → EndsSo h x e
ends-there h x e there is = answered there.0 there.1 there.2 there.3 (is ∙ outcome-at h there.0 there.3.line e.end there.2 there.3.answered)

pub ends-nowhere : (h : List Entry) (x : ℕ) (e : Ending) → NeverEnds h x → e.end ≡ length h → e.outcome ≡ outcomes.Unanswered → EndsSo h x e
ends-nowhere h x e never at is = unanswered (never (length h)) at is
