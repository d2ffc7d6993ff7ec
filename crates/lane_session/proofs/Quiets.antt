-- A call of the link notes nothing.
use Rattle.std.proofs.Common.{◌≡◌, List, [], Option, ap, ◌∙◌}
use Rattle.world_model.specs.declared.entry.Entry.{Entry}
use Rattle.world_model.specs.History.{History}
use Rattle.world_model.specs.Told.{Tells, Relates}
use Rattle.lane_session.specs.Running.{marks, Quietly}
use Rattle.lane_session.proofs.Passing.{relates_same, relates_call, relates_then}
use Rattle.lane_session.proofs.Pushes.{marks-ours}
use Rattle.lane_session.proofs.Turning.{quietly-then, quietly-none}

-- what the call itself adds is no mark
pub quiet_tells : (a b : Option History) (es : List Entry) → marks es ≡ [] → Tells a b es → Relates a b Quietly
quiet_tells a b es none t = relates_call a b es Quietly (λ old new p. record { more = p.more; is = p.grown; unmarked = marks-ours p.more ∙ ap marks p.seen ∙ none }) t

pub quiet_same : (a : Option History) → Relates a a Quietly
quiet_same a = relates_same a Quietly quietly-none

pub quiet_then : (a b c : Option History) → Relates a b Quietly → Relates b c Quietly → Relates a c Quietly
quiet_then a b c p q = relates_then a b c Quietly Quietly Quietly quietly-then p q
