-- A schedule as data: what its lines ask for, by what they speak of.
use Rattle.std.specs.Prelude.{ℕ, [], ◌∷◌, ◌++◌, ◌==◌, ◌&&◌, Bool, true, false, Option, Some, None, if◌then◌else◌}
use Rattle.world_link.specs.declared.directive.RequestId.{RequestId}
use Rattle.world_link.specs.declared.directive.Directive.{Directive}
use Rattle.world_link.specs.declared.directive.Directive.TheVariants.{Tick, Place, Mount, NoDial, Before, After, Lose, Mute, Hold, Late, Answer, Partial, Limit}
use Rattle.world_link.specs.Fates.{FateView, no_fate}

pub record PlanView : Type 0 where
  -- milliseconds from one reading of the clock to the next
  pub tick : ℕ
  -- the status that MNT is answered with
  pub mount : Option ℕ
  -- whether a dial fails, counted from 1
  pub fails : ℕ → Bool
  pub fate : RequestId → FateView

-- nothing is planned
abbrev pub no_plan : PlanView
no_plan = record { tick = 0; mount = None; fails = λ k. false; fate = λ s. no_fate }

abbrev pub is_same : RequestId → RequestId → Bool
is_same s other = (s.proc == other.proc) && (s.k == other.k)

-- the transmission has this fate, and each other the one it had
abbrev pub destined : PlanView → RequestId → FateView → PlanView
destined plan s fate = record plan { fate = λ other. if is_same s other then fate else plan.fate other }

-- The plan with one line more. The last status, break, bound and tick hold; copies, events and waits are kept in the order of
-- their lines. Objects are no part of the plan.
abbrev pub planned : PlanView → Directive → PlanView
planned plan (Tick n) = record plan { tick = n }
planned plan (Place path file) = plan
planned plan (Mount n) = record plan { mount = Some n }
planned plan (NoDial n) = record plan { fails = λ k. if n == k then true else plan.fails k }
planned plan (Before s event) = destined plan s (record (plan.fate s) { before = (plan.fate s).before ++ event ∷ [] })
planned plan (After s event) = destined plan s (record (plan.fate s) { after = (plan.fate s).after ++ event ∷ [] })
planned plan (Lose s) = destined plan s (record (plan.fate s) { lost = true })
planned plan (Mute s) = destined plan s (record (plan.fate s) { muted = true })
planned plan (Hold s turn) = destined plan s (record (plan.fate s) { held = (plan.fate s).held ++ turn ∷ [] })
planned plan (Late s turn) = destined plan turn (record (plan.fate turn) { late = (plan.fate turn).late ++ s ∷ [] })
planned plan (Answer s status) = destined plan s (record (plan.fate s) { answer = Some status })
planned plan (Partial s part) = destined plan s (record (plan.fate s) { partial = Some part })
planned plan (Limit s most) = destined plan s (record (plan.fate s) { limit = Some most })
